-- Vectors of whole numbers, and the number of a pair of them. Assumes nothing: these are definitions.
use Rattle.std.specs.Prelude.{◌≡◌, ℕ, ◌+◌, ◌*◌, ◌/◌, ◌≤◌, List, ℤ, pos, ◌-ℤ◌, ◌*ℤ◌, slice_index_or, unsigned_abs}

pub record Vector : Type 0 where
  pub x : ℤ
  pub y : ℤ
  pub z : ℤ

abbrev pub vec : (x y z : ℤ) → Vector
vec x y z = record { x = x; y = y; z = z }

-- a coordinate of a direction: from -65,535 to 65,535
abbrev pub InRange : ℤ → Type 0
InRange a = unsigned_abs a ≤ 65535

abbrev pub AllInRange : Vector → Type 0
AllInRange v = InRange v.x × InRange v.y × InRange v.z

-- a vector that is a direction: its coordinates are in range, and not all three are 0
abbrev pub Sound : Vector → Type 0
Sound v = AllInRange v × ((v.x ≡ pos 0) × (v.y ≡ pos 0) × (v.z ≡ pos 0) → ⊥)

-- what stands for a vector where there is none
abbrev pub nowhere : Vector
nowhere = vec (pos 0) (pos 0) (pos 0)

-- the vector of the star with number i; past the end of the list one that is not sound
abbrev pub star_at : List Vector → ℕ → Vector
star_at vs i = slice_index_or vs i nowhere

unfoldable pub square : ℤ → ℕ
square a = unsigned_abs a * unsigned_abs a

-- the sum of the squares of the coordinates
unfoldable pub length² : Vector → ℕ
length² v = square v.x + (square v.y + square v.z)

-- the cross product
unfoldable pub cross : Vector → Vector → Vector
cross v w =
    vec (v.y *ℤ w.z -ℤ v.z *ℤ w.y) (v.z *ℤ w.x -ℤ v.x *ℤ w.z) (v.x *ℤ w.y -ℤ v.y *ℤ w.x)

-- the number of a pair: the square of the sine of the angle between the two, in parts of 2^24 = 16777216, rounded down
unfoldable pub pair_number : Vector → Vector → ℕ
pair_number v w = (16777216 * length² (cross v w)) / (length² v * length² w)
