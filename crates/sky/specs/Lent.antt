-- Vectors as they are lent: three numbers each, one after another. Assumes nothing: these are definitions.
use Rattle.std.specs.Prelude.{ℕ, ◌+◌, ◌*◌, ◌/◌, List, map, length, ℤ, pos, ◌-ℤ◌, slice_index}
use Rattle.std.specs.List.{range_with_len}
use Rattle.sky.specs.Vectors.{Vector, vec, Sound, star_at}

-- a coordinate is lent with 65,536 added
abbrev pub coordinate : ℕ → ℤ
coordinate n = pos n -ℤ pos 65536

-- the vector that three numbers are lent for
abbrev pub lent : (x y z : ℕ) → Vector
lent x y z = vec (coordinate x) (coordinate y) (coordinate z)

-- how many vectors a list of lent numbers holds
abbrev pub count : List ℕ → ℕ
count ns = length ns / 3

-- the vector with number i, and all of them
abbrev pub vector_at : List ℕ → ℕ → Vector
vector_at ns i = lent (slice_index ns (3 * i)) (slice_index ns (3 * i + 1)) (slice_index ns (3 * i + 2))

unfoldable pub vectors : List ℕ → List Vector
vectors ns = map (vector_at ns) (range_with_len 0 (count ns))

-- the vector with number i is a direction
abbrev pub SoundAt : List ℕ → ℕ → Type 0
SoundAt ns i = Sound (star_at (vectors ns) i)
