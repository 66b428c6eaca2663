-- Directions of vectors, and numbers of pairs in a list of vectors. Assumes nothing: these are definitions.
use Rattle.std.specs.Prelude.{◌≡◌, ℕ, List, Option, MatchOption}
use Rattle.sky.specs.Vectors.{Vector, vec, Sound, star_at, pair_number}
use Rattle.sky.specs.declared.direction.Direction.{Direction}

-- the vector of a direction
abbrev pub vector : Direction → Vector
vector d = vec d.x.value d.y.value d.z.value

-- the direction of a vector, or none where the vector is not sound
abbrev pub DirectionOf : Vector → Option Direction → Type 0
DirectionOf v r = MatchOption r (Sound v → ⊥) (λ d. vector d ≡ v)

-- the number of the pair of stars i and j, or none where one of them is no direction
abbrev pub NumberOf : List Vector → ℕ → ℕ → Option ℕ → Type 0
NumberOf vs i j r =
    MatchOption r (Sound (star_at vs i) × Sound (star_at vs j) → ⊥) (λ n. n ≡ pair_number (star_at vs i) (star_at vs j))
