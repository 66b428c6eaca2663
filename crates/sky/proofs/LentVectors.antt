-- The laws of lent vectors: how many there are, and which one has which number. No other file opens the list.
use Rattle.std.proofs.Common.{◌≡◌, ℕ, ◌<◌, ◌≤◌, List, length, Option, sym, subst, arith}
use Rattle.std.proofs.lemmas.List.FromFn.{length-map-range_with_len, get_or-map-range_with_len}
use Rattle.std.proofs.lemmas.List.{get_or_past}
use Rattle.sky.specs.declared.direction.Direction.{Direction}
use Rattle.sky.specs.Vectors.{nowhere, star_at}
use Rattle.sky.specs.Lent.{count, vector_at, vectors}
use Rattle.sky.specs.Directions.{DirectionOf}

pub vectors_length : (ns : List ℕ) → length (vectors ns) ≡ count ns
unfolding vectors
vectors_length ns = length-map-range_with_len (vector_at ns) 0 (count ns)

pub vectors_at : (ns : List ℕ) (i : ℕ) → i < count ns → star_at (vectors ns) i ≡ vector_at ns i
unfolding vectors
vectors_at ns i h = get_or-map-range_with_len (vector_at ns) 0 (count ns) i i nowhere h (omega arith)

pub vectors_past : (ns : List ℕ) (i : ℕ) → count ns ≤ i → star_at (vectors ns) i ≡ nowhere
vectors_past ns i h = get_or_past (vectors ns) i nowhere (omega (arith, vectors_length ns))

-- the direction that a star's three numbers are lent for
pub direction_at : (ns : List ℕ) (i : ℕ) (r : Option Direction) → i < count ns → DirectionOf (vector_at ns i) r → DirectionOf (star_at (vectors ns) i) r
direction_at ns i r h k = subst (λ v. DirectionOf v r) (sym (vectors_at ns i h)) k
