-- The sum of the numbers of all pairs of a list of vectors. Assumes nothing: these are definitions.
use Rattle.std.specs.Prelude.{List, ℕ, zero, suc, ◌+◌, ◌<◌, length}
use Rattle.sky.specs.Vectors.{Vector, Sound, star_at, pair_number}

abbrev pub AllSound : List Vector → Type 0
AllSound vs = (i : ℕ) → i < length vs → Sound (star_at vs i)

-- of vector i with the first n
abbrev pub sum_of_row : List Vector → ℕ → ℕ → ℕ
sum_of_row vs i zero = 0
sum_of_row vs i (suc n) = sum_of_row vs i n + pair_number (star_at vs i) (star_at vs n)

-- of the first n, each with those before it
abbrev pub sum_of_rows : List Vector → ℕ → ℕ
sum_of_rows vs zero = 0
sum_of_rows vs (suc n) = sum_of_rows vs n + sum_of_row vs n n

abbrev pub sum_of_all : List Vector → ℕ
sum_of_all vs = sum_of_rows vs (length vs)
