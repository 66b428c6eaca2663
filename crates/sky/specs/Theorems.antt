-- What holds of the numbers of all pairs. Each is a statement, whose proof is asked for by a function's contract. Assumes nothing.
use Rattle.std.specs.Prelude.{◌≡◌, ◌*◌, ◌^◌, ◌<◌, ◌≤◌}
use Rattle.sky.specs.Vectors.{Vector, AllInRange, length², cross, pair_number}

-- the number is the same either way round
abbrev pub SameEitherWay : Type 0
SameEitherWay = (v w : Vector) → pair_number v w ≡ pair_number w v

-- a sine is at most 1: the square of the cross product's length is at most the product of the squares of the two lengths
abbrev pub SineAtMostOne : Type 0
SineAtMostOne = (v w : Vector) → length² (cross v w) ≤ length² v * length² w

abbrev pub AtMost2^24 : Type 0
AtMost2^24 = (v w : Vector) → pair_number v w ≤ 16777216

-- what is computed for a number is small enough for 128 bits
pub record Small (v w : Vector) : Type 0 where
  pub squares : length² v < 2 ^ 34
  pub product : length² v * length² w < 2 ^ 68
  pub scaled : 16777216 * length² (cross v w) < 2 ^ 92

abbrev pub Fits128Bits : Type 0
Fits128Bits = (v w : Vector) → AllInRange v → AllInRange w → Small v w
