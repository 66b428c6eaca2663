-- How large the numbers are that a pair's number is computed from.
use Rattle.std.proofs.Common.{◌*◌, ◌≤◌, ℤ, mul-le-mul, arith}
use Rattle.sky.specs.Vectors.{Vector, InRange, AllInRange, square, length²}
use Rattle.sky.specs.Theorems.{Small}
use Rattle.sky.proofs.Pairs.{sine_at_most_one}

square_small : (a : ℤ) → InRange a → square a ≤ 65535 * 65535
unfolding square
square_small a h = mul-le-mul h h

pub length_small : (v : Vector) → AllInRange v → length² v ≤ 3 * (65535 * 65535)
unfolding length²
length_small v h = omega (arith, square_small v.x h.0, square_small v.y h.1, square_small v.z h.2)

pub small : (v w : Vector) → AllInRange v → AllInRange w → Small v w
small v w h k =
    let p : length² v * length² w ≤ 3 * (65535 * 65535) * (3 * (65535 * 65535)) = mul-le-mul (length_small v h) (length_small w k) in
    record { squares = omega (arith, length_small v h); product = omega arith; scaled = omega (arith, sine_at_most_one v w) }
