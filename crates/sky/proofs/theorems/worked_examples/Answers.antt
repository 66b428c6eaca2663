-- The checker computes each number.
use Rattle.std.proofs.Common.{refl}
use Rattle.sky.specs.Vectors.{pair_number, length², cross, square}
use Rattle.sky.proofs.theorems.worked_examples.Goals as goal

pub returns : goal.returns
unfolding pair_number length² cross square
returns c = record { right_angle = refl; same_direction = refl; half_a_right_angle = refl; diagonal_and_axis = refl }
