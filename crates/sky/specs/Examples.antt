-- The worked examples that are theorems about the definitions. Assumes nothing.
use Rattle.std.specs.Prelude.{◌≡◌, ℕ, pos}
use Rattle.sky.specs.Vectors.{Vector, vec, pair_number}

abbrev pub towards : ℕ → ℕ → ℕ → Vector
towards x y z = vec (pos x) (pos y) (pos z)

pub record WorkedExamples : Type 0 where
  pub right_angle : pair_number (towards 0 0 1) (towards 0 1 0) ≡ 16777216
  pub same_direction : pair_number (towards 0 0 1) (towards 0 0 5) ≡ 0
  pub half_a_right_angle : pair_number (towards 1 0 1) (towards 0 0 1) ≡ 8388608
  pub diagonal_and_axis : pair_number (towards 1 1 1) (towards 1 0 0) ≡ 11184810
