use Rattle.std.proofs.Common.{◌≡◌, ◌%◌, ◌^◌}
use Rattle.sky.specs.Lent.{vectors}
use Rattle.timing.specs.Sums.{AllSound, sum_of_rows}
use Rattle.timing.proofs.sum_of_pair_numbers.Given as goal

abbrev pub invariant-loop-s : goal.invariant-loop-s
invariant-loop-s l = AllSound (vectors l.stars.0.now) → l.sum ≡ sum_of_rows (vectors l.stars.0.now) l.s % 2 ^ 64
