use Rattle.std.proofs.Common.{◌≡◌, ◌%◌, ◌^◌}
use Rattle.sky.specs.Lent.{vectors}
use Rattle.timing.specs.Sums.{sum_of_row}
use Rattle.timing.proofs.sum_of_row.Given as goal

abbrev pub invariant-loop-t : goal.invariant-loop-t
invariant-loop-t l = l.sum ≡ sum_of_row (vectors l.stars.0.now) l.s l.t % 2 ^ 64
