-- With each turn the remainder is below one divisor less.
use Rattle.std.proofs.Common.{◌+◌, ◌*◌, ◌<◌}
use Rattle.wide.specs.LongDivision.{SameDivision}
use Rattle.wide.specs.Value.{value}
use Rattle.wide.proofs.long_division.LongDivision.take_last_two.Given as goal

abbrev pub invariant-loop-turn : goal.invariant-loop-turn
invariant-loop-turn l =
    SameDivision l.initial.self l.self × (value l.self.remainder + l._turn * value l.self.divisor.number < 3 * value l.self.divisor.number)
