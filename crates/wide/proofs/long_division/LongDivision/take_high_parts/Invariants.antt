use Rattle.wide.specs.LongDivision.{SameDivision}
use Rattle.wide.specs.Value.{value}
use Rattle.wide.proofs.long_division.LongDivision.take_high_parts.Given as goal

abbrev pub invariant-loop-part : goal.invariant-loop-part
invariant-loop-part l = SameDivision l.initial.self l.self

abbrev pub decreases-loop-part : goal.decreases-loop-part
decreases-loop-part l = value l.self.remainder
