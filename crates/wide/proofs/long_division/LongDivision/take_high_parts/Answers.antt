use Rattle.wide.proofs.Parts.{less}
use Rattle.wide.proofs.long_division.LongDivision.take_high_parts.Goals as goal

pub loop-part-smaller : goal.loop-part-smaller
loop-part-smaller c =
    less _ _ _ _ c.loop-part.self.divisor.positive c.in-Some.ensures.0.some c.take_off.ensures.less
