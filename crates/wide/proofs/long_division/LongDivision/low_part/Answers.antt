use Rattle.std.proofs.Common.{arith}
use Rattle.wide.proofs.Parts.{goes_into}
use Rattle.wide.proofs.long_division.LongDivision.low_part.Goals as goal

pub returns-clause-fits : goal.returns-clause-fits
returns-clause-fits c =
    let d = c.args.self.now.divisor in
    omega (arith, goes_into _ _ _ _ _ d.positive d.covers c.without_last-lead.ensures c.without_last-lead.result.low 1 (omega arith))
