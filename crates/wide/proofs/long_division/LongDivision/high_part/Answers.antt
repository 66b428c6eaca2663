use Rattle.std.proofs.Common.{◌+◌, ◌*◌, ◌/◌, ◌^◌, arith}
use Rattle.wide.proofs.Parts.{part}
use Rattle.wide.proofs.long_division.LongDivision.high_part.Goals as goal

pub returns-then-lead-top : goal.returns-then-lead-top
returns-then-lead-top c =
    let d = c.args.self.now.divisor in
    (part _ _ _ _ _ d.positive d.covers c.without_last-lead.ensures c.without_last-lead.result.high (2 ^ 64) _ (omega arith) c.if-lead-top.true (omega arith) (omega arith), λ s. omega (arith, c.without_last-lead.ensures))

pub returns-then-middle-top : goal.returns-then-middle-top
returns-then-middle-top c =
    let d = c.args.self.now.divisor in
    (part _ _ _ _ _ d.positive d.covers c.without_last-lead.ensures (c.without_last-lead.result.high * 4294967296 + c.without_last-lead.result.low / 4294967296) (2 ^ 32) _ (omega arith) c.if-middle-top.true (omega arith) c.product.ensures, λ s. omega (arith, c.without_last-lead.ensures))
