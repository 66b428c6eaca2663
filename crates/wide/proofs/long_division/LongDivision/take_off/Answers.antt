use Rattle.std.proofs.Common.{◌+◌, ◌^◌, ◌<◌, refl, rules, arith}
use Rattle.wide.specs.Value.{value}
use Rattle.wide.proofs.Parts.{again, room}
use Rattle.wide.proofs.long_division.LongDivision.take_off.Goals as goal

pub unwrap-self-requires : goal.unwrap-self-requires
unwrap-self-requires c =
    let d = c.args.self.now in
    let r : value d.quotient + value c.args.part < 2 ^ 128 = room _ _ _ _ _ d.divisor.positive c.requires d.fits in
    search rules

pub invariant_of-self : goal.invariant_of-self
invariant_of-self c =
    let more = rw c.unwrap-self.ensures at c.checked_add.ensures in
    let less = rw c.unwrap-self-2.ensures at c.checked_sub.ensures in
    record { fits = omega (arith, c.args.self.now.fits, again _ _ _ _ _ _ _ c.times-taken.ensures less more) }

pub returns-clause-same : goal.returns-clause-same
returns-clause-same c =
    let more = rw c.unwrap-self.ensures at c.checked_add.ensures in
    let less = rw c.unwrap-self-2.ensures at c.checked_sub.ensures in
    record { dividend = again _ _ _ _ _ _ _ c.times-taken.ensures less more; divisor = refl }
