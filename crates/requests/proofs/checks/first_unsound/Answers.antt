use Rattle.std.proofs.Common.{rules, tests}
use Rattle.std.proofs.lemmas.Iterator.{first_from_Range}
use Rattle.sky.specs.Lent.{SoundAt}
use Rattle.sky.proofs.Made.{made_sound}
use Rattle.requests.proofs.checks.first_unsound.Goals as goal

pub returns : goal.returns
returns c =
    let ns = c.args.numbers.now in
    let f = first_from_Range _ _ _ c.find.result (λ i. SoundAt ns i → ⊥) (λ i. SoundAt ns i) c.find.ensures.ran (λ x q k. search (rules, tests)) (λ x q k. search (rules, tests, made_sound)) in
    search rules
