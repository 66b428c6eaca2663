use Rattle.std.proofs.Common.{◌≡◌, ℕ, Some, None, Option, MatchOption, unwrap_or, add-one, arith}
use Rattle.timing.proofs.sum_of_pair_numbers.Goals as goal

or_zero : (r : Option ℕ) (P : Type 0) (v : ℕ) → MatchOption r (P → ⊥) (λ x. x ≡ v) → P → unwrap_or r 0 ≡ v
or_zero None P v h p = absurd (h p)
or_zero (Some x) P v h p = h

pub loop-s-preserved : goal.loop-s-preserved
loop-s-preserved c =
    λ h.
    let row = or_zero _ _ _ c.sum_of_row.ensures (h, omega arith) in
    rw add-one (omega (arith, c.loop-s.invariant h))
