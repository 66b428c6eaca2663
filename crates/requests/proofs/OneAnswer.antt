-- A request has one answer, whatever its conditions are.
use Rattle.std.proofs.Common.{◌≡◌, ℕ, ◌<◌, cond, eqb, List, Ok, Err, sym, refl, ap, ◌∙◌, arith}
use Rattle.requests.specs.declared.refusal.LentList.TheVariants.{Stars, Spots}
use Rattle.requests.specs.declared.refusal.Refusal.{Refusal}
use Rattle.requests.specs.declared.refusal.Refusal.TheVariants.{NotThrees, StarCount, SpotCount, NamesRoom, BadStar, BadSpot, ErrorTooLarge, NoneTooLarge, GroupSize, RowsRoom, TableRoom}
use Rattle.requests.specs.First.{Condition, TurnedAway}
use Rattle.requests.specs.Refusals.{code}
use Rattle.requests.specs.OneAnswer.{OneAnswer}

-- the refusal with a number and a place
abbrev refusal : ℕ × ℕ → Refusal
refusal (n, p) =
    cond (eqb n 1) (NotThrees (cond (eqb p 0) Stars Spots)) (cond (eqb n 2) (StarCount p) (cond (eqb n 3) (SpotCount p) (cond (eqb n 4) (NamesRoom p) (cond (eqb n 5) (BadStar (record { 0 = p })) (cond (eqb n 6) (BadSpot (record { 0 = p })) (cond (eqb n 7) ErrorTooLarge (cond (eqb n 8) NoneTooLarge (cond (eqb n 9) GroupSize (cond (eqb n 10) (RowsRoom p) (TableRoom p))))))))))

refusal_code : (e : Refusal) → refusal (code e) ≡ e
refusal_code (NotThrees Stars) = refl
refusal_code (NotThrees Spots) = refl
refusal_code (StarCount p) = refl
refusal_code (SpotCount p) = refl
refusal_code (NamesRoom p) = refl
refusal_code (BadStar p) = refl
refusal_code (BadSpot p) = refl
refusal_code ErrorTooLarge = refl
refusal_code NoneTooLarge = refl
refusal_code GroupSize = refl
refusal_code (RowsRoom p) = refl
refusal_code (TableRoom p) = refl

same_refusal : (e f : Refusal) → (code e).0 ≡ (code f).0 → (code e).1 ≡ (code f).1 → e ≡ f
same_refusal e f n p =
    let both : ((code e).0, (code e).1) ≡ ((code f).0, (code f).1) = cc in sym (refusal_code e) ∙ ap refusal both ∙ refusal_code f

module _ (cs : List Condition) (n m p q : ℕ) (a : TurnedAway cs n p) (b : TurnedAway cs m q) where
  same_number : n ≡ m
  same_number =
      let up : n < m → ⊥ = λ lt. b.no_smaller n p lt a.holds in
      let down : m < n → ⊥ = λ lt. a.no_smaller m q lt b.holds in
      omega arith

  same_place : p ≡ q
  same_place =
      let up : p < q → ⊥ = λ lt. b.no_earlier p lt (rw (← same_number) a.holds) in
      let down : q < p → ⊥ = λ lt. a.no_earlier q lt (rw same_number b.holds) in
      omega arith

pub one_answer : (cs : List Condition) → OneAnswer cs
one_answer cs (Ok u) (Ok v) a b = refl
one_answer cs (Ok u) (Err f) a b = absurd (a.none _ _ b.holds)
one_answer cs (Err e) (Ok v) a b = absurd (b.none _ _ a.holds)
one_answer cs (Err e) (Err f) a b =
    ap Err (same_refusal e f (same_number cs _ _ _ _ a b) (same_place cs _ _ _ _ a b))
