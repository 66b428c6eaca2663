-- The law of the first condition that holds, over every ordered list of conditions: a list that grows needs no new law. At each `?` of a request's check, and at its last check, `search (passed, refused)` and `search (passed, decided)` go along the list.
use Rattle.std.proofs.Common.{◌≡◌, ℕ, ◌<◌, Bool, true, false, cond, ltb, List, [], ◌∷◌, Ok, Err, Result, refl, sym, ap, subst, ◌∙◌, inl, inr, ⊎_elim, arith}
use Rattle.std.proofs.lemmas.Bool.Decides.{nat_tests}
use Rattle.std.proofs.lemmas.Result.{err_from_is_err_and}
use Rattle.std.specs.Result.{result_and, result_from_control_flow, IsErrAnd}
use Rattle.std.specs.declared.ops.ControlFlow.TheVariants.{Continue, Break}
use Rattle.requests.specs.declared.refusal.Refusal.{Refusal}
use Rattle.requests.specs.First.{Condition, Holds, Checks, Answers}

abbrev Checked : Type 0
Checked = Result Unit Refusal

-- whether the conditions stand in the order of their numbers, each number above m
abbrev pub rising : ℕ → List Condition → Bool
rising m [] = true
rising m (c ∷ cs) = cond (ltb m c.number) (rising c.number cs) false

above : (m : ℕ) (cs : List Condition) → rising m cs ≡ true → (n p : ℕ) → Holds cs n p → m < n
above m [] o n p h = absurd h
above m (c ∷ cs) o n p (inl h) = grind (arith, nat_tests)
above m (c ∷ cs) o n p (inr h) =
    let e : (m < c.number) × (rising c.number cs ≡ true) = grind (arith, nat_tests) in
    omega (arith, above c.number cs e.1 n p h)

-- the first condition holds
held : (c : Condition) (cs : List Condition) (e : Refusal) → Checks c (Err e) → rising c.number cs ≡ true → Answers (c ∷ cs) (Err e)
held c cs e h o =
    record { holds = inl (sym h.checked.0, h.checked.1); no_smaller = λ m q lt. ⊎_elim (λ i. omega arith) (λ i. omega (arith, above c.number cs o m q i)); no_earlier = λ q lt. ⊎_elim (λ i. h.checked.2 q lt i.1) (λ i. omega (arith, above c.number cs o _ q i)) }

-- the first condition holds nowhere, so the others decide
skipped : (c : Condition) (cs : List Condition) (s : Checked) → Checks c (Ok tt) → Answers cs s → Answers (c ∷ cs) s
skipped c cs (Ok u) h k = record { none = λ n p. ⊎_elim (λ i. h.checked p i.1) (k.none n p) }
skipped c cs (Err e) h k =
    record { holds = inr k.holds; no_smaller = λ m q lt. ⊎_elim (λ i. h.checked q i.1) (k.no_smaller m q lt); no_earlier = λ q lt. ⊎_elim (λ i. h.checked q i.1) (k.no_earlier q lt) }

-- `check()?` left with the error f.0, as s
pub refused : (c : Condition) (cs : List Condition) (r s : Checked) (b : _) (f : _) → Checks c r → r ≡ result_from_control_flow b → b ≡ Break f → IsErrAnd s (λ e. e ≡ f.0) → rising c.number cs ≡ true → Answers (c ∷ cs) s
refused c cs r s b f h i j k o =
    let e = err_from_is_err_and s k in
    rw (e.1, e.2) (held c cs f.0 (subst (Checks c) (i ∙ ap result_from_control_flow j) h) o)

-- `check()?` went on
pub passed : (c : Condition) (cs : List Condition) (r s : Checked) (b : _) (u : Unit {0}) → Checks c r → r ≡ result_from_control_flow b → b ≡ Continue u → Answers cs s → Answers (c ∷ cs) s
passed c cs r s b u h i j k = skipped c cs s (subst (Checks c) (i ∙ ap result_from_control_flow j) h) k

-- the last check's answer is returned as it is
pub decided : (c : Condition) (r : Checked) → Checks c r → Answers (c ∷ []) r
decided c (Ok u) h = skipped c [] (Ok u) h (record { none = λ n p i. i })
decided c (Err e) h = held c [] e h refl

-- ---- the same of all checks of a list at once, for a caller that has made each of them
-- the conditions stand in the order of their numbers, each number above m
abbrev pub Rising : ℕ → List Condition → Type 0
Rising m [] = Unit {0}
Rising m (c ∷ cs) = (m < c.number) × Rising c.number cs

risen : (m : ℕ) (cs : List Condition) → Rising m cs → rising m cs ≡ true
risen m [] h = refl
risen m (c ∷ cs) h =
    let k : rising c.number cs ≡ true = risen c.number cs h.1 in
    let l : m < c.number = h.0 in
    grind (arith, nat_tests)

-- each condition was checked, with these results
abbrev pub Each : List Condition → List Checked → Type 0
Each [] [] = Unit {0}
Each [] (r ∷ rs) = ⊥
Each (c ∷ cs) [] = ⊥
Each (c ∷ cs) (r ∷ rs) = Checks c r × Each cs rs

-- the results one after another, as `r.and(s).and(t)` joins them
abbrev pub joined : Checked → List Checked → Checked
joined r [] = r
joined r (s ∷ rs) = joined (result_and r s) rs

joined_err : (e : Refusal) (rs : List Checked) → joined (Err e) rs ≡ Err e
joined_err e [] = refl
joined_err e (s ∷ rs) = joined_err e rs

answers : (c : Condition) (cs : List Condition) (r : Checked) (rs : List Checked) → rising c.number cs ≡ true → Each (c ∷ cs) (r ∷ rs) → Answers (c ∷ cs) (joined r rs)
answers c cs (Err e) rs o h = rw (joined_err e rs) (held c cs e h.0 o)
answers c [] (Ok u) [] o h = decided c (Ok u) h.0
answers c [] (Ok u) (s ∷ rs) o h = absurd h.1
answers c (d ∷ cs) (Ok u) [] o h = absurd h.1
answers c (d ∷ cs) (Ok u) (s ∷ rs) o h =
    let k : (c.number < d.number) × (rising d.number cs ≡ true) = grind (arith, nat_tests) in
    skipped c (d ∷ cs) (joined s rs) h.0 (answers d cs s rs k.1 h.1)

-- checks in the order of their conditions answer, one behind the other, by the first condition that holds
pub in_order : (cs : List Condition) (r : Checked) (rs : List Checked) (t : Checked) → t ≡ joined r rs → Rising 0 cs → Each cs (r ∷ rs) → Answers cs t
in_order [] r rs t e o h = absurd h
in_order (c ∷ cs) r rs t e o h = rw e (answers c cs r rs (risen c.number cs o.1) h)
