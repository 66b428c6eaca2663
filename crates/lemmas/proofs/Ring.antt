-- A solver for identities of sums, differences and products, over ℕ and over ℤ. It multiplies both sides out, into polynomials with
-- numerals for coefficients, and compares. The identity is written as a function of its variables, with a colon before each operation:
--
--     three : (a b : ℕ) → (a + b) * (a + b) * 3 ≡ 3 * (a * a) + 6 * a * b + b * b * 3
--     three = ring 2 (λ a b. sq (a :+ b) :* num 3 := num 3 :* sq a :+ num 6 :* a :* b :+ sq b :* num 3) tt
--
-- `tt` is refused, as a `Unit` for a `⊥`, where the two sides are not the same polynomial. docs/PROVING.md has more on its use.
use Rattle.std.proofs.Common.{◌≡◌, refl, sym, ◌∙◌, ap, ap₂, List, [], ◌∷◌, Bool, true, false, ◌&&◌, ℕ, zero, suc, ◌+◌, ◌*◌, ◌-◌, T, ℤ, pos, ◌+ℤ◌, ◌*ℤ◌}
use Rattle.std.proofs.Math.IntN.{+ℤ_idl, -ℤ-+ℤ_cancel}
use Rattle.lemmas.proofs.Integers.{pos_inj}
use Rattle.lemmas.proofs.Polynomials.{Exp, var, num, ◌:+◌, ◌:-◌, ◌:*◌, sq, nth, den, norm, norm_sound, vanishes, ev_vanishes, both}

-- ---- two expressions are equal
infix 4 ◌:=◌
pub data Equation : Type 0 where
  ◌:=◌ : Exp → Exp → Equation

abbrev pub Says : Equation → List ℤ → Type 0
Says (a := b) ρ = den a ρ ≡ den b ρ

abbrev pub check : Equation → Bool
check (a := b) = vanishes (norm (a :- b))

pub holds : (e : Equation) → T (check e) → (ρ : List ℤ) → Says e ρ
holds (a := b) t ρ =
    sym (-ℤ-+ℤ_cancel (den a ρ) (den b ρ)) ∙ ap (λ s. s +ℤ den b ρ) (sym (norm_sound (a :- b) ρ) ∙ ev_vanishes (norm (a :- b)) t ρ) ∙ +ℤ_idl (den b ρ)

-- ---- an equation in n variables, as a function of n expressions; and for all values of n variables
abbrev pub Open : ℕ → Type 0
Open zero = Equation
Open (suc n) = Exp → Open n

abbrev pub closed : (n i : ℕ) → Open n → Equation
closed zero i e = e
closed (suc n) i f = closed n (suc i) (f (var i))

abbrev pub All : (A : Type 0) → ℕ → (List A → Type 0) → Type 0
All A zero P = P []
All A (suc n) P = (x : A) → All A n (λ ρ. P (x ∷ ρ))

every : (A : Type 0) (n : ℕ) (P : List A → Type 0) → ((ρ : List A) → P ρ) → All A n P
every A zero P h = h []
every A (suc n) P h = λ x. every A n (λ ρ. P (x ∷ ρ)) (λ ρ. h (x ∷ ρ))

pub ringℤ : (n : ℕ) (f : Open n) → T (check (closed n 0 f)) → All ℤ n (Says (closed n 0 f))
ringℤ n f t = every ℤ n (Says (closed n 0 f)) (holds (closed n 0 f) t)

-- ---- the same over ℕ, where no `:-` may stand
abbrev pub poses : List ℕ → List ℤ
poses [] = []
poses (x ∷ ρ) = pos x ∷ poses ρ

abbrev pub nth_ℕ : ℕ → List ℕ → ℕ
nth_ℕ i [] = 0
nth_ℕ zero (x ∷ ρ) = x
nth_ℕ (suc i) (x ∷ ρ) = nth_ℕ i ρ

abbrev pub den_ℕ : Exp → List ℕ → ℕ
den_ℕ (var i) ρ = nth_ℕ i ρ
den_ℕ (num k) ρ = k
den_ℕ (a :+ b) ρ = den_ℕ a ρ + den_ℕ b ρ
den_ℕ (a :- b) ρ = den_ℕ a ρ - den_ℕ b ρ
den_ℕ (a :* b) ρ = den_ℕ a ρ * den_ℕ b ρ

abbrev pub plain : Exp → Bool
plain (var i) = true
plain (num k) = true
plain (a :+ b) = plain a && plain b
plain (a :- b) = false
plain (a :* b) = plain a && plain b

nth_pos : (i : ℕ) (ρ : List ℕ) → nth i (poses ρ) ≡ pos (nth_ℕ i ρ)
nth_pos zero [] = refl
nth_pos (suc i) [] = nth_pos i []
nth_pos zero (x ∷ ρ) = refl
nth_pos (suc i) (x ∷ ρ) = nth_pos i ρ

den_pos : (e : Exp) → T (plain e) → (ρ : List ℕ) → den e (poses ρ) ≡ pos (den_ℕ e ρ)
den_pos (var i) t ρ = nth_pos i ρ
den_pos (num k) t ρ = refl
den_pos (a :+ b) t ρ = ap₂ ◌+ℤ◌ (den_pos a (both (plain a) (plain b) t).0 ρ) (den_pos b (both (plain a) (plain b) t).1 ρ)
den_pos (a :- b) t ρ = absurd t
den_pos (a :* b) t ρ = ap₂ ◌*ℤ◌ (den_pos a (both (plain a) (plain b) t).0 ρ) (den_pos b (both (plain a) (plain b) t).1 ρ)

abbrev pub Saysℕ : Equation → List ℕ → Type 0
Saysℕ (a := b) ρ = den_ℕ a ρ ≡ den_ℕ b ρ

abbrev pub check_ℕ : Equation → Bool
check_ℕ (a := b) = (plain a && plain b) && check (a := b)

holds_ℕ : (e : Equation) → T (check_ℕ e) → (ρ : List ℕ) → Saysℕ e ρ
holds_ℕ (a := b) t ρ =
    let s = both (plain a && plain b) (check (a := b)) t in
    let u = both (plain a) (plain b) s.0 in
    pos_inj (sym (den_pos a u.0 ρ) ∙ holds (a := b) s.1 (poses ρ) ∙ den_pos b u.1 ρ)

pub ring : (n : ℕ) (f : Open n) → T (check_ℕ (closed n 0 f)) → All ℕ n (Saysℕ (closed n 0 f))
ring n f t = every ℕ n (Saysℕ (closed n 0 f)) (holds_ℕ (closed n 0 f) t)

-- the example above
three : (a b : ℕ) → (a + b) * (a + b) * 3 ≡ 3 * (a * a) + 6 * a * b + b * b * 3
three = ring 2 (λ a b. sq (a :+ b) :* num 3 := num 3 :* sq a :+ num 6 :* a :* b :+ sq b :* num 3) tt
