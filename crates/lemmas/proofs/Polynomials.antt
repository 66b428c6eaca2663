-- Expressions of sums, differences and products over ℤ, multiplied out into polynomials: what the solver in Ring.antt computes with.
use Rattle.std.proofs.Common.{◌≡◌, refl, sym, ◌∙◌, ap, ap₂, List, [], ◌∷◌, Bool, true, false, ◌&&◌, ℕ, zero, suc, one-mul, T, ℤ, pos, negsuc, ◌+ℤ◌, ◌*ℤ◌, ◌-ℤ◌, neg_ℤ}
use Rattle.std.proofs.Math.IntN.{+ℤ_assoc, +ℤ_comm, +ℤ_idl, +ℤ_idr, *ℤ_comm, *ℤ-zero, zero-*ℤ}
use Rattle.lemmas.proofs.Integers.{*ℤ_assoc, *ℤ-+ℤ, +ℤ-*ℤ, neg_ℤ_is}

-- ---- expressions
infixl 6 ◌:+◌ ◌:-◌
infixl 7 ◌:*◌
pub data Exp : Type 0 where
  var : ℕ → Exp
  num : ℕ → Exp
  ◌:+◌ : Exp → Exp → Exp
  ◌:-◌ : Exp → Exp → Exp
  ◌:*◌ : Exp → Exp → Exp

abbrev pub sq : Exp → Exp
sq a = a :* a

abbrev pub first : List ℤ → ℤ
first [] = pos 0
first (x ∷ ρ) = x

abbrev pub rest : List ℤ → List ℤ
rest [] = []
rest (x ∷ ρ) = ρ

abbrev pub nth : ℕ → List ℤ → ℤ
nth zero ρ = first ρ
nth (suc i) ρ = nth i (rest ρ)

abbrev pub den : Exp → List ℤ → ℤ
den (var i) ρ = nth i ρ
den (num k) ρ = pos k
den (a :+ b) ρ = den a ρ +ℤ den b ρ
den (a :- b) ρ = den a ρ -ℤ den b ρ
den (a :* b) ρ = den a ρ *ℤ den b ρ

-- ---- polynomials: a number, or one in the later variables and the first variable times another
infix 5 ◌⊹◌
pub data Poly : Type 0 where
  con : ℤ → Poly
  ◌⊹◌ : Poly → Poly → Poly

abbrev pub ev : Poly → List ℤ → ℤ
ev (con c) ρ = c
ev (p ⊹ q) ρ = ev p (rest ρ) +ℤ first ρ *ℤ ev q ρ

abbrev pub none : Poly
none = con (pos 0)

abbrev pub more : ℤ → Poly → Poly
more a (con c) = con (a +ℤ c)
more a (p ⊹ q) = more a p ⊹ q

abbrev pub add : Poly → Poly → Poly
add (con a) r = more a r
add (p ⊹ q) (con b) = more b p ⊹ q
add (p ⊹ q) (r ⊹ s) = add p r ⊹ add q s

abbrev pub times : ℤ → Poly → Poly
times a (con c) = con (a *ℤ c)
times a (p ⊹ q) = times a p ⊹ times a q

-- nought times anything is at once nought, so that no tree of noughts grows
abbrev pub scale : ℤ → Poly → Poly
scale (pos zero) p = none
scale (pos (suc n)) p = times (pos (suc n)) p
scale (negsuc n) p = times (negsuc n) p

-- f at each coefficient
abbrev pub each : (Poly → Poly) → Poly → Poly
each f (con c) = f (con c) ⊹ none
each f (p ⊹ q) = f p ⊹ each f q

abbrev pub mul : Poly → Poly → Poly
mul (con a) r = scale a r
mul (p ⊹ q) r = add (each (mul p) r) (none ⊹ mul q r)

abbrev pub place : ℕ → Poly
place zero = none ⊹ con (pos 1)
place (suc i) = place i ⊹ none

abbrev pub sub : Poly → Poly → Poly
sub p r = add p (scale (negsuc 0) r)

abbrev pub norm : Exp → Poly
norm (var i) = place i
norm (num k) = con (pos k)
norm (a :+ b) = add (norm a) (norm b)
norm (a :- b) = sub (norm a) (norm b)
norm (a :* b) = mul (norm a) (norm b)

abbrev pub nought : ℤ → Bool
nought (pos zero) = true
nought (pos (suc n)) = false
nought (negsuc n) = false

abbrev pub vanishes : Poly → Bool
vanishes (con c) = nought c
vanishes (p ⊹ q) = vanishes p && vanishes q

-- ---- each of these does what it says
swap : (a b c d : ℤ) → (a +ℤ b) +ℤ (c +ℤ d) ≡ (a +ℤ c) +ℤ (b +ℤ d)
swap a b c d = +ℤ_assoc a b (c +ℤ d) ∙ ap (λ t. a +ℤ t) (sym (+ℤ_assoc b c d) ∙ ap (λ t. t +ℤ d) (+ℤ_comm b c) ∙ +ℤ_assoc c b d) ∙ sym (+ℤ_assoc a c (b +ℤ d))

left : (a b c : ℤ) → a *ℤ (b *ℤ c) ≡ b *ℤ (a *ℤ c)
left a b c = sym (*ℤ_assoc a b c) ∙ ap (λ t. t *ℤ c) (*ℤ_comm a b) ∙ *ℤ_assoc b a c

ev_more : (a : ℤ) (p : Poly) (ρ : List ℤ) → ev (more a p) ρ ≡ a +ℤ ev p ρ
ev_more a (con c) ρ = refl
ev_more a (p ⊹ q) ρ = ap (λ t. t +ℤ first ρ *ℤ ev q ρ) (ev_more a p (rest ρ)) ∙ +ℤ_assoc a (ev p (rest ρ)) (first ρ *ℤ ev q ρ)

ev_add : (p r : Poly) (ρ : List ℤ) → ev (add p r) ρ ≡ ev p ρ +ℤ ev r ρ
ev_add (con a) r ρ = ev_more a r ρ
ev_add (p ⊹ q) (con b) ρ = ev_more b (p ⊹ q) ρ ∙ +ℤ_comm b (ev (p ⊹ q) ρ)
ev_add (p ⊹ q) (r ⊹ s) ρ =
    ap₂ ◌+ℤ◌ (ev_add p r (rest ρ)) (ap (λ t. first ρ *ℤ t) (ev_add q s ρ) ∙ *ℤ-+ℤ (first ρ) (ev q ρ) (ev s ρ))
    ∙ swap (ev p (rest ρ)) (ev r (rest ρ)) (first ρ *ℤ ev q ρ) (first ρ *ℤ ev s ρ)

ev_times : (a : ℤ) (p : Poly) (ρ : List ℤ) → ev (times a p) ρ ≡ a *ℤ ev p ρ
ev_times a (con c) ρ = refl
ev_times a (p ⊹ q) ρ =
    ap₂ ◌+ℤ◌ (ev_times a p (rest ρ)) (ap (λ t. first ρ *ℤ t) (ev_times a q ρ) ∙ left (first ρ) a (ev q ρ))
    ∙ sym (*ℤ-+ℤ a (ev p (rest ρ)) (first ρ *ℤ ev q ρ))

ev_scale : (a : ℤ) (p : Poly) (ρ : List ℤ) → ev (scale a p) ρ ≡ a *ℤ ev p ρ
ev_scale (pos zero) p ρ = sym (zero-*ℤ (ev p ρ))
ev_scale (pos (suc n)) p ρ = ev_times (pos (suc n)) p ρ
ev_scale (negsuc n) p ρ = ev_times (negsuc n) p ρ

ev_each : (f : Poly → Poly) (a : ℤ) (ρ : List ℤ) → ((r : Poly) → ev (f r) (rest ρ) ≡ a *ℤ ev r (rest ρ)) → (r : Poly) → ev (each f r) ρ ≡ a *ℤ ev r ρ
ev_each f a ρ h (con c) = ap₂ ◌+ℤ◌ (h (con c)) (*ℤ-zero (first ρ)) ∙ +ℤ_idr (a *ℤ c)
ev_each f a ρ h (p ⊹ q) =
    ap₂ ◌+ℤ◌ (h p) (ap (λ t. first ρ *ℤ t) (ev_each f a ρ h q) ∙ left (first ρ) a (ev q ρ))
    ∙ sym (*ℤ-+ℤ a (ev p (rest ρ)) (first ρ *ℤ ev q ρ))

ev_mul : (p r : Poly) (ρ : List ℤ) → ev (mul p r) ρ ≡ ev p ρ *ℤ ev r ρ
ev_mul (con a) r ρ = ev_scale a r ρ
ev_mul (p ⊹ q) r ρ =
    ev_add (each (mul p) r) (none ⊹ mul q r) ρ
    ∙ ap₂ ◌+ℤ◌ (ev_each (mul p) (ev p (rest ρ)) ρ (λ s. ev_mul p s (rest ρ)) r) (+ℤ_idl (first ρ *ℤ ev (mul q r) ρ) ∙ ap (λ t. first ρ *ℤ t) (ev_mul q r ρ) ∙ sym (*ℤ_assoc (first ρ) (ev q ρ) (ev r ρ)))
    ∙ sym (+ℤ-*ℤ (ev p (rest ρ)) (first ρ *ℤ ev q ρ) (ev r ρ))

ev_place : (i : ℕ) (ρ : List ℤ) → ev (place i) ρ ≡ nth i ρ
ev_place zero ρ = +ℤ_idl (first ρ *ℤ pos 1) ∙ *ℤ_comm (first ρ) (pos 1) ∙ one_times (first ρ)
  where
    one_times : (a : ℤ) → pos 1 *ℤ a ≡ a
    one_times (pos n) = ap pos (one-mul n)
    one_times (negsuc n) = ap (λ (m : ℕ). neg_ℤ (pos m)) (one-mul (suc n))
ev_place (suc i) ρ = ap₂ ◌+ℤ◌ (ev_place i (rest ρ)) (*ℤ-zero (first ρ)) ∙ +ℤ_idr (nth i (rest ρ))

ev_sub : (p r : Poly) (ρ : List ℤ) → ev (sub p r) ρ ≡ ev p ρ -ℤ ev r ρ
ev_sub p r ρ = ev_add p (scale (negsuc 0) r) ρ ∙ ap (λ t. ev p ρ +ℤ t) (ev_scale (negsuc 0) r ρ ∙ sym (neg_ℤ_is (ev r ρ)))

pub norm_sound : (e : Exp) (ρ : List ℤ) → ev (norm e) ρ ≡ den e ρ
norm_sound (var i) ρ = ev_place i ρ
norm_sound (num k) ρ = refl
norm_sound (a :+ b) ρ = ev_add (norm a) (norm b) ρ ∙ ap₂ ◌+ℤ◌ (norm_sound a ρ) (norm_sound b ρ)
norm_sound (a :- b) ρ = ev_sub (norm a) (norm b) ρ ∙ ap₂ ◌-ℤ◌ (norm_sound a ρ) (norm_sound b ρ)
norm_sound (a :* b) ρ = ev_mul (norm a) (norm b) ρ ∙ ap₂ ◌*ℤ◌ (norm_sound a ρ) (norm_sound b ρ)

pub both : (a b : Bool) → T (a && b) → T a × T b
both true b t = (tt, t)
both false b t = absurd t

ev_nought : (c : ℤ) → T (nought c) → c ≡ pos 0
ev_nought (pos zero) t = refl
ev_nought (pos (suc n)) t = absurd t
ev_nought (negsuc n) t = absurd t

pub ev_vanishes : (p : Poly) → T (vanishes p) → (ρ : List ℤ) → ev p ρ ≡ pos 0
ev_vanishes (con c) t ρ = ev_nought c t
ev_vanishes (p ⊹ q) t ρ =
    ap₂ ◌+ℤ◌ (ev_vanishes p (both (vanishes p) (vanishes q) t).0 (rest ρ)) (ap (λ s. first ρ *ℤ s) (ev_vanishes q (both (vanishes p) (vanishes q) t).1 ρ) ∙ *ℤ-zero (first ρ))
