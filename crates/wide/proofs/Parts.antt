-- A part of a quotient, from the leading bits of the divisor and of the dividend.
use Rattle.std.proofs.Common.{◌≡◌, ℕ, ◌+◌, ◌*◌, ◌/◌, ◌^◌, ◌<◌, ◌≤◌, sym, ap, subst, ⊎_elim, mul-le-mul_right, mul-le-mul, mul-le-mul_left, div-mul-le_self, arith}
use Rattle.std.proofs.lemmas.Nat.{le-div, div_below, mod_below, pow_pos, shr_split, div-add-mod'}
use Rattle.std.proofs.lemmas.Bool.{cases_lt}
use Rattle.wide.specs.Divided.{Part}

-- the divisor d is above 0 and at most t with i zeros behind it; n without its last i bits is m
module _ (n d t i m : ℕ) (p : 0 < d) (h : d ≤ t * 2 ^ i) (l : m ≡ n / 2 ^ i) where
  pub t_positive : 0 < t
  t_positive =
      ⊎_elim (λ k. k) (λ k. let z : t ≡ 0 = omega arith in absurd (omega (arith, ap (λ v. v * 2 ^ i) z))) (cases_lt 0 t)

  -- where v goes into m at a place s, v / t goes into n / d there
  pub goes_into : (v s : ℕ) → v * s ≤ m → v / t * s * d ≤ n
  goes_into v s k =
      let e : v / t * t * s ≤ v * s = mul-le-mul_right s (div-mul-le_self v t) in
      let f : v * s * 2 ^ i ≤ m * 2 ^ i = mul-le-mul_right (2 ^ i) k in
      let g : v / t * t * s * 2 ^ i ≤ v * s * 2 ^ i = mul-le-mul_right (2 ^ i) e in
      omega (arith, mul-le-mul_left (v / t * s) h, div-mul-le_self n (2 ^ i), ap (λ w. w * 2 ^ i) l)

  pub part : (v s r : ℕ) → v * s ≤ m → t ≤ v → 0 < s → r ≡ v / t * s → Part n d r
  part v s r k q z e =
      let f : 1 ≤ v / t = le-div 1 v t t_positive (omega arith) in
      record { some = omega (arith, mul-le-mul_right s f); fits = subst (λ w. w * d ≤ n) (sym e) (goes_into v s k) }

  -- ---- and where m is short, v / t leaves out two at most
  upper : n < (m + 1) * 2 ^ i
  upper = omega (arith, shr_split n i, mod_below n (2 ^ i) (pow_pos i), ap (λ w. w * 2 ^ i) l)

  pub near_part : t * 2 ^ i * 2 ^ 31 ≤ d * (2 ^ 31 + 1) → m < t * 2 ^ 32 → n < (m / t + 3) * d
  near_part q s =
      let a : m + 1 ≤ (m / t + 1) * t = omega (arith, div-add-mod' m t, mod_below m t t_positive) in
      let b : (m / t + 1) * (t * 2 ^ i * 2 ^ 31) ≤ (m / t + 1) * (d * (2 ^ 31 + 1)) = mul-le-mul_left (m / t + 1) q in
      let c : m / t + 1 ≤ 2 ^ 32 = omega (arith, div_below m t (2 ^ 32) t_positive (omega arith)) in
      omega (arith, upper, mul-le-mul_right (2 ^ i) a, b, mul-le-mul_right d c)

-- ---- with p more in the quotient, p d less is left
pub again : (d q r p m q₂ r₂ : ℕ) → m ≡ p * d → r₂ + m ≡ r → q₂ ≡ q + p → q₂ * d + r₂ ≡ q * d + r
again d q r p m q₂ r₂ e f g = omega (arith, ap (λ v. v * d) g)

-- and the quotient has room
pub room : (d q r p b : ℕ) → 0 < d → p * d ≤ r → q * d + r < b → q + p < b
room d q r p b z t k = omega (arith, t, mul-le-mul_left (q + p) z)

-- where p is not 0, less is left
pub less : (d r p r₂ : ℕ) → 0 < d → 0 < p → r₂ + p * d ≡ r → r₂ < r
less d r p r₂ z s e = omega (arith, mul-le-mul {n₁ = 1} {m₁ = 1} s z)
