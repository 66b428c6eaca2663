-- The steps by which the code comes to the number of a pair.
use Rattle.std.proofs.Common.{◌≡◌, ℕ, zero, suc, ◌+◌, ◌*◌, ◌/◌, ◌<◌, ◌≤◌, ℤ, pos, negsuc, nat_abs, sym, refl, ap, ◌∙◌, ap₂, ⊎_elim, eq-zero-or-pos, arith}
use Rattle.std.proofs.Math.Arith.{digits_div}
use Rattle.wide.specs.Divided.{Divided}
use Rattle.sky.specs.Vectors.{Vector, Sound, square, length², cross, pair_number}
use Rattle.sky.proofs.Pairs.{at_most_2^24}

-- the sum of the squares, from the components in amount
pub squares : (v : Vector) (x y z : ℕ) → x ≡ nat_abs v.x → y ≡ nat_abs v.y → z ≡ nat_abs v.z → length² v ≡ x * x + (y * y + z * z)
unfolding length² square
squares v x y z e f g = sym (ap₂ ◌+◌ (ap (λ n. n * n) e) (ap₂ ◌+◌ (ap (λ n. n * n) f) (ap (λ n. n * n) g)))

-- a direction has a length
square_zero : (a : ℤ) → square a ≡ 0 → a ≡ pos 0
unfolding square
square_zero (pos zero) e = refl
square_zero (pos (suc n)) e = absurd (omega arith)
square_zero (negsuc n) e = absurd (omega arith)

pub length_positive : (v : Vector) → Sound v → 0 < length² v
unfolding length²
length_positive v h = ⊎_elim (λ e. absurd (h.1 (zero_coordinates e))) (λ p. p) (eq-zero-or-pos (length² v))
  where
    squares_zero : length² v ≡ 0 → (square v.x ≡ 0) × (square v.y ≡ 0) × (square v.z ≡ 0)
    squares_zero e = (omega arith, omega arith, omega arith)

    zero_coordinates : length² v ≡ 0 → (v.x ≡ pos 0) × (v.y ≡ pos 0) × (v.z ≡ pos 0)
    zero_coordinates e = let s = squares_zero e in (square_zero v.x s.0, square_zero v.y s.1, square_zero v.z s.2)

-- the quotient is the number
pub quotient_is : (v w : Vector) (n m q r : ℕ) → n ≡ 16777216 * length² (cross v w) → m ≡ length² v * length² w → Divided n m q r → q ≡ pair_number v w
unfolding pair_number
quotient_is v w n m q r e f h = sym (ap₂ ◌/◌ (sym e) (sym f) ∙ ap (λ k. k / m) (sym h.whole) ∙ digits_div q h.small)

pub quotient_small : (v w : Vector) (n m q r : ℕ) → n ≡ 16777216 * length² (cross v w) → m ≡ length² v * length² w → Divided n m q r → q ≤ 16777216
quotient_small v w n m q r e f h = omega (arith, quotient_is v w n m q r e f h, at_most_2^24 v w)
