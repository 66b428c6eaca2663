-- The integers are a commutative ring: the laws of the product that the library does not have, and squares.
use Rattle.std.proofs.Common.{◌≡◌, refl, ◌∙◌, ap, ap₂, ℕ, ◌+◌, ◌*◌, arith, ℤ, pos, negsuc, ◌+ℤ◌, ◌*ℤ◌, neg_ℤ, nat_abs}
use Rattle.std.proofs.Math.IntN.{*ℤ_comm}
use borrow.Author.Differences.{up, down, same_in, sum_is_lem, product_is, neg_is}

pub *ℤ_assoc : (a b c : ℤ) → (a *ℤ b) *ℤ c ≡ a *ℤ (b *ℤ c)
*ℤ_assoc a b c =
    same_in ((a *ℤ b) *ℤ c) (a *ℤ (b *ℤ c)) (simp ((product_is (a *ℤ b) c).0, (product_is (a *ℤ b) c).1, (product_is a (b *ℤ c)).0, (product_is a (b *ℤ c)).1, (product_is a b).0, (product_is a b).1, (product_is b c).0, (product_is b c).1) (omega arith))

-- a sum's parts are known up to a common number, so the product is compared after that number is added
pub *ℤ-+ℤ : (a b c : ℤ) → a *ℤ (b +ℤ c) ≡ a *ℤ b +ℤ a *ℤ c
*ℤ-+ℤ a b c =
    same_in (a *ℤ (b +ℤ c)) (a *ℤ b +ℤ a *ℤ c) (times (up a) (down a) (up b) (down b) (up c) (down c) (up (b +ℤ c)) (down (b +ℤ c)) (up (a *ℤ b +ℤ a *ℤ c)) (down (a *ℤ b +ℤ a *ℤ c)) (up (a *ℤ (b +ℤ c))) (down (a *ℤ (b +ℤ c)))
    (sum_is_lem b c) (simp ((product_is a b).0, (product_is a b).1, (product_is a c).0, (product_is a c).1) at (sum_is_lem (a *ℤ b) (a *ℤ c))) (product_is a (b +ℤ c)).0 (product_is a (b +ℤ c)).1)
  where
    times : (u d ub db uc dc us ds ur dr up' dp : ℕ) → us + db + dc ≡ ds + ub + uc → ur + (u * db + d * ub) + (u * dc + d * uc) ≡ dr + (u * ub + d * db) + (u * uc + d * dc) → up' ≡ u * us + d * ds → dp ≡ u * ds + d * us → up' + dr ≡ ur + dp
    times u d ub db uc dc us ds ur dr up' dp s r p q = omega (arith, ap (λ n. u * n) s, ap (λ n. d * n) s)

pub +ℤ-*ℤ : (a b c : ℤ) → (a +ℤ b) *ℤ c ≡ a *ℤ c +ℤ b *ℤ c
+ℤ-*ℤ a b c = *ℤ_comm (a +ℤ b) c ∙ *ℤ-+ℤ c a b ∙ ap₂ ◌+ℤ◌ (*ℤ_comm c a) (*ℤ_comm c b)

pub neg_ℤ_is : (a : ℤ) → neg_ℤ a ≡ negsuc 0 *ℤ a
neg_ℤ_is a = same_in (neg_ℤ a) (negsuc 0 *ℤ a) (omega (arith, neg_is a, product_is (negsuc 0) a))

pub pos_inj : {m n : ℕ} → pos m ≡ pos n → m ≡ n
pos_inj e = ap nat_abs e

-- a square is a natural number
pub square_is : (a : ℤ) → a *ℤ a ≡ pos (nat_abs a * nat_abs a)
square_is (pos n) = refl
square_is (negsuc n) = refl
