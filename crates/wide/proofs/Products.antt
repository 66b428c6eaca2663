-- The product of two numbers of two words, when it fits.
use Rattle.std.proofs.Common.{◌≡◌, ℕ, ◌+◌, ◌*◌, ◌^◌, ◌<◌, ap₂, arith}

module _ (h l k j n m : ℕ) (e : h * 2 ^ 64 + l ≡ n) (f : k * 2 ^ 64 + j ≡ m) where
  -- word by word
  pub by_words : (h * 2 ^ 64 + l) * (k * 2 ^ 64 + j) ≡ n * m
  by_words = ap₂ ◌*◌ e f

  pub crosses_fit : n * m < 2 ^ 128 → l * j + (h * j + l * k) * 2 ^ 64 < 2 ^ 128
  crosses_fit p = omega (arith, by_words)
