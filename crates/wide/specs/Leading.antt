-- The leading bits of a divisor. Assumes nothing: these are definitions.
use Rattle.std.specs.Prelude.{ℕ, ◌*◌, ◌/◌, ◌^◌, ◌<◌, ◌≤◌}

-- n has i bits past its first 32: without them it is below 2^32, and if there are any, it has all 32
pub record Past32 (n i : ℕ) : Type 0 where
  pub below : n / 2 ^ i < 2 ^ 32
  pub full : 0 < i → 2 ^ 31 ≤ n / 2 ^ i

-- n without its last i bits, divided by t, is below 2^32
abbrev pub Short : ℕ → ℕ → ℕ → Type 0
Short n t i = n / 2 ^ i < t * 2 ^ 32
