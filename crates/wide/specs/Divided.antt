-- Quotients and remainders. Assumes nothing: these are definitions.
use Rattle.std.specs.Prelude.{◌≡◌, ℕ, ◌+◌, ◌*◌, ◌<◌, ◌≤◌}

-- n divided by d is q, and r is left
pub record Divided (n d q r : ℕ) : Type 0 where
  pub whole : q * d + r ≡ n
  pub small : r < d

-- p is a part of the quotient of n by d, and not 0
pub record Part (n d p : ℕ) : Type 0 where
  pub some : 0 < p
  pub fits : p * d ≤ n
