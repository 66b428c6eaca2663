-- A long division. Assumes nothing: these are definitions.
use Rattle.std.specs.Prelude.{◌≡◌, ℕ, ◌+◌, ◌*◌}
use Rattle.wide.specs.declared.long_division.LongDivision.{LongDivision}
use Rattle.wide.specs.Leading.{Short}
use Rattle.wide.specs.Value.{value}

-- the number that is divided: the quotient so far times the divisor, and what is left
abbrev pub dividend : LongDivision → ℕ
dividend d = value d.quotient * value d.divisor.number + value d.remainder

-- what is left has a short quotient
abbrev pub IsShort : LongDivision → Type 0
IsShort d = Short (value d.remainder) d.divisor.top d.divisor.shift

-- the same number is divided by the same divisor
pub record SameDivision (s t : LongDivision) : Type 0 where
  pub dividend : dividend t ≡ dividend s
  pub divisor : t.divisor ≡ s.divisor
