-- The number that two words stand for, and how two such numbers compare. Assumes nothing: these are definitions.
use Rattle.std.specs.Prelude.{◌≡◌, ℕ, ◌+◌, ◌*◌, ◌^◌, ◌<◌}
use Rattle.std.specs.declared.cmp.Ordering.{Ordering}
use Rattle.std.specs.Ordering.{MatchOrdering}
use Rattle.wide.specs.declared.wide.Wide.{Wide}

abbrev pub value : Wide → ℕ
value w = w.high * 2 ^ 64 + w.low

-- the order of two numbers is that of their values
abbrev pub Compared : Wide → Wide → Ordering → Type 0
Compared a b r = MatchOrdering r (value a < value b) (value a ≡ value b) (value b < value a)
