-- The number that a square in three parts stands for. Assumes nothing: these are definitions.
use Rattle.std.specs.Prelude.{ℕ, ◌+◌, ◌*◌, ◌^◌, ◌<◌}
use Rattle.sky.specs.declared.square.Square.TheInside.{Inside}

abbrev pub squared : Inside → ℕ
squared s = s.high * 2 ^ 34 + s.mixed * 2 ^ 18 + s.low

-- three of each part fit a word
pub record AreSmall (s : Inside) : Type 0 where
  pub high : s.high < 2 ^ 34
  pub mixed : s.mixed < 2 ^ 34
  pub low : s.low < 2 ^ 34
