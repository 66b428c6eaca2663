-- Each refusal's number, and the place that it speaks of. Assumes nothing: these are definitions.
use Rattle.std.specs.Prelude.{ℕ}
use Rattle.requests.specs.declared.refusal.LentList.{LentList}
use Rattle.requests.specs.declared.refusal.LentList.TheVariants.{Stars, Spots}
use Rattle.requests.specs.declared.refusal.Refusal.{Refusal}
use Rattle.requests.specs.declared.refusal.Refusal.TheVariants.{NotThrees, StarCount, SpotCount, NamesRoom, BadStar, BadSpot, ErrorTooLarge, NoneTooLarge, GroupSize, RowsRoom, TableRoom}

-- the lists of directions count from 0: the stars, then the spots
abbrev pub list_place : LentList → ℕ
list_place Stars = 0
list_place Spots = 1

-- the number of a refusal, and its place
abbrev pub code : Refusal → ℕ × ℕ
code (NotThrees list) = (1, list_place list)
code (StarCount stars) = (2, stars)
code (SpotCount spots) = (3, spots)
code (NamesRoom len) = (4, len)
code (BadStar star) = (5, star.0)
code (BadSpot spot) = (6, spot.0)
code ErrorTooLarge = (7, 0)
code NoneTooLarge = (8, 0)
code GroupSize = (9, 0)
code (RowsRoom len) = (10, len)
code (TableRoom needed) = (11, needed)
