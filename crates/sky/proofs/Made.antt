-- A direction that was made is sound.
use Rattle.std.proofs.Common.{◌≡◌, true, T, is_some, Some, None, Option, sym, subst}
use Rattle.sky.specs.declared.direction.Direction.{Direction}
use Rattle.sky.specs.Vectors.{Vector, Sound}
use Rattle.sky.specs.Directions.{DirectionOf}

pub made_sound : (v : Vector) (r : Option Direction) → DirectionOf v r → is_some r ≡ true → Sound v
made_sound v None h e = absurd (subst T (sym e) tt)
made_sound v (Some d) h e = subst Sound h d.sound
