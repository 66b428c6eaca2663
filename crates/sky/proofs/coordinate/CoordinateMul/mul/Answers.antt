use Rattle.std.proofs.Common.{◌*ℤ◌, refl}
use Rattle.sky.proofs.Signed.{coordinate_32, coordinate_64, product_bound, product_64}
use Rattle.sky.proofs.coordinate.CoordinateMul.mul.Goals as goal

pub returns : goal.returns
returns c =
    let a = c.args.self in
    let b = c.args.other in
    let h = product_bound a.value b.value a.in_range b.in_range in
    simp (c.from.ensures, c.from-2.ensures, coordinate_32 a.value a.in_range, coordinate_64 a.value a.in_range, coordinate_32 b.value b.in_range, coordinate_64 b.value b.in_range, product_64 (a.value *ℤ b.value) h) (refl, h)
