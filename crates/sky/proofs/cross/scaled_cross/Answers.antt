use Rattle.std.proofs.Common.{arith}
use Rattle.sky.specs.Directions.{vector}
use Rattle.sky.specs.Vectors.{cross}
use Rattle.sky.proofs.Steps.{squares}
use Rattle.sky.proofs.cross.scaled_cross.Goals as goal

pub returns : goal.returns
unfolding cross
returns c =
    let v = cross (vector c.args.d) (vector c.args.e) in
    omega (arith, squares v _ _ _ c.component.ensures.amount c.component-2.ensures.amount c.component-3.ensures.amount)
