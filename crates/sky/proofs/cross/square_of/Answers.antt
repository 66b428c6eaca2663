use Rattle.std.proofs.Common.{◌*◌, ap, div-add-mod', arith}
use Rattle.sky.proofs.cross.square_of.Goals as goal

pub returns : goal.returns
returns c = omega (arith, ap (λ n. n * n) (div-add-mod' c.args.component 131072))
