use Rattle.std.proofs.Common.{◌≡◌, ◌∙◌, ap₂, add-one, arith}
use Rattle.sky.specs.Lent.{vectors}
use Rattle.sky.specs.Vectors.{star_at, pair_number}
use Rattle.timing.proofs.sum_of_row.Goals as goal

pub loop-t-preserved : goal.loop-t-preserved
loop-t-preserved c =
    let e : c.pair_number.result ≡ pair_number (star_at (vectors c.args.stars.0.now) c.args.s) (star_at (vectors c.args.stars.0.now) c.loop-t.t) = c.pair_number.ensures.value ∙ ap₂ pair_number c.in_ok-d.ensures c.in_ok-e.ensures in
    rw add-one (omega arith)
