use Rattle.std.proofs.Common.{◌≡◌, ◌∙◌, arith}
use Rattle.sky.specs.Directions.{vector}
use Rattle.sky.specs.Vectors.{pair_number}
use Rattle.sky.proofs.Pairs.{same_either_way}
use Rattle.sky.proofs.Steps.{quotient_is, quotient_small}
use Rattle.sky.proofs.pair.pair_number.Goals as goal

pub overflow_cast-result : goal.overflow_cast-result
overflow_cast-result c =
    omega (arith, quotient_small _ _ _ _ _ _ c.scaled_cross.ensures c.squared_lengths.ensures c.divided_by-division.ensures)

pub returns : goal.returns
returns c =
    let q = quotient_is _ _ _ _ _ _ c.scaled_cross.ensures c.squared_lengths.ensures c.divided_by-division.ensures in
    let s = quotient_small _ _ _ _ _ _ c.scaled_cross.ensures c.squared_lengths.ensures c.divided_by-division.ensures in
    let e : c.divided_by-division.result.quotient.low ≡ pair_number (vector c.args.d) (vector c.args.e) = omega (arith, q, s) in
    record { value = e; either_way = e ∙ same_either_way (vector c.args.d) (vector c.args.e); bound = omega (arith, e, q, s) }
