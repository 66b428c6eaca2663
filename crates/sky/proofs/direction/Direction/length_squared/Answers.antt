use Rattle.std.proofs.Common.{rules, arith}
use Rattle.sky.specs.Vectors.{length²}
use Rattle.sky.proofs.Steps.{length_positive}
use Rattle.sky.proofs.direction.Direction.length_squared.Goals as goal

pub returns-clause-value : goal.returns-clause-value
unfolding length²
returns-clause-value c = search rules

pub returns-clause-positive : goal.returns-clause-positive
unfolding length²
returns-clause-positive c = omega (arith, length_positive _ c.args.self.sound)
