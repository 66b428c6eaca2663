use Rattle.sky.proofs.Pairs.{at_most_2^24}
use Rattle.sky.proofs.theorems.at_most_2_24.Goals as goal

pub returns : goal.returns
returns c = at_most_2^24
