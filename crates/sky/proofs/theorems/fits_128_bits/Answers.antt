use Rattle.sky.proofs.Sizes.{small}
use Rattle.sky.proofs.theorems.fits_128_bits.Goals as goal

pub returns : goal.returns
returns c = small
