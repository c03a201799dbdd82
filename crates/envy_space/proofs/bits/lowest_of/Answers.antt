use Rattle.envy_space.proofs.WordLemmas.{IsLowest-trailing}
use Rattle.envy_space.proofs.bits.lowest_of.Goals as goal

pub returns : goal.returns
returns c = IsLowest-trailing c.args.word c.requires c.ranges.word.fits
