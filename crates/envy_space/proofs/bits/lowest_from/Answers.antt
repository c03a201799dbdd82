use Rattle.envy_space.proofs.WordLemmas.{none-shifted, IsLowest-shifted}
use Rattle.envy_space.proofs.bits.lowest_from.Goals as goal

pub returns-then-rest-eq0 : goal.returns-then-rest-eq0
returns-then-rest-eq0 c = λ j low high. none-shifted c.args.word c.args.from j c.if-rest-eq0.true low

pub returns-else-rest-eq0 : goal.returns-else-rest-eq0
returns-else-rest-eq0 c = IsLowest-shifted c.args.word c.args.from c.lowest_of.result c.ranges.word.fits c.lowest_of.ensures
