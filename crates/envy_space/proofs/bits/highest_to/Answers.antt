use Rattle.envy_space.proofs.WordLemmas.{none-masked, IsHighest-masked}
use Rattle.envy_space.proofs.bits.highest_to.Goals as goal

pub returns-then-rest-eq0 : goal.returns-then-rest-eq0
returns-then-rest-eq0 c = λ j low high. none-masked c.args.word c.args.to j c.requires c.if-rest-eq0.true high

pub returns-else-rest-eq0 : goal.returns-else-rest-eq0
returns-else-rest-eq0 c = IsHighest-masked c.args.word c.args.to c.highest_of.result c.requires c.highest_of.ensures
