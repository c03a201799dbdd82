use Rattle.envy_space.proofs.WordLemmas.{IsHighest-log}
use Rattle.envy_space.proofs.bits.highest_of.Goals as goal

pub returns : goal.returns
returns c = IsHighest-log c.args.word c.ilog2.result c.ilog2.ensures.power_le c.ilog2.ensures.next_power_gt c.ilog2.ensures.bound
