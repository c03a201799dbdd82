use Rattle.envy_sum.proofs.Bursts.{burst}
use Rattle.envy_sum.proofs.laws.a_burst_changes_the_sum.Goals as goal

pub returns : goal.returns
returns c = burst
