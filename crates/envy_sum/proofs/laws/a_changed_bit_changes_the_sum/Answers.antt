use Rattle.envy_sum.proofs.Bursts.{changed_bit}
use Rattle.envy_sum.proofs.laws.a_changed_bit_changes_the_sum.Goals as goal

pub returns : goal.returns
returns c = changed_bit
