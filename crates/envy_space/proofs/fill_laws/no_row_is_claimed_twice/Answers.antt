use Rattle.envy_space.proofs.RisingLemmas.{rising}
use Rattle.envy_space.proofs.fill_laws.no_row_is_claimed_twice.Goals as goal

pub returns : goal.returns
returns c = rising
