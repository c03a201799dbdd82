use Rattle.envy_range.proofs.Staying.{stays}
use Rattle.envy_range.proofs.laws.work_leaves_what_is_outside.Goals as goal

pub returns : goal.returns
returns c = stays
