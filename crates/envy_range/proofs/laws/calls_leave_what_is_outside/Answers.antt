use Rattle.envy_range.proofs.Staying.{stays-shut}
use Rattle.envy_range.proofs.laws.calls_leave_what_is_outside.Goals as goal

pub returns : goal.returns
returns c = stays-shut
