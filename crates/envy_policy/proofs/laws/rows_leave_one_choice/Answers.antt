use Rattle.envy_policy.proofs.OneChoice.{choice-one}
use Rattle.envy_policy.proofs.laws.rows_leave_one_choice.Goals as goal

pub returns : goal.returns
returns c = choice-one
