use Rattle.envy_policy.proofs.Within.{within-choice}
use Rattle.envy_policy.proofs.laws.a_choice_has_rows.Goals as goal

pub returns : goal.returns
returns c = within-choice
