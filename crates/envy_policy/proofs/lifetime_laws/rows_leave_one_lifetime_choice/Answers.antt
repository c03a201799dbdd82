use Rattle.envy_policy.proofs.LifetimeRules.{one-choice}
use Rattle.envy_policy.proofs.lifetime_laws.rows_leave_one_lifetime_choice.Goals as goal

pub returns : goal.returns
returns c = one-choice
