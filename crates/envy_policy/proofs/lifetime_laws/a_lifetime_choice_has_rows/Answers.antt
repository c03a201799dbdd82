use Rattle.envy_policy.proofs.LifetimeRules.{choice-rows}
use Rattle.envy_policy.proofs.lifetime_laws.a_lifetime_choice_has_rows.Goals as goal

pub returns : goal.returns
returns c = choice-rows
