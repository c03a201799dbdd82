use Rattle.envy_policy.proofs.LifetimeRules.{some-choice}
use Rattle.envy_policy.proofs.lifetime_laws.some_lifetime_rule_applies.Goals as goal

pub returns : goal.returns
returns c = some-choice
