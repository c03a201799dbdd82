use Rattle.envy_policy.proofs.HeatCounts.{counts, halves}
use Rattle.envy_policy.proofs.laws.heats_count_flushes.Goals as goal

pub returns-clause-counted : goal.returns-clause-counted
returns-clause-counted c = counts

pub returns-clause-halved : goal.returns-clause-halved
returns-clause-halved c = halves
