use Rattle.envy_policy.proofs.OnePartition.{greedy-free, greedy-clean}
use Rattle.envy_policy.proofs.laws.greedy_looks_at_all_positions.Goals as goal

pub returns-clause-free : goal.returns-clause-free
returns-clause-free c = greedy-free

pub returns-clause-clean : goal.returns-clause-clean
returns-clause-clean c = greedy-clean
