use Rattle.envy_array.proofs.Keeping.{IsArray-restarted, undone-restarted}
use Rattle.envy_array.proofs.laws.restart_keeps_the_array.Goals as goal

pub returns-clause-array : goal.returns-clause-array
returns-clause-array c = IsArray-restarted

pub returns-clause-undone : goal.returns-clause-undone
returns-clause-undone c = undone-restarted
