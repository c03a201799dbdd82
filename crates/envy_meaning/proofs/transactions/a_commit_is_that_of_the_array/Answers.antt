use Rattle.envy_meaning.proofs.Ending.{Steps-commit, IsLost-commit}
use Rattle.envy_meaning.proofs.transactions.a_commit_is_that_of_the_array.Goals as goal

pub returns-clause-done : goal.returns-clause-done
returns-clause-done c = Steps-commit

pub returns-clause-lost : goal.returns-clause-lost
returns-clause-lost c = IsLost-commit
