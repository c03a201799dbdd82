use Rattle.envy_meaning.proofs.Ending.{Steps-abort, IsLost-abort}
use Rattle.envy_meaning.proofs.transactions.an_abort_is_that_of_the_array.Goals as goal

pub returns-clause-done : goal.returns-clause-done
returns-clause-done c = Steps-abort

pub returns-clause-lost : goal.returns-clause-lost
returns-clause-lost c = IsLost-abort
