use Rattle.envy_meaning.proofs.Putting.{Steps-put, Steps-put_again, IsLost-put}
use Rattle.envy_meaning.proofs.transactions.puts_are_those_of_the_array.Goals as goal

pub returns-clause-first : goal.returns-clause-first
returns-clause-first c = Steps-put

pub returns-clause-again : goal.returns-clause-again
returns-clause-again c = Steps-put_again

pub returns-clause-lost : goal.returns-clause-lost
returns-clause-lost c = IsLost-put
