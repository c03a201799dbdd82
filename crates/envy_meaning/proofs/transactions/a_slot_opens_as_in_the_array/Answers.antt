use Rattle.envy_meaning.proofs.Ending.{Steps-begin, IsLost-begin}
use Rattle.envy_meaning.proofs.transactions.a_slot_opens_as_in_the_array.Goals as goal

pub returns-clause-done : goal.returns-clause-done
returns-clause-done c = Steps-begin

pub returns-clause-lost : goal.returns-clause-lost
returns-clause-lost c = IsLost-begin
