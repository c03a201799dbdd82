use Rattle.envy_txn.proofs.OwnerLemmas.{pairs-counted}
use Rattle.envy_txn.proofs.laws.owners_are_counted.Goals as goal

pub returns : goal.returns
returns c = pairs-counted
