use Rattle.envy_meaning.specs.Stands.{Stands}
use Rattle.envy_meaning.proofs.Owners.{owner_in-holds, owned-counted}
use Rattle.envy_meaning.proofs.transactions.owners_are_those_of_the_array.Goals as goal

pub returns-clause-owner : goal.returns-clause-owner
returns-clause-owner c = λ x m p s lt. owner_in-holds x m p (Stands.holds s) lt

pub returns-clause-count : goal.returns-clause-count
returns-clause-count c = λ x m s. owned-counted x m (Stands.holds s)
