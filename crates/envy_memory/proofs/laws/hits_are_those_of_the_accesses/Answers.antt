use Rattle.envy_memory.proofs.HitsLemmas.{Tracks-access, Tracks-rest, Tracks-power, last-was, was-last}
use Rattle.envy_memory.proofs.laws.hits_are_those_of_the_accesses.Goals as goal

pub returns-clause-access : goal.returns-clause-access
returns-clause-access c = Tracks-access

pub returns-clause-rest : goal.returns-clause-rest
returns-clause-rest c = Tracks-rest

pub returns-clause-power : goal.returns-clause-power
returns-clause-power c = Tracks-power

pub returns-clause-last : goal.returns-clause-last
returns-clause-last c n p past = (last-was n p past, was-last n p past)
