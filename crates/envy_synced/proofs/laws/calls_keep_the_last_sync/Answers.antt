use Rattle.envy_synced.proofs.Reopened.{last_stays, before_stays}
use Rattle.envy_synced.proofs.laws.calls_keep_the_last_sync.Goals as goal

pub returns-clause-last : goal.returns-clause-last
returns-clause-last c was old new k j works last = last_stays was old new k j works last

pub returns-clause-before : goal.returns-clause-before
returns-clause-before c was old new k j works before = before_stays was old new k j works before
