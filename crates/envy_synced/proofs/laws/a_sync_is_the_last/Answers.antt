use Rattle.std.proofs.Common.{refl}
use Rattle.envy_synced.proofs.Reopened.{last_before}
use Rattle.envy_synced.proofs.laws.a_sync_is_the_last.Goals as goal

pub returns-clause-last : goal.returns-clause-last
returns-clause-last c now = record { shape = refl; sync = refl }

pub returns-clause-before : goal.returns-clause-before
returns-clause-before c was old new syncs last = last_before was old new syncs last
