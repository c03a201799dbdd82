use Rattle.envy_soundness.proofs.PartedLemmas.{AreParted-rowed, AreParted-placed, AreParted-shaded, AreParted-unshaded, AreParted-unused, AreParted-closed}
use Rattle.envy_soundness.proofs.separation.place_and_undo_stay_parted.Goals as goal

pub returns-clause-rowed : goal.returns-clause-rowed
returns-clause-rowed c = AreParted-rowed

pub returns-clause-placed : goal.returns-clause-placed
returns-clause-placed c = AreParted-placed

pub returns-clause-shaded : goal.returns-clause-shaded
returns-clause-shaded c = AreParted-shaded

pub returns-clause-unshaded : goal.returns-clause-unshaded
returns-clause-unshaded c = AreParted-unshaded

pub returns-clause-unused : goal.returns-clause-unused
returns-clause-unused c = AreParted-unused

pub returns-clause-closed : goal.returns-clause-closed
returns-clause-closed c = AreParted-closed
