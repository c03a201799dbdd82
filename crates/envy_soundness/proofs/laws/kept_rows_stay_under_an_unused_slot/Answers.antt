use Rattle.envy_soundness.proofs.KeptCounts.{kept_in-slot}
use Rattle.envy_soundness.proofs.laws.kept_rows_stay_under_an_unused_slot.Goals as goal

pub returns : goal.returns
returns c = kept_in-slot
