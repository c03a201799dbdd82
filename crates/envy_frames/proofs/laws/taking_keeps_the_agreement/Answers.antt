use Rattle.envy_frames.proofs.Agreeing.{AreHeld-taken}
use Rattle.envy_frames.proofs.laws.taking_keeps_the_agreement.Goals as goal

pub returns : goal.returns
returns c = AreHeld-taken
