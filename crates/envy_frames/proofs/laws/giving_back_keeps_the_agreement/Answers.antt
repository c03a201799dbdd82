use Rattle.envy_frames.proofs.Agreeing.{AreHeld-given}
use Rattle.envy_frames.proofs.laws.giving_back_keeps_the_agreement.Goals as goal

pub returns : goal.returns
returns c = AreHeld-given
