use Rattle.envy_frames.proofs.Agreeing.{AreHeld-elsewhere, AreHeld-stay}
use Rattle.envy_frames.proofs.laws.pages_elsewhere_keep_the_agreement.Goals as goal

pub returns : goal.returns
returns c = record { one = AreHeld-elsewhere; any = AreHeld-stay }
