use Rattle.envy_base.specs.Shape.{IsShape}
use Rattle.envy_policy.specs.Setup.{IsSetup}
use Rattle.envy_openings.proofs.files.opened.Goals as goal

pub begun-requires-clause-six : goal.begun-requires-clause-six
begun-requires-clause-six c = (c.if-setup-ne0.false, IsShape.unsummed (IsSetup.shape c.in-Ok.ensures.2))
