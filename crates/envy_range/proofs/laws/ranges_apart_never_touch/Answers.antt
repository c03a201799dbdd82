use Rattle.envy_range.proofs.Parts.{apart}
use Rattle.envy_range.proofs.laws.ranges_apart_never_touch.Goals as goal

pub returns : goal.returns
returns c = apart
