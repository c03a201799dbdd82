use Rattle.envy_array.proofs.Keeping.{step-keeps}
use Rattle.envy_array.proofs.laws.step_keeps_the_array.Goals as goal

pub returns : goal.returns
returns c = step-keeps
