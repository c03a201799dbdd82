use Rattle.envy_space.proofs.WordLemmas.{IsTurned-xor}
use Rattle.envy_space.proofs.bits.turned.Goals as goal

pub returns : goal.returns
returns c = IsTurned-xor c.args.word c.args.i c.requires
