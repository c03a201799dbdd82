use Rattle.std.proofs.Common.{sym}
use Rattle.envy_space.proofs.BitLemmas.{seen-long}
use Rattle.envy_space.proofs.flags.Flags.places.Goals as goal

pub returns : goal.returns
returns c = sym (seen-long c.self.inside.places c.self.inside.words.items c.args.self.now c.self.view_is)
