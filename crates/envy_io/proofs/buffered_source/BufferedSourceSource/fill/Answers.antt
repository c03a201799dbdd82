use Rattle.envy_io.proofs.Giving.{fills_given}
use Rattle.envy_io.proofs.buffered_source.BufferedSourceSource.fill.Goals as goal

pub returns : goal.returns
returns g c = fills_given c.args.self.now c.make_some.new.self c.give.new.self c.args.into.now c.give.new.into c.give.result c.in_ok-make_some.ensures c.give.ensures c.requires
