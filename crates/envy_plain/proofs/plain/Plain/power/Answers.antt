use Rattle.envy_plain.proofs.Powering.{IsClosedBelow-more, IsClosedBelow-all}
use Rattle.envy_plain.proofs.plain.Plain.power.Goals as goal

pub loop-t-preserved : goal.loop-t-preserved
loop-t-preserved c = IsClosedBelow-more c.args.self.now c.loop-t.self c.abort.new.self c.loop-t.t c.abort.result c.loop-t.invariant c.abort.ensures

pub returns : goal.returns
returns c = IsClosedBelow-all c.args.self.now c.loop-t.self c.loop-t.t c.loop-t-test.false c.loop-t.invariant
