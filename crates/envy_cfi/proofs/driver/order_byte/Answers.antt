use Rattle.envy_cfi.proofs.Steps.{byte_step}
use Rattle.envy_cfi.proofs.driver.order_byte.Goals as goal

pub returns-clause-makes : goal.returns-clause-makes
returns-clause-makes g c =
    byte_step (g.B.Bus.chip c.args.bus.now) (g.B.Bus.chip c.write.new.self) (g.B.Bus.chip c.write-2.new.self) (g.B.Bus.chip c.end.new.bus)
    c.args.addr c.args.byte c.end.result c.write.ensures.writes c.write-2.ensures.writes c.end.ensures.ends c.end.ensures.same
