use Rattle.envy_cfi.proofs.Steps.{erase_made}
use Rattle.envy_cfi.proofs.driver.erase_block.Goals as goal

pub returns-clause-makes : goal.returns-clause-makes
returns-clause-makes g c =
    erase_made (g.B.Bus.chip c.args.bus.now) (g.B.Bus.chip c.settle.new.bus) (g.B.Bus.chip c.write.new.self) (g.B.Bus.chip c.write-2.new.self)
    (g.B.Bus.chip c.end-done.new.bus) (g.B.Bus.chip c.settle-2.new.bus)
    c.args.addr c.end-done.result c.settle.ensures.settles c.write.ensures.writes c.write-2.ensures.writes c.end-done.ensures.ends c.end-done.ensures.same c.settle-2.ensures.settles
