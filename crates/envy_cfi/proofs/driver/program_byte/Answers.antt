use Rattle.envy_cfi.proofs.Steps.{byte_made}
use Rattle.envy_cfi.proofs.driver.program_byte.Goals as goal

pub returns-clause-makes : goal.returns-clause-makes
returns-clause-makes g c =
    byte_made (g.B.Bus.chip c.args.bus.now) (g.B.Bus.chip c.settle.new.bus) (g.B.Bus.chip c.order_byte-done.new.bus) (g.B.Bus.chip c.settle-2.new.bus)
    c.args.addr c.args.byte c.order_byte-done.result c.settle.ensures.settles c.order_byte-done.ensures.makes c.settle-2.ensures.settles
