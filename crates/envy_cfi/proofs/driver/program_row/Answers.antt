use Rattle.envy_cfi.proofs.Steps.{row_made}
use Rattle.envy_cfi.proofs.driver.program_row.Goals as goal

pub returns-clause-makes : goal.returns-clause-makes
returns-clause-makes g c =
    row_made (g.B.Bus.chip c.args.bus.now) (g.B.Bus.chip c.settle.new.bus) (g.B.Bus.chip c.order_row-done.new.bus) (g.B.Bus.chip c.settle-2.new.bus)
    c.args.addr c.args.row.now c.order_row-done.result c.settle.ensures.settles c.order_row-done.ensures.makes c.settle-2.ensures.settles
