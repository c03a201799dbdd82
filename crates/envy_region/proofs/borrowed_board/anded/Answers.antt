use Rattle.std.proofs.Common.{arith}
use Rattle.envy_base.proofs.Rows.{anded_all}
use Rattle.envy_region.proofs.borrowed_board.anded.Goals as goal

pub returns : goal.returns
returns c = anded_all c.args.row.now c.args.page.now c.loop-i.both c.told-row c.told-page (record { long = c.loop-i.invariant.long; done = λ j lt. c.loop-i.invariant.done j (omega arith) })
