use Rattle.std.proofs.Common.{arith}
use Rattle.envy_part.proofs.RowLaws.{read_all}
use Rattle.envy_part.proofs.rows.words.Goals as goal

pub returns : goal.returns
returns c = read_all c.args.row.now c.loop-i.found (record { long = c.loop-i.invariant.long; done = λ j lt. c.loop-i.invariant.done j (omega arith) })
