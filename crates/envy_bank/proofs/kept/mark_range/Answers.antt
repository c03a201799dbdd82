use Rattle.std.proofs.Common.{arith}
use Rattle.envy_bank.proofs.KeptLaws.{marks_none, marks_more}
use Rattle.envy_bank.proofs.kept.mark_range.Goals as goal

pub loop-row-init : goal.loop-row-init
loop-row-init c = marks_none _ _

pub loop-row-preserved : goal.loop-row-preserved
loop-row-preserved c = marks_more _ _ _ _ c.loop-row.invariant (omega arith) (omega arith)
