use Rattle.envy_base.proofs.Rows.{Anded}
use Rattle.envy_region.proofs.borrowed_board.anded.Given as goal

abbrev pub invariant-loop-i : goal.invariant-loop-i
invariant-loop-i l = Anded l.i l.row l.page l.both
