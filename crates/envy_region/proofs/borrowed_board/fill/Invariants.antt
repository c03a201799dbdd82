use Rattle.envy_region.specs.Region.{Erased}
use Rattle.envy_region.proofs.borrowed_board.fill.Given as goal

abbrev pub invariant-loop-row : goal.invariant-loop-row
invariant-loop-row l = Erased l.first l.row l.initial.flash l.flash
