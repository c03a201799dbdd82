use Rattle.envy_image.specs.Installing.{Blanked}
use Rattle.envy_image.proofs.installation.erase_all.Given as goal

abbrev pub invariant-loop-segment : goal.invariant-loop-segment
invariant-loop-segment g l = Blanked l.segment (g.B.Board.state l.initial.board) (g.B.Board.state l.board)
