use Rattle.envy_map.specs.Fields.{chart}
use Rattle.envy_run.specs.Attached.{KeepsImage}
use Rattle.envy_run.proofs.attachment.attach.Given as goal

abbrev pub invariant-loop-memory : goal.invariant-loop-memory
invariant-loop-memory g l = KeepsImage (chart (g.B.Board.state l.initial.board)) (chart (g.B.Board.state l.board))

abbrev pub decreases-loop-memory : goal.decreases-loop-memory
decreases-loop-memory g l = (g.B.Board.state l.board).lives
