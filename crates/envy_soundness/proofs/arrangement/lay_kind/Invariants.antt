use Rattle.envy_map.specs.Fields.{chart}
use Rattle.envy_soundness.proofs.Arranged.{ArrangedTo}
use Rattle.envy_soundness.proofs.arrangement.lay_kind.Given as goal

abbrev pub invariant-loop-segment : goal.invariant-loop-segment
invariant-loop-segment g l = ArrangedTo l.kind l.start l.end l.segment l.at (chart (g.B.Board.state l.initial.board)) (chart (g.B.Board.state l.board))
