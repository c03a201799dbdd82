use Rattle.envy_image.specs.Installing.{Programmed}
use Rattle.envy_image.proofs.installation.program_rows.Given as goal

abbrev pub invariant-loop-row : goal.invariant-loop-row
invariant-loop-row g l = Programmed l.row (g.B.Board.state l.initial.board) l.initial.lines (g.S.Source.feed l.initial.source) (g.B.Board.state l.board) l.lines (g.S.Source.feed l.source)
