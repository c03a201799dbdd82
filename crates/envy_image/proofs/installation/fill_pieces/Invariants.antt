use Rattle.std.specs.Prelude.{◌*◌}
use Rattle.envy_image.specs.Installing.{Filled}
use Rattle.envy_image.proofs.installation.fill_pieces.Given as goal

abbrev pub invariant-loop-piece : goal.invariant-loop-piece
invariant-loop-piece g l = Filled (32 * l.piece) (g.B.Board.state l.initial.board) l.initial.lines (g.S.Source.feed l.initial.source) (g.B.Board.state l.board) l.lines (g.S.Source.feed l.source)
