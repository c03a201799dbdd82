use Rattle.std.proofs.Common.{◌≡◌, drop}
use Rattle.std.specs.List.{All}
use Rattle.envy_journal.specs.Content.{after, content_of, IsWithin}
use Rattle.envy_journal.specs.Reading.{puts}
use Rattle.envy_journal.proofs.replay.redo_run.Given as goal

abbrev pub invariant-loop-i : goal.invariant-loop-i
invariant-loop-i g l = record {
  shape : (g.B.Board.state l.board).shape ≡ (g.B.Board.state l.initial.board).shape;
  within : All (IsWithin (g.B.Board.state l.initial.board).shape) (puts l.first l.i (drop 5 l.bytes));
  content : content_of (g.B.Board.state l.board) ≡ after (g.B.Board.state l.initial.board).shape.rows (puts l.first l.i (drop 5 l.bytes)) (content_of (g.B.Board.state l.initial.board));
}
