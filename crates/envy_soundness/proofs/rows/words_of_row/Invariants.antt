use Rattle.std.proofs.Common.{◌≡◌, ℕ, ◌<◌, length, slice_index}
use Rattle.std.specs.Prelude.{IsTrue}
use Rattle.envy_base.specs.State.{row_of}
use Rattle.envy_soundness.proofs.rows.words_of_row.Given as goal

abbrev pub invariant-loop-i : goal.invariant-loop-i
invariant-loop-i g l = record {
  long : length l.words ≡ 32;
  on : IsTrue (g.B.Board.state l.board).on;
  read : (k : ℕ) → k < l.i → slice_index l.words k ≡ slice_index (row_of (g.B.Board.state l.board) l.row) k;
}
