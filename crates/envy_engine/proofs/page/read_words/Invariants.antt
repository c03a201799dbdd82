use Rattle.std.proofs.Common.{◌≡◌, ℕ, ◌<◌, length, slice_index, Some}
use Rattle.envy_map.specs.Fields.{chart}
use Rattle.envy_soundness.specs.Words.{word_at}
use Rattle.envy_engine.proofs.page.read_words.Given as goal

abbrev pub invariant-loop-i : goal.invariant-loop-i
invariant-loop-i g l = record {
  long : length l.words ≡ 32;
  read : (j : ℕ) → j < l.i → slice_index l.words j ≡ word_at (chart (g.B.Board.state l.board)).fields.frames (g.B.Board.state l.board).flash (Some l.from) j;
}
