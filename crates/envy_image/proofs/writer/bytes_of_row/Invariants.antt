use Rattle.std.proofs.Common.{◌≡◌, ◌*◌, [], length, take}
use Rattle.std.specs.Prelude.{slice_index_or}
use Rattle.envy_image.specs.Image.{words_bytes}
use Rattle.envy_image.proofs.writer.bytes_of_row.Given as goal

abbrev pub invariant-loop-i : goal.invariant-loop-i
invariant-loop-i g l = (length l.bytes ≡ 256) × (take (8 * l.i) l.bytes ≡ words_bytes (take l.i (slice_index_or (g.B.Board.state l.board).flash l.row [])))
