use Rattle.std.proofs.Common.{◌≡◌, ◌*◌, length, take, drop}
use Rattle.envy_image.specs.Image.{words_bytes}
use Rattle.envy_image.proofs.writer.bytes_of_piece.Given as goal

abbrev pub invariant-loop-i : goal.invariant-loop-i
invariant-loop-i g l = (length l.bytes ≡ 256) × (take (8 * l.i) l.bytes ≡ words_bytes (take l.i (take 32 (drop l.first (g.B.Board.state l.board).sram))))
