use Rattle.std.proofs.Common.{◌+◌, ◌*◌, arith}
use Rattle.std.proofs.lemmas.Result.{err_from_is_err_and}
use Rattle.envy_image.proofs.Pieces.{piece-more, piece-out}
use Rattle.envy_image.proofs.writer.write_pieces.Goals as goal

pub returns-in_err-write_piece : goal.returns-in_err-write_piece
returns-in_err-write_piece g c =
    let p = err_from_is_err_and c.from_residual.result c.from_residual.ensures.1 in
    let s = g.B.Board.state c.args.board.now in
    rw (p.1, p.2) (piece-out s.sram (32 * c.loop-piece.piece) s.on c.in_err-write_piece.field-0.0 (g.K.Sink.drain c.args.sink.now) (g.K.Sink.drain c.loop-piece.sink) (g.K.Sink.drain c.write_piece.new.sink) c.requires.on c.loop-piece.invariant c.in_err-write_piece.ensures)

pub loop-piece-preserved : goal.loop-piece-preserved
loop-piece-preserved g c =
    piece-more (g.B.Board.state c.args.board.now).sram (32 * c.loop-piece.piece) (32 * (c.loop-piece.piece + 1)) (g.K.Sink.drain c.args.sink.now) (g.K.Sink.drain c.loop-piece.sink) (g.K.Sink.drain c.write_piece.new.sink) (omega arith) (omega (arith, c.requires.room, c.loop-piece-test.true)) c.loop-piece.invariant c.in_ok-write_piece.ensures.1
