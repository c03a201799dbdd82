use Rattle.std.proofs.Common.{◌+◌, ◌*◌, length, take, arith}
use Rattle.std.proofs.lemmas.Result.{err_from_is_err_and}
use Rattle.envy_image.specs.Image.{words_bytes}
use Rattle.envy_image.proofs.Pieces.{filled-piece}
use Rattle.envy_image.proofs.Programming.{filled-goes, filled-none}
use Rattle.envy_image.proofs.Stopping.{part-stops}
use Rattle.envy_image.proofs.installation.fill_pieces.Goals as goal

pub loop-piece-init : goal.loop-piece-init
loop-piece-init g c = filled-none (g.B.Board.state c.args.board.now) c.args.lines.now (g.S.Source.feed c.args.source.now) c.requires.on c.requires.within

pub returns-in_err-fill_piece : goal.returns-in_err-fill_piece
returns-in_err-fill_piece g c =
    let p = err_from_is_err_and c.from_residual.result c.from_residual.ensures.1 in
    let old = g.B.Board.state c.args.board.now in
    let mid = g.B.Board.state c.loop-piece.board in
    let n = 32 * c.loop-piece.piece in
    let i = c.loop-piece.invariant in
    let size = i.size in
    rw (p.1, p.2) (part-stops 256 (8 * length old.sram) old mid (g.B.Board.state c.fill_piece.new.board) c.args.lines.now c.loop-piece.lines c.fill_piece.new.lines (g.S.Source.feed c.args.source.now) (g.S.Source.feed c.loop-piece.source) (g.S.Source.feed c.fill_piece.new.source) (words_bytes (take n mid.sram)) (filled-goes n old mid c.args.lines.now c.loop-piece.lines (g.S.Source.feed c.args.source.now) (g.S.Source.feed c.loop-piece.source) i) i.bytes (omega (arith, c.requires.room, c.loop-piece-test.true)) c.in_err-fill_piece.field-0.0 c.in_err-fill_piece.ensures)

pub loop-piece-preserved : goal.loop-piece-preserved
loop-piece-preserved g c =
    let (words, long, put, read) = c.in_ok-fill_piece.ensures in
    filled-piece (32 * c.loop-piece.piece) (32 * (c.loop-piece.piece + 1)) (g.B.Board.state c.args.board.now) (g.B.Board.state c.loop-piece.board) (g.B.Board.state c.fill_piece.new.board) c.args.lines.now c.loop-piece.lines c.fill_piece.new.lines (g.S.Source.feed c.args.source.now) (g.S.Source.feed c.loop-piece.source) (g.S.Source.feed c.fill_piece.new.source) words (omega arith) long c.loop-piece.invariant put read
