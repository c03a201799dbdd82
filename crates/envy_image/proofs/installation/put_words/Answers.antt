use Rattle.std.proofs.Common.{◌+◌, take, get_or, refl, arith}
use Rattle.std.proofs.lemmas.Result.{err_from_is_err_and}
use Rattle.envy_image.proofs.Pieces.{put-none, put-goes, put-more, put-all}
use Rattle.envy_image.proofs.Upsetting.{put-upset}
use Rattle.envy_image.proofs.installation.put_words.Goals as goal

pub loop-i-init : goal.loop-i-init
loop-i-init g c = put-none c.args.first c.args.words.now (g.B.Board.state c.args.board.now) c.requires.on

pub returns-in_err-put : goal.returns-in_err-put
returns-in_err-put g c =
    let old = g.B.Board.state c.args.board.now in
    let mid = g.B.Board.state c.loop-i.board in
    let p = err_from_is_err_and c.from_residual.result c.from_residual.ensures.1 in
    rw p.1 (put-upset old mid (g.B.Board.state c.put.new.self) (c.args.first + c.loop-i.i) (get_or c.args.words.now c.loop-i.i 0) c.in_err-put.field-0.0 (put-goes c.args.first (take c.loop-i.i c.args.words.now) old mid c.loop-i.invariant) c.in_err-put.ensures)

pub loop-i-preserved : goal.loop-i-preserved
loop-i-preserved g c =
    put-more c.args.first c.loop-i.i (get_or c.args.words.now c.loop-i.i 0) c.args.words.now (g.B.Board.state c.args.board.now) (g.B.Board.state c.loop-i.board) (g.B.Board.state c.put.new.self) (omega (arith, c.requires.words, c.loop-i-test.true)) (omega (arith, c.requires.words, c.requires.room)) refl c.loop-i.invariant c.in_ok-put.ensures

pub returns : goal.returns
returns g c =
    put-all c.args.first c.loop-i.i c.args.words.now (g.B.Board.state c.args.board.now) (g.B.Board.state c.loop-i.board) (omega (arith, c.requires.words, c.loop-i-test.false)) c.loop-i.invariant
