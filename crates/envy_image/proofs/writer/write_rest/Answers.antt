use Rattle.std.proofs.Common.{ℕ, Ok, Err, arith, subst}
use Rattle.envy_io.specs.Streams.{WritesAll}
use Rattle.std.proofs.lemmas.Result.{err_from_is_err_and}
use Rattle.envy_image.specs.Image.{word_bytes}
use Rattle.envy_image.proofs.Joining.{items-failed, items-more, items-all, words-are}
use Rattle.envy_image.proofs.writer.write_rest.Goals as goal

pub loop-w-init : goal.loop-w-init
loop-w-init g c = λ from first. first

pub returns-in_err-write_word : goal.returns-in_err-write_word
returns-in_err-write_word g c from first =
    let p = err_from_is_err_and c.from_residual-in_err-write_word.result c.from_residual-in_err-write_word.ensures.1 in
    let long = (g.met.B.Board.lawful c.args.board.now).sram in
    rw (p.1, p.2) (c.requires.on, c.in_err-write_word.field-0.0, items-failed word_bytes (g.B.Board.state c.args.board.now).sram 0 c.loop-w.w _ from (g.K.Sink.drain c.loop-w.sink) (g.K.Sink.drain c.write_word.new.sink) (omega (arith, long, words-are (g.B.Board.state c.args.board.now).shape c.shape.result c.shape.ensures c.words-w-end.ensures, c.loop-w-test.true)) (c.loop-w.invariant from first) (subst (λ (w : ℕ). WritesAll (g.K.Sink.drain c.loop-w.sink) (word_bytes w) (Err c.in_err-write_word.field-0.0) (g.K.Sink.drain c.write_word.new.sink)) c.in_ok-word.ensures.1 c.in_err-write_word.ensures))

pub loop-w-preserved : goal.loop-w-preserved
loop-w-preserved g c =
    let long = (g.met.B.Board.lawful c.args.board.now).sram in
    λ from first. items-more word_bytes (g.B.Board.state c.args.board.now).sram 0 c.loop-w.w from (g.K.Sink.drain c.loop-w.sink) (g.K.Sink.drain c.write_word.new.sink) (omega (arith, long, words-are (g.B.Board.state c.args.board.now).shape c.shape.result c.shape.ensures c.words-w-end.ensures, c.loop-w-test.true)) (c.loop-w.invariant from first) (subst (λ (w : ℕ). WritesAll (g.K.Sink.drain c.loop-w.sink) (word_bytes w) (Ok tt) (g.K.Sink.drain c.write_word.new.sink)) c.in_ok-word.ensures.1 c.in_ok-write_word.ensures)

pub returns : goal.returns
returns g c from first =
    let long = (g.met.B.Board.lawful c.args.board.now).sram in
    (c.requires.on, items-all word_bytes (g.B.Board.state c.args.board.now).sram 0 c.loop-w.w from (g.K.Sink.drain c.loop-w.sink) (omega (arith, long, words-are (g.B.Board.state c.args.board.now).shape c.shape.result c.shape.ensures c.words-w-end.ensures, c.loop-w-test.false)) (c.loop-w.invariant from first))
