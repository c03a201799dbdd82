use Rattle.std.proofs.Common.{◌≡◌, ◌*◌, ◌++◌, length, take, refl, ◌∙◌, ap, subst, arith, length-append, ℕ}
use Rattle.std.proofs.lemmas.Result.{err_from_is_err_and}
use Rattle.std.proofs.lemmas.List.{length-set}
use Rattle.envy_base.specs.State.{State}
use Rattle.envy_image.specs.Image.{word_bytes, words_bytes}
use Rattle.envy_image.specs.Installing.{Filled}
use Rattle.envy_image.proofs.Consuming.{consumes-both}
use Rattle.envy_image.proofs.Joining.{words-are}
use Rattle.envy_image.proofs.Programming.{filled-goes, filled-more, length-word}
use Rattle.envy_image.proofs.Stopping.{stopped}
use Rattle.envy_image.proofs.Upsetting.{put-upset}
use Rattle.envy_image.proofs.installation.fill_rest.Goals as goal

pub loop-w-init : goal.loop-w-init
loop-w-init g c = (refl, λ start was from f. f)

pub returns-in_err-word : goal.returns-in_err-word
returns-in_err-word g c start was from f =
    let p = err_from_is_err_and c.from_residual.result c.from_residual.ensures.1 in
    let mid = g.B.Board.state c.loop-w.board in
    let i = c.loop-w.invariant.1 start was from f in
    let (bytes, few, ends, stops) = c.in_err-word.ensures in
    let size = Filled.size i in
    let long = Filled.long i in
    rw (p.1, p.2) (stopped c.in_err-word.field-0.0 (8 * length start.sram) start mid was c.loop-w.lines c.read_word.new.lines from (g.S.Source.feed c.loop-w.source) (g.S.Source.feed c.read_word.new.source) (words_bytes (take c.loop-w.w mid.sram)) bytes (filled-goes c.loop-w.w start mid was c.loop-w.lines from (g.S.Source.feed c.loop-w.source) i) (Filled.bytes i) (omega (arith, c.loop-w.invariant.0, (g.met.B.Board.lawful c.args.board.now).sram, words-are (g.B.Board.state c.args.board.now).shape c.shape.result c.shape.ensures c.words-w-end.ensures, c.loop-w-test.true)) ends stops)

pub put-requires : goal.put-requires
put-requires g c = omega (arith, c.loop-w.invariant.0, (g.met.B.Board.lawful c.args.board.now).sram, words-are (g.B.Board.state c.args.board.now).shape c.shape.result c.shape.ensures c.words-w-end.ensures, c.loop-w-test.true)

pub returns-in_err-put : goal.returns-in_err-put
returns-in_err-put g c start was from f =
    let p = err_from_is_err_and c.from_residual-in_err-put.result c.from_residual-in_err-put.ensures.1 in
    let mid = g.B.Board.state c.loop-w.board in
    let i = c.loop-w.invariant.1 start was from f in
    let size = Filled.size i in
    let long = Filled.long i in
    rw (p.1, p.2) (record {
      upset = put-upset start mid (g.B.Board.state c.put.new.self) c.loop-w.w c.in_ok-word.word c.in_err-put.field-0.0 (filled-goes c.loop-w.w start mid was c.loop-w.lines from (g.S.Source.feed c.loop-w.source) i) c.in_err-put.ensures;
      bytes = words_bytes (take c.loop-w.w mid.sram) ++ word_bytes c.in_ok-word.word;
      few = omega (arith, length-append (words_bytes (take c.loop-w.w mid.sram)) (word_bytes c.in_ok-word.word), length-word c.in_ok-word.word, c.loop-w.invariant.0, (g.met.B.Board.lawful c.args.board.now).sram, words-are (g.B.Board.state c.args.board.now).shape c.shape.result c.shape.ensures c.words-w-end.ensures, c.loop-w-test.true);
      read = consumes-both was c.loop-w.lines c.read_word.new.lines from (g.S.Source.feed c.loop-w.source) (g.S.Source.feed c.read_word.new.source) (words_bytes (take c.loop-w.w mid.sram)) (word_bytes c.in_ok-word.word) (Filled.bytes i) c.in_ok-word.ensures;
    })

pub loop-w-preserved : goal.loop-w-preserved
loop-w-preserved g c =
    let mid = g.B.Board.state c.loop-w.board in (
      ap (λ (s : State). length s.sram) c.in_ok-put.ensures.1 ∙ (length-set mid.sram c.loop-w.w c.in_ok-word.word ∙ c.loop-w.invariant.0),
      λ start was from f.
          let i = c.loop-w.invariant.1 start was from f in
          let long = Filled.long i in
          filled-more c.loop-w.w start mid (g.B.Board.state c.put.new.self) was c.loop-w.lines c.read_word.new.lines from (g.S.Source.feed c.loop-w.source) (g.S.Source.feed c.read_word.new.source) c.in_ok-word.word (omega (arith, c.loop-w.invariant.0, (g.met.B.Board.lawful c.args.board.now).sram, words-are (g.B.Board.state c.args.board.now).shape c.shape.result c.shape.ensures c.words-w-end.ensures, c.loop-w-test.true)) i c.in_ok-word.ensures c.in_ok-put.ensures,
    )

pub returns : goal.returns
returns g c start was from f =
    let i = c.loop-w.invariant.1 start was from f in
    let long = Filled.long i in
    let all : c.loop-w.w ≡ length start.sram = omega (arith, c.loop-w.invariant.0, c.requires.room, (g.met.B.Board.lawful c.args.board.now).sram, words-are (g.B.Board.state c.args.board.now).shape c.shape.result c.shape.ensures c.words-w-end.ensures, c.loop-w-test.false) in
    subst (λ (n : ℕ). Filled n start was from (g.B.Board.state c.loop-w.board) c.loop-w.lines (g.S.Source.feed c.loop-w.source)) all i
