use Rattle.std.proofs.Common.{arith}
use Rattle.std.proofs.lemmas.Result.{err_from_is_err_and}
use Rattle.envy_base.specs.State.{IsPage}
use Rattle.envy_image.specs.Image.{words_bytes}
use Rattle.envy_image.proofs.Programming.{length-words}
use Rattle.envy_image.proofs.Stopping.{stops-as}
use Rattle.envy_image.proofs.Upsetting.{goes-none}
use Rattle.envy_image.proofs.installation.fill_piece.Goals as goal

pub returns-in_err-words : goal.returns-in_err-words
returns-in_err-words g c =
    let p = err_from_is_err_and c.from_residual.result c.from_residual.ensures.1 in
    let old = g.B.Board.state c.args.board.now in
    let (bytes, few, ends, stops) = c.in_err-words.ensures in
    rw (p.1, p.2) (stops-as c.in_err-words.field-0.0 256 old old c.args.lines.now c.read_page.new.lines (g.S.Source.feed c.args.source.now) (g.S.Source.feed c.read_page.new.source) (record { goes = goes-none old c.requires.on; bytes = bytes; few = few; ends = ends; stops = stops }))

pub returns-in_err-put_words : goal.returns-in_err-put_words
returns-in_err-put_words g c =
    let p = err_from_is_err_and c.from_residual-in_err-put_words.result c.from_residual-in_err-put_words.ensures.1 in
    let (whole, read) = c.in_ok-words.ensures in
    rw (p.1, p.2) (record {
      upset = c.in_err-put_words.ensures;
      bytes = words_bytes c.in_ok-words.words;
      few = omega (arith, length-words c.in_ok-words.words, IsPage.long whole);
      read = read;
    })

pub returns : goal.returns
returns g c =
    let (whole, read) = c.in_ok-words.ensures in
    (c.in_ok-words.words, IsPage.long whole, c.in_ok-put_words.ensures, read)
