use Rattle.std.proofs.Common.{◌*◌, ◌<◌, ◌++◌, length, take, ap, arith, length-append}
use Rattle.std.proofs.lemmas.Result.{err_from_is_err_and}
use Rattle.envy_base.specs.State.{IsPage}
use Rattle.envy_base.specs.declared.shape.Shape.{Shape}
use Rattle.envy_image.specs.Image.{rows_bytes, words_bytes}
use Rattle.envy_image.proofs.Consuming.{consumes-both}
use Rattle.envy_image.proofs.Programming.{programmed-none, programmed-goes, programmed-more, length-words}
use Rattle.envy_image.proofs.Stopping.{stopped}
use Rattle.envy_image.proofs.Upsetting.{program-upset}
use Rattle.envy_image.proofs.installation.program_rows.Goals as goal

pub loop-row-init : goal.loop-row-init
loop-row-init g c = programmed-none (g.B.Board.state c.args.board.now) c.args.lines.now (g.S.Source.feed c.args.source.now) c.requires.on c.requires.within

pub returns-in_err-page : goal.returns-in_err-page
returns-in_err-page g c =
    let p = err_from_is_err_and c.from_residual.result c.from_residual.ensures.1 in
    let old = g.B.Board.state c.args.board.now in
    let mid = g.B.Board.state c.loop-row.board in
    let i = c.loop-row.invariant in
    let (bytes, few, ends, stops) = c.in_err-page.ensures in
    let size = i.size in
    rw (p.1, p.2) (stopped c.in_err-page.field-0.0 (256 * length old.flash) old mid c.args.lines.now c.loop-row.lines c.read_page.new.lines (g.S.Source.feed c.args.source.now) (g.S.Source.feed c.loop-row.source) (g.S.Source.feed c.read_page.new.source) (rows_bytes (take c.loop-row.row mid.flash)) bytes (programmed-goes c.loop-row.row old mid c.args.lines.now c.loop-row.lines (g.S.Source.feed c.args.source.now) (g.S.Source.feed c.loop-row.source) i) i.bytes (omega (arith, (g.met.B.Board.lawful c.args.board.now).rows, ap (λ (sh : Shape). sh.segments * sh.rows) c.shape-shape.ensures)) ends stops)

pub returns-in_err-program : goal.returns-in_err-program
returns-in_err-program g c =
    let p = err_from_is_err_and c.from_residual-in_err-program.result c.from_residual-in_err-program.ensures.1 in
    let old = g.B.Board.state c.args.board.now in
    let mid = g.B.Board.state c.loop-row.board in
    let i = c.loop-row.invariant in
    let (whole, read) = c.in_ok-page.ensures in
    let size = i.size in
    let long = IsPage.long whole in
    rw (p.1, p.2) (record {
      upset = program-upset old mid (g.B.Board.state c.program.new.self) c.loop-row.row c.in_ok-page.page c.in_err-program.field-0.0 (programmed-goes c.loop-row.row old mid c.args.lines.now c.loop-row.lines (g.S.Source.feed c.args.source.now) (g.S.Source.feed c.loop-row.source) i) c.in_err-program.ensures;
      bytes = rows_bytes (take c.loop-row.row mid.flash) ++ words_bytes c.in_ok-page.page;
      few = omega (arith, length-append (rows_bytes (take c.loop-row.row mid.flash)) (words_bytes c.in_ok-page.page), length-words c.in_ok-page.page, (g.met.B.Board.lawful c.args.board.now).rows, ap (λ (sh : Shape). sh.segments * sh.rows) c.shape-shape.ensures);
      read = consumes-both c.args.lines.now c.loop-row.lines c.read_page.new.lines (g.S.Source.feed c.args.source.now) (g.S.Source.feed c.loop-row.source) (g.S.Source.feed c.read_page.new.source) (rows_bytes (take c.loop-row.row mid.flash)) (words_bytes c.in_ok-page.page) i.bytes read;
    })

pub loop-row-preserved : goal.loop-row-preserved
loop-row-preserved g c =
    let old = g.B.Board.state c.args.board.now in
    let mid = g.B.Board.state c.loop-row.board in
    let (whole, read) = c.in_ok-page.ensures in
    let lt : c.loop-row.row < length old.flash = omega (arith, (g.met.B.Board.lawful c.args.board.now).rows, ap (λ (sh : Shape). sh.segments * sh.rows) c.shape-shape.ensures) in
    programmed-more c.loop-row.row old mid (g.B.Board.state c.program.new.self) c.args.lines.now c.loop-row.lines c.read_page.new.lines (g.S.Source.feed c.args.source.now) (g.S.Source.feed c.loop-row.source) (g.S.Source.feed c.read_page.new.source) c.in_ok-page.page lt (c.requires.blank c.loop-row.row lt) (IsPage.long whole) (IsPage.words whole) c.loop-row.invariant read c.in_ok-program.ensures
