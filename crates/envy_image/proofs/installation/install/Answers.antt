use Rattle.std.proofs.Common.{◌*◌, ◌<◌, [], length, arith}
use Rattle.std.proofs.Math.Nat.{div-lt_iff_lt-mul}
use Rattle.std.proofs.lemmas.Result.{err_from_is_err_and}
use Rattle.envy_image.specs.Installing.{Blanked, body_size}
use Rattle.envy_image.proofs.Backwards.{gives-back}
use Rattle.envy_image.proofs.Blanking.{blanked-goes}
use Rattle.envy_image.proofs.Consuming.{consumes-none}
use Rattle.envy_image.proofs.Stopping.{within-head, part-stops, installs-last}
use Rattle.envy_image.proofs.installation.install.Goals as goal

pub returns-in_err-erase_all-clause-installs : goal.returns-in_err-erase_all-clause-installs
returns-in_err-erase_all-clause-installs g c =
    let p = err_from_is_err_and c.from_residual.result c.from_residual.ensures.1 in
    rw (p.1, p.2) (record {
      upset = c.in_err-erase_all.ensures;
      bytes = [];
      few = omega arith;
      read = consumes-none c.args.lines.now (g.S.Source.feed c.args.source.now) (within-head _ c.args.lines.now (g.S.Source.feed c.args.source.now) c.requires.head);
    })

pub returns-in_err-program_rows-clause-installs : goal.returns-in_err-program_rows-clause-installs
returns-in_err-program_rows-clause-installs g c =
    let p = err_from_is_err_and c.from_residual-in_err-program_rows.result c.from_residual-in_err-program_rows.ensures.1 in
    let old = g.B.Board.state c.args.board.now in
    let first = g.B.Board.state c.erase_all.new.board in
    let rows = (g.met.B.Board.lawful c.args.board.now).rows in
    let long = Blanked.long c.in_ok-erase_all.ensures in
    rw (p.1, p.2) (part-stops (256 * length first.flash) (body_size old.shape) old first (g.B.Board.state c.program_rows.new.board) c.args.lines.now c.args.lines.now c.program_rows.new.lines (g.S.Source.feed c.args.source.now) (g.S.Source.feed c.args.source.now) (g.S.Source.feed c.program_rows.new.source) [] (blanked-goes old.shape.segments old first c.in_ok-erase_all.ensures) (consumes-none c.args.lines.now (g.S.Source.feed c.args.source.now) (within-head _ c.args.lines.now (g.S.Source.feed c.args.source.now) c.requires.head)) (omega arith) c.in_err-program_rows.field-0.0 c.in_err-program_rows.ensures)

pub returns-clause-installs : goal.returns-clause-installs
returns-clause-installs g c =
    installs-last (g.B.Board.state c.args.board.now) (g.B.Board.state c.erase_all.new.board) (g.B.Board.state c.program_rows.new.board) (g.B.Board.state c.fill_words.new.board) c.args.lines.now c.program_rows.new.lines c.fill_words.new.lines (g.S.Source.feed c.args.source.now) (g.S.Source.feed c.program_rows.new.source) (g.S.Source.feed c.fill_words.new.source) (g.met.B.Board.lawful c.args.board.now) c.in_ok-erase_all.ensures c.in_ok-program_rows.ensures c.fill_words.result c.fill_words.ensures

pub returns-clause-back : goal.returns-clause-back
returns-clause-back g c =
    gives-back (g.B.Board.state c.args.board.now) (g.B.Board.state c.fill_words.new.board) c.args.lines.now c.fill_words.new.lines (g.S.Source.feed c.args.source.now) (g.S.Source.feed c.fill_words.new.source) c.fill_words.result (g.met.B.Board.lawful c.fill_words.new.board) (installs-last (g.B.Board.state c.args.board.now) (g.B.Board.state c.erase_all.new.board) (g.B.Board.state c.program_rows.new.board) (g.B.Board.state c.fill_words.new.board) c.args.lines.now c.program_rows.new.lines c.fill_words.new.lines (g.S.Source.feed c.args.source.now) (g.S.Source.feed c.program_rows.new.source) (g.S.Source.feed c.fill_words.new.source) (g.met.B.Board.lawful c.args.board.now) c.in_ok-erase_all.ensures c.in_ok-program_rows.ensures c.fill_words.result c.fill_words.ensures)

pub program_rows-requires-clause-blank : goal.program_rows-requires-clause-blank
program_rows-requires-clause-blank g c = λ q below.
    let s = g.B.Board.state c.args.board.now in
    let law = g.met.B.Board.lawful c.args.board.now in
    let blanked = c.in_ok-erase_all.ensures in
    let inside : q < length s.flash = omega (arith, below, blanked.long) in
    let row : q < s.shape.segments * s.shape.rows = omega (arith, inside, law.rows) in
    blanked.blank q inside ((div-lt_iff_lt-mul (omega (arith, law.shape.rows))).1 row)
