use Rattle.std.proofs.Common.{◌≡◌, ◌∙◌, ◌+◌, ◌*◌, length, sym, subst, arith, rules}
use Rattle.envy_base.specs.State.{IsPage, ones}
use Rattle.envy_journal.specs.declared.operation.Operation.TheVariants.{Program}
use Rattle.envy_journal.specs.Reading.{bytes_of}
use Rattle.envy_journal.proofs.Condensed.{ok_both, part_blank, part_programmed, remakes_as, remakes_more}
use Rattle.envy_journal.proofs.Written.{program_long, program_read}
use Rattle.envy_journal.proofs.renewal.renew_row.Goals as goal

pub returns-then-eq-clause-remakes : goal.returns-then-eq-clause-remakes
returns-then-eq-clause-remakes g c =
    let D = g.D.Device in
    let s = g.B.Board.state c.args.board.now in
    let board = g.met.B.Board.lawful c.args.board.now in
    let is = c.requires.remakes in
    let q = c.args.row in
    let few = 5 * s.shape.segments in
    let blank : c.page_in-page.result ≡ ones = search rules in
    remakes_as D.seen D.may_leave D.left_since D.synced D.bytewise s (length s.flash) q 0 (few + 261 * q) c.args.log.now is (length s.flash) (q + 1) 0 (few + 261 * (q + 1))
    (part_blank s is.board board q c.requires.row is.part (sym c.page_in-page.ensures ∙ blank)) (omega arith)

pub append-requires-clause-whole : goal.append-requires-clause-whole
append-requires-clause-whole g c =
    let s = g.B.Board.state c.args.board.now in
    let board = g.met.B.Board.lawful c.args.board.now in
    let is_page : IsPage c.page_in-page.result = subst IsPage (sym c.page_in-page.ensures) (board.pages c.args.row c.requires.row) in
    is_page.long

pub returns-clause-remakes : goal.returns-clause-remakes
returns-clause-remakes g c =
    let D = g.D.Device in
    let s = g.B.Board.state c.args.board.now in
    let board = g.met.B.Board.lawful c.args.board.now in
    let is = c.requires.remakes in
    let q = c.args.row in
    let few = 5 * s.shape.segments in
    let page = c.page_in-page.result in
    let is_page : IsPage page = subst IsPage (sym c.page_in-page.ensures) (board.pages q c.requires.row) in
    let a = c.append in
    let long : length (bytes_of (Program q page)) ≡ 261 = program_long q page is_page.long in
    ok_both a.result a.ensures.ok a.ensures.counted (λ ok counted.
    remakes_more D.seen D.may_leave D.left_since D.synced D.bytewise s (length s.flash) q 0 (few + 261 * q) c.args.log.now a.new.self is (Program q page) (bytes_of (Program q page)) (length s.flash) (q + 1) 0 (few + 261 * (q + 1))
    (program_read q page (search rules) is_page) (part_programmed s is.board board q c.requires.row is.part page c.page_in-page.ensures) (omega (arith, long)) ok.0 counted a.ensures.kept ok.1 a.ensures.room)
