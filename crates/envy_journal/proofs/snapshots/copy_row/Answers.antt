use Rattle.std.proofs.Common.{◌≡◌, ◌+◌, ◌*◌, ◌∷◌, [], true, length, List, ℕ, sym, ap, subst, ◌∙◌, arith, rules}
use Rattle.envy_base.specs.Map.{words_of}
use Rattle.envy_base.specs.State.{IsPage, ones}
use Rattle.envy_journal.specs.declared.operation.Operation.TheVariants.{Program}
use Rattle.envy_journal.specs.Reading.{Leads}
use Rattle.envy_journal.specs.Snapshot.{Makes, gathered, with_rows}
use Rattle.envy_journal.proofs.Copied.{row_programmed, row_erased}
use Rattle.envy_journal.proofs.Gathered.{makes_as, makes_more, ok_goes}
use Rattle.envy_journal.proofs.Written.{program_read, program_long}
use Rattle.envy_journal.proofs.snapshots.copy_row.Goals as goal

pub returns-then-eq-clause-makes : goal.returns-then-eq-clause-makes
returns-then-eq-clause-makes g c =
    let s = g.B.Board.state c.args.board.now in
    let board = g.met.B.Board.lawful c.args.board.now in
    let q = c.args.row in
    let most = 34 + 13 * words_of s.shape in
    let erased : c.page_in-page.result ≡ ones = search rules in
    makes_as s.shape (with_rows s q) (most + 261 * q) (gathered g.D.Replaceable.second c.args.log.now) c.requires.makes (with_rows s (q + 1)) (most + 261 * (q + 1))
    (row_erased s board q c.requires.row (sym c.page_in-page.ensures ∙ erased)) (omega arith)

pub returns-clause-makes : goal.returns-clause-makes
returns-clause-makes g c =
    let s = g.B.Board.state c.args.board.now in
    let board = g.met.B.Board.lawful c.args.board.now in
    let q = c.args.row in
    let most = 34 + 13 * words_of s.shape in
    let page = c.page_in-page.result in
    let is_page : IsPage page = subst IsPage (sym c.page_in-page.ensures) (board.pages q c.requires.row) in
    let bytes = gathered g.D.Replaceable.second c.args.log.now in
    let leads = subst (λ (l : List ℕ). Leads true 0 l (Program q page ∷ []) true) (sym c.program_bytes.ensures) (program_read q page (search rules) is_page) in
    let long : length c.program_bytes.result ≡ 261 = ap length c.program_bytes.ensures ∙ program_long q page is_page.long in
    ok_goes c.append_second.result c.append_second.ensures.gathered (λ now.
    subst (λ (l : List ℕ). Makes s.shape (with_rows s (q + 1)) (most + 261 * (q + 1)) l) (sym now)
    (makes_more s.shape (with_rows s q) (most + 261 * q) bytes c.requires.makes (Program q page) c.program_bytes.result (with_rows s (q + 1)) (most + 261 * (q + 1)) leads (row_programmed s board q c.requires.row page c.page_in-page.ensures) (omega (arith, long))))
