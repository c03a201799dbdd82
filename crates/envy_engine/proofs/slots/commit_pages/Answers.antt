use Rattle.std.proofs.Common.{◌∙◌, refl, ap}
use Rattle.envy_map.specs.Fields.{Chart, chart}
use Rattle.envy_soundness.specs.Same.{Commits}
use Rattle.envy_engine.proofs.EndLemmas.{IsReleasing-start, Closes-committed}
use Rattle.envy_engine.proofs.FlushLemmas.{on-ok}
use Rattle.envy_reloc.proofs.Exits.{none-if, none-power}
use Rattle.envy_engine.proofs.EndAnswers.{KeepsOwners-lost, Steady-lost, commits-cut, commits-shape, commits-then}
use Rattle.envy_engine.proofs.slots.commit_pages.Goals as goal

pub release_pages-requires : goal.release_pages-requires
release_pages-requires g c =
    let old = chart (g.B.Board.state c.args.board.now) in
    let mid = chart (g.B.Board.state c.commit_slot.new.board) in
    let r = c.requires in
    let o = c.in_ok-commit_slot.ensures in
    record { releasing = IsReleasing-start old mid c.args.parts.now c.args.owned.now c.args.t r.ready (r.owners r.ready.on) r.version r.slot r.active o.power (Commits.sound o.commits) o.fields }

pub returns-clause-ends : goal.returns-clause-ends
returns-clause-ends g c =
    let old = chart (g.B.Board.state c.args.board.now) in
    let mid = chart (g.B.Board.state c.commit_slot.new.board) in
    let new = chart (g.B.Board.state c.release_pages.new.board) in
    on-ok c.release_pages.result _ _ (λ e. let is = c.in_ok-commit_slot.ensures.fields in record { closes = Closes-committed old mid new c.args.t c.in_ok-commit_slot.ensures.fields e.closes; rows = record { job = e.rows.job ∙ ap (λ (z : Chart). z.fields.job) is; fills = e.rows.fills ∙ ap (λ (z : Chart). z.fields.fills) is; positions = e.rows.positions ∙ ap (λ (z : Chart). z.fields.positions) is; wears = e.rows.wears ∙ ap (λ (z : Chart). z.fields.wears) is; erases = e.rows.erases ∙ ap (λ (z : Chart). z.erases) is }; pairs = e.pairs }) c.release_pages.ensures.ends

pub commit_slot-requires-clause-sound : goal.commit_slot-requires-clause-sound
commit_slot-requires-clause-sound g c = c.requires.ready.sound

pub commit_slot-requires-clause-slot : goal.commit_slot-requires-clause-slot
commit_slot-requires-clause-slot g c = c.requires.slot

pub returns-in_err-commit_slot-clause-commits : goal.returns-in_err-commit_slot-clause-commits
returns-in_err-commit_slot-clause-commits g c =
    commits-cut c.args.t (chart (g.B.Board.state c.args.board.now)) (chart (g.B.Board.state c.commit_slot.new.board)) c.from_residual.result _ c.in_err-commit_slot.ensures.commits c.from_residual.ensures.1

pub returns-in_err-commit_slot-clause-ends : goal.returns-in_err-commit_slot-clause-ends
returns-in_err-commit_slot-clause-ends g c = none-if c.from_residual.result _ _ c.from_residual.ensures.1

pub returns-in_err-commit_slot-clause-owners : goal.returns-in_err-commit_slot-clause-owners
returns-in_err-commit_slot-clause-owners g c = KeepsOwners-lost (chart (g.B.Board.state c.commit_slot.new.board)) c.args.owned.now c.args.owned.now c.in_err-commit_slot.ensures.power refl

pub returns-in_err-commit_slot-clause-steady : goal.returns-in_err-commit_slot-clause-steady
returns-in_err-commit_slot-clause-steady g c =
    let old = chart (g.B.Board.state c.args.board.now) in
    let new = chart (g.B.Board.state c.commit_slot.new.board) in
    Steady-lost old new c.args.parts.now c.args.parts.now (commits-shape c.args.t old new c.in_err-commit_slot.ensures.commits) c.in_err-commit_slot.ensures.power c.requires.ready.fits refl refl refl refl refl

pub returns-in_err-commit_slot-clause-parts : goal.returns-in_err-commit_slot-clause-parts
returns-in_err-commit_slot-clause-parts g c = refl

pub returns-in_err-commit_slot-clause-power : goal.returns-in_err-commit_slot-clause-power
returns-in_err-commit_slot-clause-power g c = none-power c.from_residual.result _ (g.B.Board.state c.commit_slot.new.board).on c.in_err-commit_slot.ensures.power c.from_residual.ensures.1

pub returns-clause-commits : goal.returns-clause-commits
returns-clause-commits g c =
    commits-then c.args.t (chart (g.B.Board.state c.args.board.now)) (chart (g.B.Board.state c.commit_slot.new.board)) (chart (g.B.Board.state c.release_pages.new.board)) c.release_pages.result c.in_ok-commit_slot.ensures.commits c.release_pages.ensures.same

pub returns-clause-owners : goal.returns-clause-owners
returns-clause-owners g c = c.release_pages.ensures.owners

pub returns-clause-steady : goal.returns-clause-steady
returns-clause-steady g c = c.release_pages.ensures.steady

pub returns-clause-parts : goal.returns-clause-parts
returns-clause-parts g c = c.release_pages.ensures.parts

pub returns-clause-power : goal.returns-clause-power
returns-clause-power g c = c.release_pages.ensures.power
