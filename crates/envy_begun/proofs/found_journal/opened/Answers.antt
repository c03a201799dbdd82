use Rattle.std.proofs.Common.{◌∙◌, sym, subst, ⊎_elim}
use Rattle.envy_begun.specs.Plans.{IsOpened}
use Rattle.envy_begun.proofs.Again.{opened-state, unopened-stopped}
use Rattle.envy_begun.proofs.Alike.{leaves-on, leaves-only}
use Rattle.envy_journal.specs.Head.{StandsFor}
use Rattle.envy_journal.specs.Reading.{operations}
use Rattle.envy_begun.proofs.found_journal.opened.Goals as goal

pub returns-in-Ok-clause-opened : goal.returns-in-Ok-clause-opened
returns-in-Ok-clause-opened g c =
    let j = c.in-Ok.journal in
    let o = subst (λ (b : g.row.B.Denot). IsOpened (g.B.Board.state c.args.board).shape c.args.bytes.now (g.B.Board.state b)) (sym c.in-Ok.ensures.board) c.requires.opened in
    rw c.new.ensures.journal
    (opened-state (g.B.Board.state j.board) j.dead _ (g.B.Board.state c.args.board).shape c.args.bytes.now c.in-Ok.ensures.alive.0 o)

pub returns-in-Ok-clause-reads : goal.returns-in-Ok-clause-reads
returns-in-Ok-clause-reads g c = c.new.ensures.reads ∙ c.in-Ok.ensures.kept

pub returns-in-Err-clause-failed : goal.returns-in-Err-clause-failed
returns-in-Err-clause-failed g c =
    unopened-stopped g.D.Device.seen g.D.Device.has_failed c.in-Err.device c.unopened.result.1 c.unopened.result.0 c.in-Err.error c.unopened.ensures.says (λ is. ⊎_elim (λ failed. failed.1) (λ memory. absurd (let never = sym memory.0 ∙ is in cc)) c.in-Err.ensures.cause)

pub returns-in-Err-clause-left : goal.returns-in-Err-clause-left
returns-in-Err-clause-left g c =
    let stands = StandsFor (g.B.Board.state c.args.board).shape (operations c.args.bytes.now) in
    leaves-on g.D.Device.left_since g.D.Device.moment c.in-Err.device c.unopened.result.1 stands c.unopened.ensures.time c.unopened.ensures.left
    (leaves-only g.D.Device.left_since g.D.Device.moment c.args.device c.in-Err.device stands c.in-Err.ensures.any_moment_err)
