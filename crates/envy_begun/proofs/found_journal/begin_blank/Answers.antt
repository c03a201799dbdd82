use Rattle.std.proofs.Common.{◌∙◌, ◌≡◌, inl, inr, ⊎_elim, List, ℕ, [], refl, subst, sym}
use Rattle.envy_base.specs.declared.shape.Shape.{Shape}
use Rattle.envy_begun.specs.Unserved.{Declines, Refrains}
use Rattle.envy_begun.proofs.Again.{all-declines}
use Rattle.envy_begun.proofs.Alike.{leaves-as, leaves-still}
use Rattle.envy_begun.proofs.Fresh.{stands-stays, still-new}
use Rattle.envy_begun.specs.Left.{Leaves, StaysNew}
use Rattle.envy_begun.specs.Plans.{IsOpened}
use Rattle.envy_journal.specs.Content.{HasMisfit}
use Rattle.envy_journal.specs.Head.{StandsFor}
use Rattle.envy_journal.specs.Reading.{operations}
use Rattle.envy_journal.specs.declared.operation.Operation.{Operation}
use Rattle.envy_begun.proofs.found_journal.begin_blank.Goals as goal

pub returns-in-Err-clause-failed : goal.returns-in-Err-clause-failed
returns-in-Err-clause-failed g c =
    subst (λ (sh : Shape). Declines g.D.Device.seen g.D.Device.has_failed (HasMisfit sh (operations c.args.bytes.now)) c.args.bytes.now c.args.device c.in-Err.open_fault c.args.device) c.requires.shape (inl (c.in-Err.ensures.refused, refl))

pub returns-in-Err-opened-clause-failed : goal.returns-in-Err-opened-clause-failed
returns-in-Err-opened-clause-failed g c = inr c.in-Err-opened.ensures.failed

pub returns-clause-failed : goal.returns-clause-failed
returns-clause-failed g c = all-declines g.D.Device.seen g.D.Device.has_failed (HasMisfit c.args.setup.shape (operations c.args.bytes.now)) c.args.bytes.now c.args.device c.make_memory.result c.make_memory.ensures.failed

pub returns-in-Err-clause-left : goal.returns-in-Err-clause-left
returns-in-Err-clause-left g c none =
    leaves-still g.D.Device.may_leave g.D.Device.left_since g.D.Device.moment c.args.device c.args.bytes.now (λ x left. c.requires.durable x left ∙ sym c.requires.bytes) (g.met.D.Device.only_now c.args.device)
    (StaysNew c.in-Err.open_fault c.args.setup.shape c.args.bytes.now) (still-new (HasMisfit (g.B.Board.state c.args.board).shape (operations c.args.bytes.now)) c.args.setup.shape c.args.bytes.now c.in-Err.open_fault c.in-Err.ensures.refused)

pub returns-in-Err-opened-clause-left : goal.returns-in-Err-opened-clause-left
returns-in-Err-opened-clause-left g c none =
    let sh = c.args.setup.shape in
    let open_fault = c.in-Err-opened.open_fault.0 in
    let new = c.in-Err-opened.open_fault.1 in
    let same = c.replayed.ensures.shape ∙ c.requires.shape in
    let left = subst (λ (p : List Operation). Leaves g.D.Device.left_since g.D.Device.moment new (StandsFor sh p)) none (subst (λ (x : Shape). Leaves g.D.Device.left_since g.D.Device.moment new (StandsFor x (operations c.args.bytes.now))) same c.in-Err-opened.ensures.left) in
    leaves-as g.D.Device.left_since g.D.Device.moment new (StandsFor sh []) (StaysNew open_fault sh c.args.bytes.now) (stands-stays g.D.Device.seen g.D.Device.has_failed new sh c.args.bytes.now open_fault c.in-Err-opened.ensures.failed) left

pub returns-clause-left : goal.returns-clause-left
returns-clause-left g c none =
    c.make_memory.ensures.left c.in-Ok-opened.ensures.synced c.args.bytes.now (c.in-Ok-opened.ensures.reads ∙ none)

pub opened-requires-clause-opened : goal.opened-requires-clause-opened
opened-requires-clause-opened g c =
    subst (λ (sh : Shape). IsOpened sh c.args.bytes.now (g.B.Board.state c.replayed.new.board)) (sym c.replayed.ensures.shape) c.in-Ok.ensures.opened
