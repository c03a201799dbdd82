use Rattle.std.proofs.Common.{◌∙◌, ◌≡◌, inl, inr, refl, sym, subst, List, ℕ}
use Rattle.std.specs.Prelude.{IsTrue}
use Rattle.envy_base.specs.declared.shape.Shape.{Shape}
use Rattle.envy_begun.specs.Unserved.{Declines, HasNoWords}
use Rattle.envy_begun.specs.Plans.{IsOpened}
use Rattle.envy_begun.proofs.Again.{off-attach, still-compact, still-same, taken-on, taken-up, unattached-stopped, whole-again}
use Rattle.envy_begun.proofs.Alike.{alike-stays, fault-leaves, leaves-as, leaves-still, still-written}
use Rattle.envy_begun.specs.Left.{Leaves, OpensAlike, StaysWritten}
use Rattle.envy_calls.specs.Making.{IsWhole}
use Rattle.envy_journal.specs.Journal.{journal_state, lawful_lem}
use Rattle.envy_map.specs.Fields.{Chart, chart}
use Rattle.envy_synced.specs.Disk.{disk_state, lawful_disk}
use Rattle.envy_soundness.specs.Same.{Kept}
use Rattle.envy_memory.specs.Attaching.{Attaches}
use Rattle.envy_begun.proofs.found_journal.begin_again.Given.{Over}
use Rattle.envy_begun.proofs.found_journal.begin_again.Goals as goal

pub returns-in-Err-clause-failed : goal.returns-in-Err-clause-failed
returns-in-Err-clause-failed g c = inl (c.in-Err.ensures.refused, refl)

pub returns-in-Err-clause-left : goal.returns-in-Err-clause-left
returns-in-Err-clause-left g c =
    leaves-still g.D.Device.may_leave g.D.Device.left_since g.D.Device.moment c.args.device c.args.bytes.now (λ x left. c.requires.durable x left ∙ sym c.requires.bytes) (g.met.D.Device.only_now c.args.device)
    (StaysWritten c.in-Err.open_fault c.args.setup.shape c.args.bytes.now) (still-written (HasNoWords c.args.setup.shape c.args.bytes.now) c.args.setup.shape c.args.bytes.now c.in-Err.open_fault c.in-Err.ensures.refused)

pub opened_as_asked-requires-clause-opened : goal.opened_as_asked-requires-clause-opened
opened_as_asked-requires-clause-opened g c =
    subst (λ (sh : Shape). IsOpened sh c.args.bytes.now (g.B.Board.state c.read_journal.new.board)) (sym c.read_journal.ensures.shape) c.in-Ok.ensures.opened

pub returns-in-Err-opened_as_asked-clause-failed : goal.returns-in-Err-opened_as_asked-clause-failed
returns-in-Err-opened_as_asked-clause-failed g c = inr c.in-Err-opened_as_asked.ensures.failed

pub returns-in-Err-opened_as_asked-clause-left : goal.returns-in-Err-opened_as_asked-clause-left
returns-in-Err-opened_as_asked-clause-left g c =
    let sh = (g.B.Board.state c.read_journal.new.board).shape in
    let open_fault = c.in-Err-opened_as_asked.open_fault.0 in
    let new = c.in-Err-opened_as_asked.open_fault.1 in
    subst (λ (x : Shape). Leaves g.D.Device.left_since g.D.Device.moment new (StaysWritten open_fault x c.args.bytes.now)) (c.read_journal.ensures.shape ∙ c.requires.shape)
    (leaves-as g.D.Device.left_since g.D.Device.moment new (OpensAlike sh c.args.bytes.now) (StaysWritten open_fault sh c.args.bytes.now) (alike-stays g.D.Device.seen g.D.Device.has_failed new sh c.args.bytes.now open_fault c.in-Err-opened_as_asked.ensures.failed) c.in-Err-opened_as_asked.ensures.left)

pub attach-requires : goal.attach-requires
attach-requires g c on formatted =
    let j = c.in-Ok-opened_as_asked.kept.journal in
    let board = lawful_disk _ _ (lawful_lem j.dead (g.B.Board.state j.board) (g.met.B.Board.lawful j.board)) in
    let (words, opens) = c.in-Ok.ensures.words in
    IsWhole.sound (whole-again (g.B.Board.state c.read_journal.new.board).shape c.args.bytes.now _ c.in-Ok-opened_as_asked.ensures.opened c.args.setup (c.read_journal.ensures.shape ∙ c.requires.shape) board c.requires.setup words opens)

pub returns-in-Ok-attach-clause-begun : goal.returns-in-Ok-attach-clause-begun
returns-in-Ok-attach-clause-begun g c =
    let j = c.in-Ok-opened_as_asked.kept.journal in
    let board = lawful_disk _ _ (lawful_lem j.dead (g.B.Board.state j.board) (g.met.B.Board.lawful j.board)) in
    let (words, opens) = c.in-Ok.ensures.words in
    let same = c.read_journal.ensures.shape ∙ c.requires.shape in
    taken-up (g.B.Board.state c.read_journal.new.board).shape c.args.bytes.now _ c.in-Ok-opened_as_asked.ensures.opened c.args.setup same c.in-Ok-attach.memory c.in-Ok-opened_as_asked.ensures.synced
    (whole-again (g.B.Board.state c.read_journal.new.board).shape c.args.bytes.now _ c.in-Ok-opened_as_asked.ensures.opened c.args.setup same board c.requires.setup words opens) c.in-Ok-attach.ensures

pub returns-in-Ok-attach-clause-board : goal.returns-in-Ok-attach-clause-board
returns-in-Ok-attach-clause-board g c =
    taken-on (g.B.Board.state c.read_journal.new.board).shape c.args.bytes.now _ c.in-Ok-opened_as_asked.ensures.opened c.args.setup c.in-Ok-attach.memory c.in-Ok-opened_as_asked.ensures.synced c.in-Ok-attach.ensures

pub returns-in-Err-attach-clause-failed : goal.returns-in-Err-attach-clause-failed
returns-in-Err-attach-clause-failed g c =
    inr (unattached-stopped g.D.Device.seen g.D.Device.has_failed c.closed-device.result.0 c.unattached.result.1 c.unattached.result.0 c.in-Err-attach.fault c.closed-device.result.1 c.unattached.ensures.says
    (λ off. c.closed-device.ensures.stopped (off-attach c.in-Err-attach.fault _ _ c.args.setup off c.in-Err-attach.ensures)))

pub returns-in-Err-attach-clause-left : goal.returns-in-Err-attach-clause-left
returns-in-Err-attach-clause-left g c =
    let open_fault = c.unattached.result.0 in
    subst (λ (x : Shape). Leaves g.D.Device.left_since g.D.Device.moment c.unattached.result.1 (StaysWritten open_fault x c.args.bytes.now)) (c.read_journal.ensures.shape ∙ c.requires.shape)
    (fault-leaves g.D.Device.left_since g.D.Device.moment (g.B.Board.state c.read_journal.new.board).shape c.args.bytes.now c.closed-device.result.0 _ _ c.in-Ok-opened_as_asked.ensures.opened c.in-Ok-opened_as_asked.ensures.synced c.closed-device.ensures.leaves
    g.D.Device.seen g.D.Device.has_failed c.args.setup c.unattached.result.1 open_fault c.in-Err-attach.fault c.closed-device.result.1 c.in-Err-attach.ensures c.unattached.ensures.says c.unattached.ensures.time c.unattached.ensures.left)

was : (g : Over) (c : goal.In-Ok-attach g) → Chart
was g c =
    let k = c.in-Ok-opened_as_asked.kept in
    let D = g.D.Device in
    chart (disk_state D.seen D.moment D.hindered k.synced.value.log k.before.value.log (journal_state k.journal.dead (g.B.Board.state k.journal.board)))

pub returns-in-Ok-attach-clause-compacted : goal.returns-in-Ok-attach-clause-compacted
unfolding was
returns-in-Ok-attach-clause-compacted g c asked =
    let kept : Kept (was g c) c.in-Ok-attach.memory.chart = Attaches.kept c.in-Ok-attach.ensures in
    still-compact (was g c) c.in-Ok-attach.memory.chart kept.shape kept.counted.notes (c.in-Ok-opened_as_asked.ensures.compacted asked)

pub returns-in-Ok-attach-clause-same : goal.returns-in-Ok-attach-clause-same
unfolding was
returns-in-Ok-attach-clause-same g c not =
    let kept : Kept (was g c) c.in-Ok-attach.memory.chart = Attaches.kept c.in-Ok-attach.ensures in
    still-same c.args.bytes.now (was g c) c.in-Ok-attach.memory.chart kept.counted.notes (c.in-Ok-opened_as_asked.ensures.same not)
