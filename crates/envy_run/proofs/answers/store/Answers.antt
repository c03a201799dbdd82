use Rattle.std.proofs.Common.{[], ◌∷◌, ◌/◌, refl}
use Rattle.envy_array.specs.Step.{Done as IsDone, Held as IsHeld, Range as IsRange, Store as DoStore}
use Rattle.envy_memory.specs.Below.{flush_erases, flush_programs}
use Rattle.envy_trace.specs.declared.line.Line.TheVariants.{Store}
use Rattle.envy_trace.specs.declared.reply.Reply.TheVariants.{Done, Fault, Held, Lost, Range}
use Rattle.envy_run.proofs.Noting.{notes-refused, notes-visit, visits-on}
use Rattle.envy_run.proofs.Replying.{Licence-calm, Licence-failed, Licence-lost, fails-or, says-or}
use Rattle.envy_run.proofs.answers.store.Goals as goal

pub returns-in-Ok-clause-step : goal.returns-in-Ok-clause-step
returns-in-Ok-clause-step g c m stood =
    says-or m (DoStore c.args.address c.args.word) (IsDone) c.store.new.self.chart (c.in-Ok.ensures.step m stood)

pub returns-in-Err-Range-clause-step : goal.returns-in-Err-Range-clause-step
returns-in-Err-Range-clause-step g c m stood =
    let e = rw c.in-Err-Range.field-0-is at c.in-Err-Range.ensures in
    says-or m (DoStore c.args.address c.args.word) (IsRange) c.store.new.self.chart (e.step m stood)

pub returns-in-Err-Held-clause-step : goal.returns-in-Err-Held-clause-step
returns-in-Err-Held-clause-step g c m stood =
    let e = rw c.in-Err-Held.field-0-is at c.in-Err-Held.ensures in
    says-or m (DoStore c.args.address c.args.word) (IsHeld c.in-Err-Held.slot) c.store.new.self.chart (e.step m stood)

pub returns-in-Err-Range-clause-rules : goal.returns-in-Err-Range-clause-rules
returns-in-Err-Range-clause-rules g c =
    let e = rw c.in-Err-Range.field-0-is at c.in-Err-Range.ensures in
    e.below.visits

pub returns-in-Err-Held-clause-rules : goal.returns-in-Err-Held-clause-rules
returns-in-Err-Held-clause-rules g c =
    let e = rw c.in-Err-Held.field-0-is at c.in-Err-Held.ensures in
    e.below.visits

pub returns-in-Ok-clause-licence : goal.returns-in-Ok-clause-licence
returns-in-Ok-clause-licence g c = Licence-calm (flush_programs c.args.memory.now.chart.shape.rows) flush_erases c.args.memory.now.chart c.store.new.self.chart c.store.ensures.below.works

pub returns-in-Ok-clause-notes : goal.returns-in-Ok-clause-notes
returns-in-Ok-clause-notes g c =
    notes-visit (Store c.args.address c.args.word) (Done ∷ []) (c.args.address / 32) c.args.memory.now c.store.new.self refl (refl, refl, refl) c.in-Ok.ensures.below.visits c.store.ensures.below.counts

pub returns-in-Ok-clause-works : goal.returns-in-Ok-clause-works
returns-in-Ok-clause-works g c = c.store.ensures.below.works

pub returns-in-Ok-clause-rules : goal.returns-in-Ok-clause-rules
returns-in-Ok-clause-rules g c = c.in-Ok.ensures.below

pub returns-in-Err-Range-clause-licence : goal.returns-in-Err-Range-clause-licence
returns-in-Err-Range-clause-licence g c = Licence-calm (flush_programs c.args.memory.now.chart.shape.rows) flush_erases c.args.memory.now.chart c.store.new.self.chart c.store.ensures.below.works

pub returns-in-Err-Range-clause-notes : goal.returns-in-Err-Range-clause-notes
returns-in-Err-Range-clause-notes g c =
    let e = rw c.in-Err-Range.field-0-is at c.in-Err-Range.ensures in
    notes-refused (Store c.args.address c.args.word) (Range ∷ []) c.args.memory.now c.store.new.self refl (refl, refl, refl) e.below.visits

pub returns-in-Err-Range-clause-works : goal.returns-in-Err-Range-clause-works
returns-in-Err-Range-clause-works g c = c.store.ensures.below.works

pub returns-in-Err-Held-clause-licence : goal.returns-in-Err-Held-clause-licence
returns-in-Err-Held-clause-licence g c = Licence-calm (flush_programs c.args.memory.now.chart.shape.rows) flush_erases c.args.memory.now.chart c.store.new.self.chart c.store.ensures.below.works

pub returns-in-Err-Held-clause-notes : goal.returns-in-Err-Held-clause-notes
returns-in-Err-Held-clause-notes g c =
    let e = rw c.in-Err-Held.field-0-is at c.in-Err-Held.ensures in
    notes-refused (Store c.args.address c.args.word) ((Held c.in-Err-Held.slot) ∷ []) c.args.memory.now c.store.new.self refl (refl, refl, refl) e.below.visits

pub returns-in-Err-Held-clause-works : goal.returns-in-Err-Held-clause-works
returns-in-Err-Held-clause-works g c = c.store.ensures.below.works

pub returns-in-Err-Bad-clause-step : goal.returns-in-Err-Bad-clause-step
returns-in-Err-Bad-clause-step g c m stood =
    let e = rw c.in-Err-Bad.field-0-is at c.in-Err-Bad.ensures in
    fails-or m (DoStore c.args.address c.args.word) c.store.new.self.chart (e.step m stood)

pub returns-in-Err-Bad-clause-licence : goal.returns-in-Err-Bad-clause-licence
returns-in-Err-Bad-clause-licence g c =
    let e = rw c.in-Err-Bad.field-0-is at c.in-Err-Bad.ensures in
    Licence-failed (flush_programs c.args.memory.now.chart.shape.rows) flush_erases c.args.memory.now.chart c.store.new.self.chart e.below.works (e.bad refl)

pub returns-in-Err-Bad-clause-notes : goal.returns-in-Err-Bad-clause-notes
returns-in-Err-Bad-clause-notes g c =
    let e = rw c.in-Err-Bad.field-0-is at c.in-Err-Bad.ensures in
    notes-visit (Store c.args.address c.args.word) (Fault ∷ []) (c.args.address / 32) c.args.memory.now c.store.new.self refl (refl, refl, refl) e.below.visits e.below.counts

pub returns-in-Err-Bad-clause-rules : goal.returns-in-Err-Bad-clause-rules
returns-in-Err-Bad-clause-rules g c =
    let e = rw c.in-Err-Bad.field-0-is at c.in-Err-Bad.ensures in
    e.below

pub returns-in-Err-Bad-clause-works : goal.returns-in-Err-Bad-clause-works
returns-in-Err-Bad-clause-works g c = c.store.ensures.below.works

pub returns-in-Err-Off-clause-step : goal.returns-in-Err-Off-clause-step
returns-in-Err-Off-clause-step g c m stood =
    let e = rw c.in-Err-Off.field-0-is at c.in-Err-Off.ensures in
    record { command = DoStore c.args.address c.args.word; is = refl; lost = e.step m stood }

pub returns-in-Err-Off-clause-lost : goal.returns-in-Err-Off-clause-lost
returns-in-Err-Off-clause-lost g c =
    let e = rw c.in-Err-Off.field-0-is at c.in-Err-Off.ensures in
    (λ is. e.off.0 refl, λ off. refl)

pub returns-in-Err-Off-clause-licence : goal.returns-in-Err-Off-clause-licence
returns-in-Err-Off-clause-licence g c =
    let e = rw c.in-Err-Off.field-0-is at c.in-Err-Off.ensures in
    Licence-lost (flush_programs c.args.memory.now.chart.shape.rows) flush_erases c.args.memory.now.chart c.store.new.self.chart e.below.works c.requires (e.off.0 refl) e.cut

pub returns-in-Err-Off-clause-notes : goal.returns-in-Err-Off-clause-notes
returns-in-Err-Off-clause-notes g c =
    let e = rw c.in-Err-Off.field-0-is at c.in-Err-Off.ensures in
    notes-visit (Store c.args.address c.args.word) (Lost ∷ []) (c.args.address / 32) c.args.memory.now c.store.new.self refl (refl, refl, refl) (visits-on (c.args.address / 32) c.args.memory.now c.store.new.self c.requires e.below.visits) e.below.counts

pub returns-in-Err-Off-clause-works : goal.returns-in-Err-Off-clause-works
returns-in-Err-Off-clause-works g c = c.store.ensures.below.works
