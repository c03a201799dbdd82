use Rattle.std.proofs.Common.{[], ◌∷◌, refl, ap}
use Rattle.envy_array.specs.Step.{Begin as DoBegin, Busy as IsBusy, Started as IsStarted}
use Rattle.envy_memory.specs.Picture.{Picture}
use Rattle.envy_trace.specs.declared.line.Line.TheVariants.{Begin}
use Rattle.envy_trace.specs.declared.reply.Reply.TheVariants.{Busy, Lost, Started}
use Rattle.envy_run.proofs.Noting.{notes-still}
use Rattle.envy_run.proofs.Replying.{Licence-calm, Licence-lost, says-steps}
use Rattle.envy_run.proofs.answers.begin.Goals as goal

pub returns-in-Ok-clause-step : goal.returns-in-Ok-clause-step
returns-in-Ok-clause-step g c m stood =
    says-steps m (DoBegin) (IsStarted c.in-Ok.slot) c.begin.new.self.chart (c.in-Ok.ensures.step m stood)

pub returns-in-Err-Busy-clause-step : goal.returns-in-Err-Busy-clause-step
returns-in-Err-Busy-clause-step g c m stood =
    let e = rw c.in-Err-Busy.field-0-is at c.in-Err-Busy.ensures in
    says-steps m (DoBegin) (IsBusy) c.begin.new.self.chart (e.step m stood)

pub returns-in-Err-Busy-clause-rules : goal.returns-in-Err-Busy-clause-rules
returns-in-Err-Busy-clause-rules g c =
    let e = rw c.in-Err-Busy.field-0-is at c.in-Err-Busy.ensures in
    e.below.refused refl

pub returns-in-Ok-clause-licence : goal.returns-in-Ok-clause-licence
returns-in-Ok-clause-licence g c = Licence-calm 0 0 c.args.memory.now.chart c.begin.new.self.chart c.begin.ensures.below.works

pub returns-in-Ok-clause-notes : goal.returns-in-Ok-clause-notes
returns-in-Ok-clause-notes g c =
    notes-still Begin (Started c.in-Ok.slot ∷ []) c.args.memory.now c.begin.new.self refl (refl, refl, refl) (ap (λ (p : Picture). p.parts) c.begin.ensures.below.kept) c.begin.ensures.below.works.counted

pub returns-in-Ok-clause-works : goal.returns-in-Ok-clause-works
returns-in-Ok-clause-works g c = c.begin.ensures.below.works

pub returns-in-Ok-clause-rules : goal.returns-in-Ok-clause-rules
returns-in-Ok-clause-rules g c = c.begin.ensures.below.kept

pub returns-in-Err-Busy-clause-licence : goal.returns-in-Err-Busy-clause-licence
returns-in-Err-Busy-clause-licence g c = Licence-calm 0 0 c.args.memory.now.chart c.begin.new.self.chart c.begin.ensures.below.works

pub returns-in-Err-Busy-clause-notes : goal.returns-in-Err-Busy-clause-notes
returns-in-Err-Busy-clause-notes g c =
    notes-still Begin (Busy ∷ []) c.args.memory.now c.begin.new.self refl (refl, refl, refl) (ap (λ (p : Picture). p.parts) c.begin.ensures.below.kept) c.begin.ensures.below.works.counted

pub returns-in-Err-Busy-clause-works : goal.returns-in-Err-Busy-clause-works
returns-in-Err-Busy-clause-works g c = c.begin.ensures.below.works

pub returns-in-Err-Off-clause-step : goal.returns-in-Err-Off-clause-step
returns-in-Err-Off-clause-step g c m stood =
    let e = rw c.in-Err-Off.field-0-is at c.in-Err-Off.ensures in
    record { command = DoBegin; is = refl; lost = e.step m stood }

pub returns-in-Err-Off-clause-licence : goal.returns-in-Err-Off-clause-licence
returns-in-Err-Off-clause-licence g c =
    let e = rw c.in-Err-Off.field-0-is at c.in-Err-Off.ensures in
    Licence-lost 0 0 c.args.memory.now.chart c.begin.new.self.chart e.below.works c.requires (e.off.0 refl) e.cut

pub returns-in-Err-Off-clause-lost : goal.returns-in-Err-Off-clause-lost
returns-in-Err-Off-clause-lost g c =
    let e = rw c.in-Err-Off.field-0-is at c.in-Err-Off.ensures in
    (λ is. e.off.0 refl, λ off. refl)

pub returns-in-Err-Off-clause-notes : goal.returns-in-Err-Off-clause-notes
returns-in-Err-Off-clause-notes g c =
    notes-still Begin (Lost ∷ []) c.args.memory.now c.begin.new.self refl (refl, refl, refl) (ap (λ (p : Picture). p.parts) c.begin.ensures.below.kept) c.begin.ensures.below.works.counted

pub returns-in-Err-Off-clause-works : goal.returns-in-Err-Off-clause-works
returns-in-Err-Off-clause-works g c = c.begin.ensures.below.works

pub returns-in-Err-Off-clause-rules : goal.returns-in-Err-Off-clause-rules
returns-in-Err-Off-clause-rules g c = c.begin.ensures.below.kept
