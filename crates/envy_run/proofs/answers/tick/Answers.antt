use Rattle.std.proofs.Common.{[], ◌∷◌, refl}
use Rattle.envy_array.specs.Step.{Done as IsDone, Tick as DoTick}
use Rattle.envy_engine.specs.Ticks.{CountsTick}
use Rattle.envy_trace.specs.declared.line.Line.TheVariants.{Tick}
use Rattle.envy_trace.specs.declared.reply.Reply.TheVariants.{Done, Fault, Lost}
use Rattle.envy_run.proofs.Noting.{notes-counted, notes-rest, tick-swaps}
use Rattle.envy_run.proofs.Replying.{fails-or, says-or, tick-calm, tick-failed, tick-lost}
use Rattle.envy_run.proofs.answers.tick.Goals as goal

pub returns-in-Ok-clause-step : goal.returns-in-Ok-clause-step
returns-in-Ok-clause-step g c m stood =
    says-or m (DoTick) (IsDone) c.tick.new.self.chart (c.in-Ok.ensures.step m stood)

pub returns-in-Ok-clause-notes : goal.returns-in-Ok-clause-notes
returns-in-Ok-clause-notes g c =
    notes-rest Tick (Done ∷ []) c.args.memory.now c.tick.new.self refl (refl, refl, refl) c.tick.ensures.below.rests (CountsTick.tallies c.in-Ok.ensures.below.counts) (tick-swaps c.args.memory.now c.tick.new.self c.in-Ok.ensures.below.counts)

pub returns-in-Ok-clause-licence : goal.returns-in-Ok-clause-licence
returns-in-Ok-clause-licence g c = tick-calm c.args.memory.now.chart c.tick.new.self.chart c.tick.ensures.below.works

pub returns-in-Ok-clause-rules : goal.returns-in-Ok-clause-rules
returns-in-Ok-clause-rules g c = (c.in-Ok.field-0, c.in-Ok.ensures.below)

pub returns-in-Ok-clause-works : goal.returns-in-Ok-clause-works
returns-in-Ok-clause-works g c = c.tick.ensures.below.works

pub returns-in-Err-Bad-clause-step : goal.returns-in-Err-Bad-clause-step
returns-in-Err-Bad-clause-step g c m stood =
    let e = rw c.in-Err-Bad.field-0-is at c.in-Err-Bad.ensures in
    fails-or m DoTick c.tick.new.self.chart (e.step m stood)

pub returns-in-Err-Bad-clause-licence : goal.returns-in-Err-Bad-clause-licence
returns-in-Err-Bad-clause-licence g c =
    let e = rw c.in-Err-Bad.field-0-is at c.in-Err-Bad.ensures in
    tick-failed c.args.memory.now.chart c.tick.new.self.chart e.below.works (e.bad refl)

pub returns-in-Err-Bad-clause-rules : goal.returns-in-Err-Bad-clause-rules
returns-in-Err-Bad-clause-rules g c =
    let e = rw c.in-Err-Bad.field-0-is at c.in-Err-Bad.ensures in
    e.below

pub returns-in-Err-Bad-clause-notes : goal.returns-in-Err-Bad-clause-notes
returns-in-Err-Bad-clause-notes g c =
    let e = rw c.in-Err-Bad.field-0-is at c.in-Err-Bad.ensures in
    notes-counted Tick (Fault ∷ []) c.args.memory.now c.tick.new.self refl (refl, refl, refl) e.below.rests e.below.counts

pub returns-in-Err-Bad-clause-works : goal.returns-in-Err-Bad-clause-works
returns-in-Err-Bad-clause-works g c = c.tick.ensures.below.works

pub returns-in-Err-Off-clause-step : goal.returns-in-Err-Off-clause-step
returns-in-Err-Off-clause-step g c m stood =
    let e = rw c.in-Err-Off.field-0-is at c.in-Err-Off.ensures in
    record { command = DoTick; is = refl; lost = e.step m stood }

pub returns-in-Err-Off-clause-lost : goal.returns-in-Err-Off-clause-lost
returns-in-Err-Off-clause-lost g c =
    let e = rw c.in-Err-Off.field-0-is at c.in-Err-Off.ensures in
    (λ is. e.off.0 refl, λ off. refl)

pub returns-in-Err-Off-clause-licence : goal.returns-in-Err-Off-clause-licence
returns-in-Err-Off-clause-licence g c =
    let e = rw c.in-Err-Off.field-0-is at c.in-Err-Off.ensures in
    tick-lost c.args.memory.now.chart c.tick.new.self.chart e.below.works c.requires (e.off.0 refl) e.cut

pub returns-in-Err-Off-clause-notes : goal.returns-in-Err-Off-clause-notes
returns-in-Err-Off-clause-notes g c =
    let e = rw c.in-Err-Off.field-0-is at c.in-Err-Off.ensures in
    notes-counted Tick (Lost ∷ []) c.args.memory.now c.tick.new.self refl (refl, refl, refl) e.below.rests e.below.counts

pub returns-in-Err-Off-clause-works : goal.returns-in-Err-Off-clause-works
returns-in-Err-Off-clause-works g c = c.tick.ensures.below.works
