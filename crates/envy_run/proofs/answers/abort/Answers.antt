use Rattle.std.proofs.Common.{refl}
use Rattle.envy_array.specs.Step.{Abort as DoAbort, Closed as IsClosed, Done as IsDone}
use Rattle.envy_run.proofs.Replying.{says-steps}
use Rattle.envy_run.proofs.answers.abort.Goals as goal

pub returns-in-Ok-clause-step : goal.returns-in-Ok-clause-step
returns-in-Ok-clause-step g c m stood =
    says-steps m (DoAbort c.args.slot) (IsDone) c.abort.new.self.chart (c.in-Ok.ensures.step m stood)

pub returns-in-Err-Closed-clause-step : goal.returns-in-Err-Closed-clause-step
returns-in-Err-Closed-clause-step g c m stood =
    let e = rw c.in-Err-Closed.field-0-is at c.in-Err-Closed.ensures in
    says-steps m (DoAbort c.args.slot) (IsClosed) c.abort.new.self.chart (e.step m stood)

pub returns-in-Err-Closed-clause-rules : goal.returns-in-Err-Closed-clause-rules
returns-in-Err-Closed-clause-rules g c =
    let e = rw c.in-Err-Closed.field-0-is at c.in-Err-Closed.ensures in
    e.below.refused refl
