use Rattle.envy_array.specs.Step.{Look as DoLook, Range as IsRange, Word as IsWord}
use Rattle.envy_run.proofs.Replying.{says-steps}
use Rattle.envy_run.proofs.answers.look.Goals as goal

pub returns-in-Ok-clause-step : goal.returns-in-Ok-clause-step
returns-in-Ok-clause-step g c m stood =
    says-steps m (DoLook c.args.address) (IsWord c.in-Ok.word) c.args.memory.now.chart (c.in-Ok.ensures.step m stood)

pub returns-in-Err-Range-clause-step : goal.returns-in-Err-Range-clause-step
returns-in-Err-Range-clause-step g c m stood =
    let e = rw c.in-Err-Range.field-0-is at c.in-Err-Range.ensures in
    says-steps m (DoLook c.args.address) (IsRange) c.args.memory.now.chart (e.step m stood)
