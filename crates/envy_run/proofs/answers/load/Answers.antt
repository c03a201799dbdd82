use Rattle.envy_array.specs.Step.{Load as DoLoad, Range as IsRange, Word as IsWord}
use Rattle.envy_run.proofs.Replying.{says-steps}
use Rattle.envy_run.proofs.answers.load.Goals as goal

pub returns-in-Ok-clause-step : goal.returns-in-Ok-clause-step
returns-in-Ok-clause-step g c m stood =
    says-steps m (DoLoad c.args.address) (IsWord c.in-Ok.word) c.load.new.self.chart (c.in-Ok.ensures.step m stood)

pub returns-in-Err-Range-clause-step : goal.returns-in-Err-Range-clause-step
returns-in-Err-Range-clause-step g c m stood =
    let e = rw c.in-Err-Range.field-0-is at c.in-Err-Range.ensures in
    says-steps m (DoLoad c.args.address) (IsRange) c.load.new.self.chart (e.step m stood)

pub returns-in-Err-Range-clause-rules : goal.returns-in-Err-Range-clause-rules
returns-in-Err-Range-clause-rules g c =
    let e = rw c.in-Err-Range.field-0-is at c.in-Err-Range.ensures in
    e.below.visits
