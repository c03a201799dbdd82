use Rattle.std.proofs.Common.{refl}
use Rattle.envy_plain.specs.Refusals.{answer_of}
use Rattle.envy_serve.specs.Answering.{said}
use Rattle.envy_run.proofs.Calm.{replies-calmly, said-calm, told-calmly}
use Rattle.envy_run.proofs.plain_run.obey_plain.Goals as goal

pub returns-in-Err : goal.returns-in-Err
returns-in-Err g c =
    told-calmly c.args.plain.now c.args.line.now c.refused.result (said (answer_of c.in-Err.refusal)) c.answer.new.plain (g.K.Sink.drain c.args.sink.now) (g.K.Sink.drain c.write_reply-in-Err.new.sink) c.write_reply-in-Err.result c.refused.ensures (replies-calmly c.args.plain.now c.args.line.now c.args.line.now (said (answer_of c.in-Err.refusal)) c.answer.new.plain refl c.in-Err.ensures (said-calm (answer_of c.in-Err.refusal))) c.write_reply-in-Err.ensures
