use Rattle.std.proofs.Common.{rules}
use Rattle.envy_run.specs.Hits.{MayTell}
use Rattle.envy_run.specs.Licence.{Licence}
use Rattle.envy_run.proofs.Obeying.{call-done, call-failed, call-recovers}
use Rattle.envy_run.proofs.power_lines.tell.Goals as goal

pub returns-then-not-powered : goal.returns-then-not-powered
returns-then-not-powered g c line earlier m before stood a =
    call-recovers (MayTell before.chart.shape.entries earlier) m line c.args.reply.now before c.args.memory.now c.recover.new.memory (g.K.Sink.drain c.args.sink.now) (g.K.Sink.drain c.write_reply-wrote.new.sink) (g.K.Sink.drain c.recover.new.sink) c.write_reply-wrote.result c.recover.result stood (Licence.shape a.licence) (a.lost.1 (search rules)) a.step a.licence a.works a.notes c.write_reply-wrote.ensures c.recover.ensures

pub returns-in-Ok : goal.returns-in-Ok
returns-in-Ok g c line earlier m before stood a =
    call-done (MayTell before.chart.shape.entries earlier) m line c.args.reply.now before c.args.memory.now (g.K.Sink.drain c.args.sink.now) (g.K.Sink.drain c.write_reply-wrote.new.sink) (search rules) a.step a.licence a.works a.notes c.in-Ok.ensures

pub returns-in-Err : goal.returns-in-Err
returns-in-Err g c line earlier m before stood a =
    call-failed (MayTell before.chart.shape.entries earlier) m line c.args.reply.now before c.args.memory.now (g.K.Sink.drain c.args.sink.now) (g.K.Sink.drain c.write_reply-wrote.new.sink) _ (search rules) a.step a.licence a.works a.notes c.in-Err.ensures
