use Rattle.envy_run.specs.Hits.{MayTell}
use Rattle.envy_run.proofs.Obeying.{power-recovers}
use Rattle.envy_run.proofs.power_lines.obey_power.Goals as goal

pub returns : goal.returns
returns g c earlier m stood =
    power-recovers (MayTell c.args.memory.now.chart.shape.entries earlier) m c.args.memory.now c.cut_now.new.self c.recover.new.memory (g.K.Sink.drain c.args.sink.now) (g.K.Sink.drain c.recover.new.sink) c.recover.result stood c.cut_now.ensures.state (c.cut_now.ensures.step m stood) c.recover.ensures
