use Rattle.envy_run.proofs.Generating.{flushed-out}
use Rattle.envy_run.proofs.map_run.write_sound.Goals as goal

pub returns : goal.returns
returns g c =
    let (text, tells, writes) = c.in_ok-write_segments.ensures in (
      text,
      tells,
      flushed-out text (g.K.Sink.drain c.args.sink.now) (g.K.Sink.drain c.write_segments.new.sink) (g.K.Sink.drain c.flush.new.self) c.flush.result writes c.flush.ensures,
    )
