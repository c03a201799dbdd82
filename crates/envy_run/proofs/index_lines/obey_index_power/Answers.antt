use Rattle.envy_run.specs.IndexTurns.{most_of}
use Rattle.envy_run.proofs.IndexTold.{index-power}
use Rattle.envy_run.proofs.index_lines.obey_index_power.Goals as goal

pub returns : goal.returns
returns g c es s =
    index-power (most_of c.args.words.now.memory.chart.shape.pages) es c.args.words.now.memory c.cut_now.new.self.memory c.recover_words.new.words.memory c.args.words.now.begun c.recover_words.new.words.begun (g.K.Sink.drain c.args.sink.now) (g.K.Sink.drain c.recover_words.new.sink) c.recover_words.result s c.cut_now.ensures.memory c.recover_words.ensures
