use Rattle.envy_run.specs.IndexTurns.{most_of}
use Rattle.envy_run.proofs.IndexTold.{index-empty}
use Rattle.envy_run.proofs.index_lines.obey_index.Goals as goal

pub returns-in-Empty : goal.returns-in-Empty
returns-in-Empty g c es s = index-empty (most_of c.args.words.now.memory.chart.shape.pages) es c.args.line.now c.args.words.now.memory c.args.words.now.begun (g.K.Sink.drain c.args.sink.now) c.in-Empty.is s
