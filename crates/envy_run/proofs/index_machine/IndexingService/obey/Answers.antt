use Rattle.envy_run.specs.IndexServing.{IndexedSince}
use Rattle.envy_run.proofs.IndexTold.{said-ranges, index-obeys}
use Rattle.envy_run.proofs.index_machine.IndexingService.obey.Goals as goal

pub obey_index-requires-clause-ranges : goal.obey_index-requires-clause-ranges
obey_index-requires-clause-ranges g c = said-ranges c.requires.said.bytes c.args.line.now c.requires.said.says (c.index_grammar_holds_both_ways.ensures.spelled c.requires.said.bytes c.args.line.now)

pub returns : goal.returns
returns g c start turns t =
    let w = c.args.self.now.words in
    let v = c.obey_index.new.words in
    index-obeys start w.memory v.memory w.begun v.begun turns c.args.line.now c.obey_index.result (g.K.Sink.drain c.args.sink.now) (g.K.Sink.drain c.obey_index.new.sink) t (c.obey_index.ensures (IndexedSince.pairs t) (IndexedSince.serving t))
