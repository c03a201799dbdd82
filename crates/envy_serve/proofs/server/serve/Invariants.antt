use Rattle.std.specs.Prelude.{[]}
use Rattle.envy_serve.proofs.Looping.{IsServing}
use Rattle.envy_serve.proofs.server.serve.Given as goal

abbrev pub invariant-loop-told : goal.invariant-loop-told
invariant-loop-told g l = (start : g.V.Service.Start) → g.V.Service.Did start l.initial.service [] → IsServing g.V.Service.grammar l.initial.reader.taken (g.V.Service.Did start l.service) l.told (g.S.Source.feed l.initial.source) (g.K.Sink.drain l.initial.sink) (g.S.Source.feed l.source) (g.K.Sink.drain l.sink) l.reader
