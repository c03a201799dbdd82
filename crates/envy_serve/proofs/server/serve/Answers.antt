use Rattle.std.proofs.Common.{◌+◌, ◌≤◌, ap, arith}
use Rattle.envy_serve.specs.Ends.{Progress, most_bytes}
use Rattle.envy_serve.specs.Turns.{lines_done}
use Rattle.envy_serve.specs.declared.server.End.TheVariants.{WriteFault, Dead}
use Rattle.envy_serve.specs.declared.server.Served.{Served}
use Rattle.envy_serve.proofs.Advancing.{advance-cut, advance-dead, advance-done, stops}
use Rattle.envy_serve.proofs.Looping.{IsServing, serves-few, serving-none, serving-more, serving-ends, serving-few}
use Rattle.envy_serve.proofs.server.serve.Goals as goal

pub loop-told-init : goal.loop-told-init
loop-told-init g c start did = serving-none g.V.Service.grammar (g.V.Service.Did start c.args.service.now) (g.S.Source.feed c.args.source.now) (g.K.Sink.drain c.args.sink.now) c.args.reader did c.requires.reader

pub obey-requires-clause-ready : goal.obey-requires-clause-ready
obey-requires-clause-ready g c =
    let (start, did) = c.requires.begun in
    let p = IsServing.progress (c.loop-told.invariant start did) in
    g.met.V.Service.stays_ready start c.loop-told.service (Progress.turns p) (Progress.done p)

pub loop-told-preserved : goal.loop-told-preserved
loop-told-preserved g c start did =
    let s = c.loop-told.invariant start did in
    let p = IsServing.progress s in
    serving-more g.V.Service.grammar c.args.reader.taken (g.V.Service.Did start c.obey.new.self) c.loop-told.told (g.S.Source.feed c.args.source.now) (g.K.Sink.drain c.args.sink.now) (g.S.Source.feed c.fetch.new.source) (g.K.Sink.drain c.obey.new.sink) c.loop-told.reader c.fetch.new.reader (IsServing.cap s)
    (advance-done g.V.Service.grammar c.args.reader.taken (g.V.Service.Did start c.loop-told.service) (g.V.Service.Did start c.obey.new.self) (g.V.Service.Died start c.obey.new.self) (g.S.Source.feed c.args.source.now) (g.S.Source.feed c.loop-told.source) (g.S.Source.feed c.fetch.new.source) (g.K.Sink.drain c.args.sink.now) (g.K.Sink.drain c.loop-told.sink) (g.K.Sink.drain c.obey.new.sink) c.loop-told.told c.loop-told.reader c.fetch.new.reader c.in-Ok.line p (c.in-Ok.ensures.reads c.args.reader.taken (g.S.Source.feed c.args.source.now) (lines_done (Progress.turns p)) (Progress.read p)) (c.in-Done.ensures start (Progress.turns p) (Progress.done p)))
    c.fetch.ensures.cap c.fetch.ensures.within

pub returns-in-Err-clause-serves : goal.returns-in-Err-clause-serves
returns-in-Err-clause-serves g c start did =
    let s = c.loop-told.invariant start did in
    let p = IsServing.progress s in
    let service = c.loop-told.service in (
      Progress.turns p,
      serving-ends g.V.Service.grammar c.args.reader.taken (g.V.Service.Did start service) (g.V.Service.Died start service) (g.V.Service.tail service) c.loop-told.told (g.S.Source.feed c.args.source.now) (g.K.Sink.drain c.args.sink.now) (g.S.Source.feed c.fetch.new.source) (g.K.Sink.drain c.conclude.new.sink) c.loop-told.reader c.fetch.new.reader c.conclude.result (Progress.turns p) c.stopped.result c.stopped.ensures (IsServing.cap s) c.fetch.ensures.cap (Progress.count p)
          (stops g.V.Service.grammar c.args.reader.taken (g.V.Service.Did start service) (g.V.Service.Died start service) (g.V.Service.tail service) (g.S.Source.feed c.args.source.now) (g.S.Source.feed c.fetch.new.source) (g.K.Sink.drain c.args.sink.now) (g.K.Sink.drain c.loop-told.sink) (g.K.Sink.drain c.conclude.new.sink) c.fetch.new.reader c.in-Err.stop c.conclude.result (Progress.turns p) (Progress.done p) (Progress.told p) (c.in-Err.ensures.reads c.args.reader.taken (g.S.Source.feed c.args.source.now) (lines_done (Progress.turns p)) (Progress.read p)) c.conclude.ensures),
    )

pub returns-in-WriteFault-clause-serves : goal.returns-in-WriteFault-clause-serves
returns-in-WriteFault-clause-serves g c start did =
    let s = c.loop-told.invariant start did in
    let p = IsServing.progress s in
    let service = c.obey.new.self in
    let (turns, count, ends) = advance-cut g.V.Service.grammar c.args.reader.taken (g.V.Service.Did start c.loop-told.service) (g.V.Service.Did start service) (g.V.Service.Died start service) (g.V.Service.tail service) (g.S.Source.feed c.args.source.now) (g.S.Source.feed c.loop-told.source) (g.S.Source.feed c.fetch.new.source) (g.K.Sink.drain c.args.sink.now) (g.K.Sink.drain c.loop-told.sink) (g.K.Sink.drain c.obey.new.sink) c.loop-told.told c.loop-told.reader c.fetch.new.reader c.in-Ok.line p (c.in-Ok.ensures.reads c.args.reader.taken (g.S.Source.feed c.args.source.now) (lines_done (Progress.turns p)) (Progress.read p)) (c.in-WriteFault.ensures start (Progress.turns p) (Progress.done p)) in
    (turns, serving-ends g.V.Service.grammar c.args.reader.taken (g.V.Service.Did start service) (g.V.Service.Died start service) (g.V.Service.tail service) (c.loop-told.told + 1) (g.S.Source.feed c.args.source.now) (g.K.Sink.drain c.args.sink.now) (g.S.Source.feed c.fetch.new.source) (g.K.Sink.drain c.obey.new.sink) c.loop-told.reader c.fetch.new.reader WriteFault turns c.stopped-in-WriteFault.result c.stopped-in-WriteFault.ensures (IsServing.cap s) c.fetch.ensures.cap count ends)

pub returns-in-Dead-clause-serves : goal.returns-in-Dead-clause-serves
returns-in-Dead-clause-serves g c start did =
    let s = c.loop-told.invariant start did in
    let p = IsServing.progress s in
    let service = c.obey.new.self in
    let (turns, count, ends) = advance-dead g.V.Service.grammar c.args.reader.taken (g.V.Service.Did start c.loop-told.service) (g.V.Service.Did start service) (g.V.Service.Died start service) (g.V.Service.tail service) (g.S.Source.feed c.args.source.now) (g.S.Source.feed c.loop-told.source) (g.S.Source.feed c.fetch.new.source) (g.K.Sink.drain c.args.sink.now) (g.K.Sink.drain c.loop-told.sink) (g.K.Sink.drain c.obey.new.sink) c.loop-told.told c.loop-told.reader c.fetch.new.reader c.in-Ok.line p (c.in-Ok.ensures.reads c.args.reader.taken (g.S.Source.feed c.args.source.now) (lines_done (Progress.turns p)) (Progress.read p)) (c.in-Dead.ensures start (Progress.turns p) (Progress.done p)) in
    (turns, serving-ends g.V.Service.grammar c.args.reader.taken (g.V.Service.Did start service) (g.V.Service.Died start service) (g.V.Service.tail service) (c.loop-told.told + 1) (g.S.Source.feed c.args.source.now) (g.K.Sink.drain c.args.sink.now) (g.S.Source.feed c.fetch.new.source) (g.K.Sink.drain c.obey.new.sink) c.loop-told.reader c.fetch.new.reader Dead turns c.stopped-in-Dead.result c.stopped-in-Dead.ensures (IsServing.cap s) c.fetch.ensures.cap count ends)

pub returns-in-Err-clause-few : goal.returns-in-Err-clause-few
returns-in-Err-clause-few g c =
    let (start, did) = c.requires.begun in
    let (turns, served) = returns-in-Err-clause-serves g c start did in
    serves-few _ _ _ _ _ _ _ _ _ _ served

pub returns-in-Err-clause-read : goal.returns-in-Err-clause-read
returns-in-Err-clause-read g c =
    let (start, did) = c.requires.begun in
    let cap = IsServing.cap (c.loop-told.invariant start did) in
    let same = c.fetch.ensures.cap in
    let within = c.fetch.ensures.within in
    let taken = ap (λ (x : Served). x.taken) c.stopped.ensures in
    omega arith

pub returns-in-WriteFault-clause-few : goal.returns-in-WriteFault-clause-few
returns-in-WriteFault-clause-few g c =
    let (start, did) = c.requires.begun in
    let (turns, served) = returns-in-WriteFault-clause-serves g c start did in
    serves-few _ _ _ _ _ _ _ _ _ _ served

pub returns-in-WriteFault-clause-read : goal.returns-in-WriteFault-clause-read
returns-in-WriteFault-clause-read g c =
    let (start, did) = c.requires.begun in
    let cap = IsServing.cap (c.loop-told.invariant start did) in
    let same = c.fetch.ensures.cap in
    let within = c.fetch.ensures.within in
    let taken = ap (λ (x : Served). x.taken) c.stopped-in-WriteFault.ensures in
    omega arith

pub returns-in-Dead-clause-few : goal.returns-in-Dead-clause-few
returns-in-Dead-clause-few g c =
    let (start, did) = c.requires.begun in
    let (turns, served) = returns-in-Dead-clause-serves g c start did in
    serves-few _ _ _ _ _ _ _ _ _ _ served

pub returns-in-Dead-clause-read : goal.returns-in-Dead-clause-read
returns-in-Dead-clause-read g c =
    let (start, did) = c.requires.begun in
    let cap = IsServing.cap (c.loop-told.invariant start did) in
    let same = c.fetch.ensures.cap in
    let within = c.fetch.ensures.within in
    let taken = ap (λ (x : Served). x.taken) c.stopped-in-Dead.ensures in
    omega arith

pub unreachable-requires : goal.unreachable-requires
unreachable-requires g c =
    let (start, did) = c.requires.begun in
    let few : c.loop-told.told ≤ most_bytes = serving-few g.V.Service.grammar c.args.reader.taken (g.V.Service.Did start c.loop-told.service) c.loop-told.told (g.S.Source.feed c.args.source.now) (g.K.Sink.drain c.args.sink.now) (g.S.Source.feed c.loop-told.source) (g.K.Sink.drain c.loop-told.sink) c.loop-told.reader (c.loop-told.invariant start did) in
    omega (arith, c.loop-told-test.false)
