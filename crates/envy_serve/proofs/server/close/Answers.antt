use Rattle.envy_serve.proofs.Advancing.{closes}
use Rattle.envy_serve.proofs.server.close.Goals as goal

pub returns : goal.returns
returns g c = closes (g.V.Service.tail c.args.service.now) (g.K.Sink.drain c.args.sink.now) (g.K.Sink.drain c.close.new.sink) (g.K.Sink.drain c.flush.new.self) c.flush.result c.in_ok-close.ensures c.flush.ensures
