use Rattle.std.proofs.Common.{sym, ◌∙◌}
use Rattle.envy_pair.proofs.Commanded.{fallen-dark}
use Rattle.envy_pair.proofs.Telling.{dark-of, power-done, power-failed, power-recovers}
use Rattle.envy_pair.proofs.power_line.obey_power.Goals as goal

pub recover-requires : goal.recover-requires
recover-requires g c = fallen-dark c.cut_now.new.self c.has_good.ensures.pair (dark-of c.cut_now.new.self (sym c.has_good.ensures.good ∙ c.if-not-has_good.true))

pub returns-then-not-has_good : goal.returns-then-not-has_good
returns-then-not-has_good g c k s =
    power-recovers k c.args.mirror.now c.cut_now.new.self c.recover.new.mirror c.args.side (g.K.Sink.drain c.args.sink.now) (g.K.Sink.drain c.recover.new.sink) c.recover.result c.requires c.has_good.ensures.pair (dark-of c.cut_now.new.self (sym c.has_good.ensures.good ∙ c.if-not-has_good.true)) s c.cut_now.ensures.cuts (c.cut_now.ensures.step k.array s.mirrors) c.recover.ensures

pub returns-in-Ok : goal.returns-in-Ok
returns-in-Ok g c k s =
    power-done k c.args.mirror.now c.cut_now.new.self c.args.side (g.K.Sink.drain c.args.sink.now) (g.K.Sink.drain c.write_mirror_reply.new.sink) c.requires (sym c.has_good.ensures.good ∙ c.if-not-has_good.false) s c.cut_now.ensures.cuts (c.cut_now.ensures.step k.array s.mirrors) c.in-Ok.ensures

pub returns-in-Err : goal.returns-in-Err
returns-in-Err g c k s =
    power-failed k c.args.mirror.now c.cut_now.new.self c.args.side (g.K.Sink.drain c.args.sink.now) (g.K.Sink.drain c.write_mirror_reply.new.sink) _ c.requires (sym c.has_good.ensures.good ∙ c.if-not-has_good.false) s c.cut_now.ensures.cuts (c.cut_now.ensures.step k.array s.mirrors) c.in-Err.ensures
