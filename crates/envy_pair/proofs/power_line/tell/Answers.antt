use Rattle.std.proofs.Common.{sym, ◌∙◌}
use Rattle.envy_pair.proofs.Commanded.{fallen-dark}
use Rattle.envy_pair.proofs.Telling.{dark-of, call-done, call-failed, call-recovers}
use Rattle.envy_pair.proofs.power_line.tell.Goals as goal

pub recover-requires : goal.recover-requires
recover-requires g c = fallen-dark c.args.mirror.now c.has_good.ensures.pair (dark-of c.args.mirror.now (sym c.has_good.ensures.good ∙ c.if-not-has_good.true))

pub returns-then-not-has_good : goal.returns-then-not-has_good
returns-then-not-has_good g c k line before side chosen within ranges s heard =
    call-recovers k line c.args.reply.now before c.args.mirror.now c.recover.new.mirror side chosen (g.K.Sink.drain c.args.sink.now) (g.K.Sink.drain c.write_mirror_reply-wrote.new.sink) (g.K.Sink.drain c.recover.new.sink) c.write_mirror_reply-wrote.result c.recover.result ranges within c.has_good.ensures.pair (dark-of c.args.mirror.now (sym c.has_good.ensures.good ∙ c.if-not-has_good.true)) s heard c.write_mirror_reply-wrote.ensures c.recover.ensures

pub returns-in-Ok : goal.returns-in-Ok
returns-in-Ok g c k line before side chosen within ranges s heard =
    call-done k line c.args.reply.now before c.args.mirror.now side chosen (g.K.Sink.drain c.args.sink.now) (g.K.Sink.drain c.write_mirror_reply-wrote.new.sink) ranges within c.has_good.ensures.pair (sym c.has_good.ensures.good ∙ c.if-not-has_good.false) s heard c.in-Ok.ensures

pub returns-in-Err : goal.returns-in-Err
returns-in-Err g c k line before side chosen within ranges s heard =
    call-failed k line c.args.reply.now before c.args.mirror.now side chosen (g.K.Sink.drain c.args.sink.now) (g.K.Sink.drain c.write_mirror_reply-wrote.new.sink) _ ranges within c.has_good.ensures.pair (sym c.has_good.ensures.good ∙ c.if-not-has_good.false) s heard c.in-Err.ensures
