use Rattle.std.proofs.Common.{◌-◌, ◌≤◌, ap, drop, length, take, arith}
use Rattle.envy_io.proofs.Giving.{gives_front}
use Rattle.envy_io.proofs.buffered_source.BufferedSource.give.Goals as goal

pub returns : goal.returns
returns g c =
    let a = c.self.inside in
    let within : a.end ≤ length a.buffer.items = (let le = c.self.invariant.within in let long = a.buffer.ok.0 in omega arith) in
    gives_front (g.S.Source.feed a.source) a.buffer.items _ a.start a.end _ c.args.into.now c.copy_from_slice.new.self c.min-count.result c.self.view_is
    (ap (λ bytes. take (a.end - a.start) (drop a.start bytes)) c.deref.ensures.value) c.min-count.ensures c.copy_from_slice.ensures.after c.self.invariant.order within
