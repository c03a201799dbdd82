use Rattle.std.proofs.Common.{◌≤◌, length, arith}
use Rattle.envy_io.proofs.Giving.{given-alone}
use Rattle.envy_io.proofs.buffered_source.BufferedSourceSource.fill_only.Goals as goal

pub returns-then-self-clause-fills : goal.returns-then-self-clause-fills
returns-then-self-clause-fills g c =
    let a = c.self.inside in
    let within : a.end ≤ length a.buffer.items = (let le = c.self.invariant.within in let long = a.buffer.ok.0 in omega arith) in
    given-alone (g.S.Source.feed a.source) a.buffer.items a.start a.end c.args.self.now c.give.new.self c.args.into.now c.give.new.into c.give.result c.self.view_is c.if-self.true within c.give.ensures c.requires
