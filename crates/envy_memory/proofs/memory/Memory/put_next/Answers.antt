use Rattle.std.proofs.Common.{◌+◌, Ok}
use Rattle.std.proofs.lemmas.Result.{err_from_is_err_and}
use Rattle.envy_memory.specs.PutRuns.{PutsWord}
use Rattle.envy_memory.proofs.PutRuns.{first-by, stands-done}
use Rattle.envy_memory.proofs.memory.Memory.put_next.Goals as goal

pub returns-in_err-put-clause-puts : goal.returns-in_err-put-clause-puts
returns-in_err-put-clause-puts g c =
    let e = c.in_err-put.ensures in
    let p = err_from_is_err_and c.from_residual.result c.from_residual.ensures.1 in
    rw (p.1, p.2) (first-by _ c.args.t (c.args.a + c.args.i) c.args.value _ c.args.self.now c.put.new.self c.if-is_one_more.ensures
    (record { step = e.step; off = e.off; cut = e.cut; range = e.range; closed = e.closed; held = e.held; full = e.full; bad = e.bad; complete = e.complete; below = e.below }))

pub returns-clause-puts : goal.returns-clause-puts
returns-clause-puts g c =
    let e = c.in_ok-put.ensures in
    first-by _ c.args.t (c.args.a + c.args.i) c.args.value (Ok tt) c.args.self.now c.put.new.self c.if-is_one_more.ensures
    (record { step = e.step; off = e.off; cut = e.cut; range = e.range; closed = e.closed; held = e.held; full = e.full; bad = e.bad; complete = e.complete; below = e.below })

pub returns-clause-stands : goal.returns-clause-stands
returns-clause-stands g c =
    let e = c.in_ok-put.ensures in
    let puts : PutsWord c.args.t (c.args.a + c.args.i) c.args.value (Ok tt) c.args.self.now c.put.new.self = record { step = e.step; off = e.off; cut = e.cut; range = e.range; closed = e.closed; held = e.held; full = e.full; bad = e.bad; complete = e.complete; below = e.below } in
    stands-done c.args.t (c.args.a + c.args.i) c.args.value c.frame_of.result c.args.self.now c.put.new.self puts c.frame_of.ensures
