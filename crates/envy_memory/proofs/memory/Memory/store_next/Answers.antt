use Rattle.std.proofs.Common.{◌+◌, Ok}
use Rattle.std.proofs.lemmas.Result.{err_from_is_err_and}
use Rattle.envy_memory.specs.StoreRuns.{StoresWord}
use Rattle.envy_memory.proofs.StoreRunLemmas.{first-stored, stands-stored}
use Rattle.envy_memory.proofs.memory.Memory.store_next.Goals as goal

pub returns-in_err-store-clause-stores : goal.returns-in_err-store-clause-stores
returns-in_err-store-clause-stores g c =
    let e = c.in_err-store.ensures in
    let p = err_from_is_err_and c.from_residual.result c.from_residual.ensures.1 in
    rw (p.1, p.2) (first-stored _ (c.args.a + c.args.i) c.args.value _ c.args.self.now c.store.new.self c.if-is_one_more.ensures
    (record { step = e.step; off = e.off; cut = e.cut; range = e.range; held = e.held; bad = e.bad; complete = e.complete; below = e.below }))

pub returns-clause-stores : goal.returns-clause-stores
returns-clause-stores g c =
    let e = c.in_ok-store.ensures in
    first-stored _ (c.args.a + c.args.i) c.args.value (Ok tt) c.args.self.now c.store.new.self c.if-is_one_more.ensures
    (record { step = e.step; off = e.off; cut = e.cut; range = e.range; held = e.held; bad = e.bad; complete = e.complete; below = e.below })

pub returns-clause-stands : goal.returns-clause-stands
returns-clause-stands g c =
    let e = c.in_ok-store.ensures in
    let stores : StoresWord (c.args.a + c.args.i) c.args.value (Ok tt) c.args.self.now c.store.new.self = record { step = e.step; off = e.off; cut = e.cut; range = e.range; held = e.held; bad = e.bad; complete = e.complete; below = e.below } in
    stands-stored (c.args.a + c.args.i) c.args.value c.frame_of.result c.args.self.now c.store.new.self stores c.frame_of.ensures
