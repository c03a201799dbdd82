use Rattle.std.proofs.Common.{◌≡◌, ℕ, ◌+◌, ◌-◌, ◌/◌, None, add-one, sym, subst, arith}
use Rattle.envy_memory.specs.StoreRuns.{StoresRun}
use Rattle.envy_memory.specs.Runs.{StandsFor}
use Rattle.envy_memory.proofs.memory.Memory.store_run.Goals as goal

pub loop-i-preserved : goal.loop-i-preserved
loop-i-preserved g c =
    let e = c.in_default.ensures in
    let next = e.next in
    let here : c.args.a + c.loop-i.i ≡ c.args.a + (c.loop-i.i + 1) - 1 = omega arith in
    record {
      stores = subst (λ (n : ℕ). StoresRun n c.args.words.now c.args.a c.args.self.now c.store_next.new.self) (sym (add-one c.loop-i.i)) (c.loop-i.self, c.loop-i.invariant.stores, e.stores);
      fits = omega (arith, next);
      stands = λ some. subst (λ (n : ℕ). StandsFor None (n / 32) c.store_next.new.frame c.store_next.new.self) here e.stands;
    }
