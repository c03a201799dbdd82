use Rattle.std.proofs.Common.{◌≡◌, ℕ, ◌+◌, ◌-◌, ◌/◌, Some, add-one, sym, subst, arith}
use Rattle.envy_memory.specs.PutRuns.{PutsRun}
use Rattle.envy_memory.specs.Runs.{StandsFor}
use Rattle.envy_memory.proofs.memory.Memory.put_words.Goals as goal

pub loop-i-preserved : goal.loop-i-preserved
loop-i-preserved g c =
    let e = c.in_default.ensures in
    let next = e.next in
    let here : c.args.a + c.loop-i.i ≡ c.args.a + (c.loop-i.i + 1) - 1 = omega arith in
    record {
      puts = subst (λ (n : ℕ). PutsRun n c.args.words.now c.args.t c.args.a c.args.self.now c.put_next.new.self) (sym (add-one c.loop-i.i)) (c.loop-i.self, c.loop-i.invariant.puts, e.puts);
      fits = omega (arith, next);
      stands = λ some. subst (λ (n : ℕ). StandsFor (Some c.args.t) (n / 32) c.put_next.new.frame c.put_next.new.self) here e.stands;
    }
