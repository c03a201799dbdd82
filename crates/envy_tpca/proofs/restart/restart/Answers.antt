use Rattle.std.proofs.Common.{rules, arith, refl, ◌≡◌, ◌∙◌}
use Rattle.envy_tpca.proofs.Between.{waits-first, waits-more, dead-returns, back-returns}
use Rattle.envy_tpca.proofs.restart.restart.Goals as goal

pub returns-in-Ok-clause-after : goal.returns-in-Ok-clause-after
returns-in-Ok-clause-after g c =
    let ne : c.loop.memory.chart.lives ≡ 0 → ⊥ = λ e. let x = c.in-Ok.ensures.dead.1 e in cc in
    back-returns c.args.memory.now c.loop.memory c.revive.new.self c.loop.invariant.waits c.in-Ok.ensures.kept c.in-Ok.ensures.ok c.revive.ensures.counts (omega arith)

pub returns-in-Err-Dead-clause-after : goal.returns-in-Err-Dead-clause-after
returns-in-Err-Dead-clause-after g c = dead-returns c.args.memory.now c.loop.memory c.revive.new.self c.loop.invariant.waits c.in-Err-Dead.ensures.kept c.revive.ensures.counts (c.revive.ensures.dead.0 (search rules))

pub loop-init : goal.loop-init
loop-init g c = record { waits = waits-first c.args.memory.now c.requires; counts = refl }

pub loop-preserved : goal.loop-preserved
loop-preserved g c = record { waits = waits-more c.args.memory.now c.loop.memory c.revive.new.self c.loop.invariant.waits c.in-Err-Off.ensures.kept c.revive.ensures.counts; counts = c.revive.ensures.counts ∙ c.loop.invariant.counts }

pub returns-in-Ok-clause-counts : goal.returns-in-Ok-clause-counts
returns-in-Ok-clause-counts g c = c.revive.ensures.counts ∙ c.loop.invariant.counts

pub returns-in-Err-Dead-clause-counts : goal.returns-in-Err-Dead-clause-counts
returns-in-Err-Dead-clause-counts g c = c.revive.ensures.counts ∙ c.loop.invariant.counts
