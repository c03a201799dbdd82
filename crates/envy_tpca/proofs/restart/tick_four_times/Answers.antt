use Rattle.std.proofs.Common.{refl, ap}
use Rattle.envy_engine.specs.Counts.{Counting}
use Rattle.envy_engine.specs.Ticks.{CountsTick}
use Rattle.envy_soundness.specs.Words.{durable}
use Rattle.envy_memory.specs.Calls.{fresh}
use Rattle.envy_array.specs.declared.counts.Counts.{Counts}
use Rattle.envy_table.specs.Hits.{Rests as CacheRests}
use Rattle.envy_tpca.proofs.Loading.{accessed-more, accessed-none, accessed-same, done-always}
use Rattle.envy_tpca.proofs.Between.{tick-done, tick-bad, tick-off}
use Rattle.envy_tpca.proofs.Since.{Since-refl, since-ticks}
use Rattle.envy_tpca.proofs.restart.tick_four_times.Goals as goal

pub loop-tick-init : goal.loop-tick-init
loop-tick-init g c = record { rests = c.requires; since = Since-refl c.args.memory.now; accessed = accessed-same c.args.memory.now.parts.cache c.args.memory.now.parts.cache refl }

pub loop-tick-preserved : goal.loop-tick-preserved
loop-tick-preserved g c =
    let did = since-ticks c.loop-tick.memory c.tick.new.self c.tick.ensures.below.works (CountsTick.tallies c.in-Ok.ensures.below.counts) in
    let d = tick-done c.args.memory.now c.loop-tick.memory c.tick.new.self c.loop-tick.invariant.rests c.loop-tick.invariant.since did (c.in-Ok.ensures.step (fresh c.loop-tick.memory.chart.shape.shadows (durable c.args.memory.now.chart)) c.loop-tick.invariant.rests) in
    record { rests = d.0; since = d.1; accessed = accessed-more 0 0 c.args.memory.now.parts.cache c.loop-tick.memory.parts.cache c.tick.new.self.parts.cache c.loop-tick.invariant.accessed (accessed-none c.loop-tick.memory.parts.cache c.tick.new.self.parts.cache (CacheRests.hits c.tick.ensures.below.rests) (CacheRests.misses c.tick.ensures.below.rests)) }

pub returns-in-Err-Off-clause-after : goal.returns-in-Err-Off-clause-after
returns-in-Err-Off-clause-after g c =
    let e = rw c.in-Err-Off.field-0-is at c.in-Err-Off.ensures in
    let did = since-ticks c.loop-tick.memory c.tick.new.self c.tick.ensures.below.works (Counting.tallies e.below.counts) in
    tick-off c.args.memory.now c.loop-tick.memory c.tick.new.self c.restart.new.memory c.restart.result c.loop-tick.invariant.rests c.loop-tick.invariant.since did c.tick.ensures.cut (e.step (fresh c.loop-tick.memory.chart.shape.shadows (durable c.args.memory.now.chart)) c.loop-tick.invariant.rests) c.restart.ensures.after

pub returns-in-Err-Bad-clause-after : goal.returns-in-Err-Bad-clause-after
returns-in-Err-Bad-clause-after g c =
    let e = rw c.in-Err-Bad.field-0-is at c.in-Err-Bad.ensures in
    let did = since-ticks c.loop-tick.memory c.tick.new.self c.tick.ensures.below.works (Counting.tallies e.below.counts) in
    tick-bad c.args.memory.now c.loop-tick.memory c.tick.new.self c.loop-tick.invariant.rests c.loop-tick.invariant.since did (e.bad refl) (e.step (fresh c.loop-tick.memory.chart.shape.shadows (durable c.args.memory.now.chart)) c.loop-tick.invariant.rests)

pub returns-in-Err-Off-clause-accessed : goal.returns-in-Err-Off-clause-accessed
returns-in-Err-Off-clause-accessed g c =
    let start = c.args.memory.now.parts.cache in
    let mid = c.loop-tick.memory.parts.cache in
    let off = c.tick.new.self.parts.cache in
    let back = c.restart.new.memory.parts.cache in
    let ticked = accessed-more 0 0 start mid off c.loop-tick.invariant.accessed (accessed-none mid off (CacheRests.hits c.tick.ensures.below.rests) (CacheRests.misses c.tick.ensures.below.rests)) in
    let restarted = accessed-none off back (ap (λ (n : Counts). n.hits) c.restart.ensures.counts) (ap (λ (n : Counts). n.misses) c.restart.ensures.counts) in
    done-always c.restart.result (accessed-more 0 0 start off back ticked restarted)
