use Rattle.std.proofs.Common.{◌≡◌, ℕ, subst, ◌<◌, ◌+◌, ◌*◌, arith, ap, refl, sym, ◌∙◌}
use Rattle.std.specs.Prelude.{◌^◌}
use Rattle.envy_array.specs.Array.{put_back}
use Rattle.envy_soundness.specs.Words.{durable}
use Rattle.envy_memory.specs.Calls.{fresh}
use Rattle.envy_tpca.specs.declared.transfer.Transfer.{Transfer}
use Rattle.envy_tpca.specs.Load.{Draws, next_transfer, after, first}
use Rattle.envy_tpca.specs.Running.{IsAt}
use Rattle.envy_tpca.specs.Tpc.{deltas}
use Rattle.envy_tpca.specs.Trial.{IsTried, writes}
use Rattle.envy_tpca.proofs.Chaining.{small-delta}
use Rattle.envy_tpca.proofs.Drawing.{after-none, after-more, first-none, length-first}
use Rattle.envy_tpca.proofs.Loading.{accessed-same}
use Rattle.envy_tpca.proofs.Uncut.{next-uncut}
use Rattle.envy_tpca.proofs.Since.{Since-refl}
use Rattle.envy_tpca.proofs.Stepping.{step-range, range-wide, step-tried, step-done, step-ended, at-first, rests-planned, all-fails, once-ok, once-err, load-small}
use Rattle.envy_tpca.proofs.Totals.{delta-step, small-deltas}
use Rattle.envy_tpca.proofs.driver.transfer_all.Given.{Over}
use Rattle.envy_tpca.proofs.driver.transfer_all.Goals.{After-next-t, After-spots}
use Rattle.envy_tpca.proofs.driver.transfer_all.Goals as goal

-- the transfer that was drawn
drawn : (g : Over) (c : After-next-t g) → c.next-t.result ≡ (next_transfer (after c.loop-i.i c.args.load.now)).0
drawn g c = ap (λ (d : Transfer × Draws). d.0) c.next-t.ensures ∙ ap (λ (d : Draws). (next_transfer d).0) c.loop-i.invariant.load

-- it may be tried on the words after those before it
tried : (g : Over) (c : After-spots g) → c.next-t.result ≡ (next_transfer (after c.loop-i.i c.args.load.now)).0
    → IsTried c.plan_cut.new.memory.chart.shape.shadows c.args.places (32 * c.args.memory.now.chart.shape.pages) (first c.loop-i.i c.args.load.now) (durable c.plan_cut.new.memory.chart) c.loop-i.i c.next-t.result c.spots.result
tried g c is =
    let room = c.requires.fits.room in
    let low = c.requires.low in
    let few : c.args.area.now.transfers < 2 ^ 32 = omega arith in
    step-tried c.args.area.now c.args.places c.args.load.now c.args.every c.loop-i.i c.args.memory.now c.loop-i.memory c.plan_cut.new.memory c.next-t.result c.spots.result c.requires c.loop-i.invariant.reached c.plan_cut.ensures.same c.plan_cut.ensures.since.keeps.shape c.loop-i-test.true few is c.spots.ensures

pub loop-i-init : goal.loop-i-init
loop-i-init g c = record {
  load = sym (after-none c.args.load.now);
  sum = sym (ap deltas (first-none c.args.load.now));
  rests = c.requires.rests;
  reached = at-first c.args.area.now c.args.places c.args.load.now c.args.every c.args.memory.now c.requires (Since-refl c.args.memory.now);
  uncut = λ low same. accessed-same c.args.memory.now.parts.cache c.args.memory.now.parts.cache refl;
}

pub spots-requires : goal.spots-requires
spots-requires g c =
    let room = c.requires.fits.room in
    let low = c.requires.low in
    let few : c.args.area.now.transfers < 2 ^ 32 = omega arith in
    range-wide c.args.places (32 * c.args.memory.now.chart.shape.pages) (2 ^ 29) c.loop-i.i c.next-t.result (omega arith) (step-range c.args.area.now c.args.places c.args.load.now c.args.memory.now c.loop-i.i c.next-t.result c.requires c.loop-i-test.true few (drawn g (goal.at.spots-requires g c).After-next-t))

pub transfer_once-requires-clause-trial : goal.transfer_once-requires-clause-trial
transfer_once-requires-clause-trial g c =
    let at = goal.at.transfer_once-requires-clause-trial g c in
    let mid = c.loop-i.memory in
    let p = c.plan_cut.new.memory in
    record {
      rests = rests-planned mid p c.loop-i.invariant.rests (c.plan_cut.ensures.stands (fresh mid.chart.shape.shadows (durable mid.chart)) c.loop-i.invariant.rests) c.plan_cut.ensures.since.keeps.shape c.plan_cut.ensures.same;
      places = c.args.places;
      size = 32 * c.args.memory.now.chart.shape.pages;
      done = first c.loop-i.i c.args.load.now;
      tried = tried g at.After-spots (drawn g at.After-next-t);
    }

pub returns-in_err-transfer_once-clause-after : goal.returns-in_err-transfer_once-clause-after
returns-in_err-transfer_once-clause-after g c =
    let old = c.args.memory.now in
    let load = c.args.load.now in
    let mid = c.loop-i.memory in
    let p = c.plan_cut.new.memory in
    let at = goal.at.returns-in_err-transfer_once-clause-after g c in
    let t = tried g at.After-spots (drawn g at.After-next-t) in
    let now = put_back (writes c.args.places (first c.loop-i.i load) c.next-t.result) (durable p.chart) in
    let a = once-err 0 p (durable p.chart) now c.transfer_once.result c.transfer_once.new.memory c.in_err-transfer_once.field-0.0 (c.transfer_once.ensures.after c.args.places (32 * old.chart.shape.pages) (first c.loop-i.i load) t) c.in_err-transfer_once.was in
    all-fails c.args.area.now load c.args.every old c.transfer_once.new.memory c.from_residual.result c.next-t.new.self c.in_err-transfer_once.field-0.0
    (step-ended c.args.area.now c.args.places load c.args.every c.loop-i.i old mid p c.transfer_once.new.memory c.next-t.result c.spots.result c.in_err-transfer_once.field-0.0 c.requires c.loop-i.invariant.reached c.plan_cut.ensures.since c.plan_cut.ensures.last c.plan_cut.ensures.same c.loop-i-test.true t (drawn g at.After-next-t) a)
    c.from_residual.ensures.0 c.from_residual.ensures.1

pub loop-i-preserved : goal.loop-i-preserved
loop-i-preserved g c =
    let old = c.args.memory.now in
    let load = c.args.load.now in
    let mid = c.loop-i.memory in
    let p = c.plan_cut.new.memory in
    let lt = c.loop-i-test.true in
    let room = c.requires.fits.room in
    let low = c.requires.low in
    let few : c.args.area.now.transfers < 2 ^ 32 = omega arith in
    let at = goal.at.loop-i-preserved g c in
    let is = drawn g at.After-next-t in
    let t = tried g at.After-spots is in
    let now = put_back (writes c.args.places (first c.loop-i.i load) c.next-t.result) (durable p.chart) in
    let a = once-ok 0 p (durable p.chart) now c.transfer_once.result c.transfer_once.new.memory _ (c.transfer_once.ensures.after c.args.places (32 * old.chart.shape.pages) (first c.loop-i.i load) t) c.in_ok-transfer_once.was in
    let d = step-done c.args.area.now c.args.places load c.args.every c.loop-i.i old mid p c.transfer_once.new.memory c.next-t.result c.spots.result _ c.requires c.loop-i.invariant.reached c.plan_cut.ensures.since c.plan_cut.ensures.last t is a in
    let long = length-first (c.loop-i.i + 1) load in
    record {
      load = ap (λ (d : Transfer × Draws). d.1) c.next-t.ensures ∙ ap (λ (d : Draws). (next_transfer d).1) c.loop-i.invariant.load ∙ sym (after-more c.loop-i.i load);
      sum = delta-step c.loop-i.deltas-bits c.loop-i.i load c.next-t.result.delta (omega arith) c.loop-i.invariant.sum (ap (λ (u : Transfer). u.delta) is) (small-delta c.next-t.result.delta t.range.delta)
          (small-deltas (first (c.loop-i.i + 1) load) (load-small c.args.area.now load old.chart.shape.pages (c.loop-i.i + 1) c.requires.fits c.requires.sizes) (omega arith));
      rests = d.1;
      reached = d.0;
      uncut = next-uncut _ _ c.loop-i.i old mid p c.transfer_once.new.memory c.loop-i.invariant.reached.since c.loop-i.invariant.uncut c.plan_cut.ensures.since c.plan_cut.ensures.parts a.1 c.in_ok-transfer_once.ensures.uncut;
    }

pub returns-clause-after : goal.returns-clause-after
returns-clause-after g c =
    let load = c.args.load.now in
    let past = c.loop-i-test.false in
    let end = c.loop-i.auto.i-end in
    let is : c.loop-i.i ≡ c.args.area.now.transfers = omega arith in
    let at = c.loop-i.invariant in (
      at.sum ∙ ap (λ (n : ℕ). deltas (first n load)) is,
      at.load ∙ ap (λ (n : ℕ). after n load) is,
      at.rests,
      subst (λ (n : ℕ). IsAt c.args.area.now load c.args.every n c.args.memory.now c.loop-i.memory) is at.reached,
    )
