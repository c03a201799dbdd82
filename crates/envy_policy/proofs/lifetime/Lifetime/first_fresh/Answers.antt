use Rattle.std.proofs.Common.{arith, refl}
use Rattle.envy_policy.specs.Lifetime.{IsFresh}
use Rattle.envy_policy.proofs.Asking.{fresh-passed, none-before, none-fresh, taken-passed}
use Rattle.envy_policy.proofs.lifetime.Lifetime.first_fresh.Goals as goal

pub loop-position-preserved : goal.loop-position-preserved
loop-position-preserved g c = fresh-passed c.args.self.now (g.R.Rows.counts c.args.rows.now) c.args.emptied c.loop-position.start c.in-Some.position c.loop-position.invariant c.in-Some.ensures (c.if-not-is_taken.ensures.taken refl)

pub loop-position-smaller : goal.loop-position-smaller
loop-position-smaller g c = taken-passed c.args.self.now c.args.emptied c.loop-position.start c.in-Some.position (omega (arith, c.in-Some.ensures.holds.0)) (c.if-not-is_taken.ensures.taken refl)

pub loop-position-init : goal.loop-position-init
loop-position-init g c = none-before (IsFresh c.args.self.now (g.R.Rows.counts c.args.rows.now) c.args.emptied)

pub returns-clause-position : goal.returns-clause-position
returns-clause-position g c = none-fresh c.args.self.now (g.R.Rows.counts c.args.rows.now) c.args.emptied c.loop-position.start c.loop-position.invariant c.in_default.ensures

pub returns-clause-below : goal.returns-clause-below
returns-clause-below g c = tt
