use Rattle.envy_policy.specs.Lifetime.{IsBestBelow}
use Rattle.envy_policy.proofs.lifetime.Lifetime.victim.Given as goal

abbrev pub invariant-loop-position : goal.invariant-loop-position
invariant-loop-position g l = IsBestBelow l.position l.self (g.R.Rows.counts l.rows) l.class l.best
