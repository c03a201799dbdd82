use Rattle.std.proofs.Common.{ℕ, ◌<◌}
use Rattle.envy_policy.specs.Lifetime.{IsFresh}
use Rattle.envy_policy.proofs.Asking.{taken_from}
use Rattle.envy_policy.proofs.lifetime.Lifetime.first_fresh.Given as goal

abbrev pub invariant-loop-position : goal.invariant-loop-position
invariant-loop-position g l = (k : ℕ) → k < l.start → IsFresh l.self (g.R.Rows.counts l.rows) l.emptied k → ⊥

abbrev pub decreases-loop-position : goal.decreases-loop-position
decreases-loop-position g l = taken_from l.self l.emptied l.start
