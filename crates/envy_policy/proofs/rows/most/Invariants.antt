use Rattle.std.proofs.Common.{◌<◌, ◌≤◌, slice_index}
use Rattle.envy_policy.specs.Choice.{IsMost}
use Rattle.envy_policy.proofs.rows.most.Given as goal

abbrev pub invariant-loop-i : goal.invariant-loop-i
invariant-loop-i l = record { range : (l.first ≤ l.best) × (l.best < l.i); most : IsMost (λ k. (l.first ≤ k) × (k < l.i)) (slice_index l.rows) l.best }
