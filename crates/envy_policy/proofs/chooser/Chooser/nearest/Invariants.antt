use Rattle.std.proofs.Common.{ℕ, ◌≤◌}
use Rattle.envy_policy.specs.Choice.{IsUsable, distance}
use Rattle.envy_policy.proofs.chooser.Chooser.nearest.Given as goal

abbrev pub invariant-loop-away : goal.invariant-loop-away
invariant-loop-away l = (y : ℕ) → IsUsable l.self l.free l.dead y → l.away ≤ distance l.own y
