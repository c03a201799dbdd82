use Rattle.std.proofs.Common.{ℕ, ◌≤◌}
use Rattle.envy_space.specs.Retiring.{IsFresh}
use Rattle.envy_space.proofs.space.Space.fresh_reserve.Given as goal

abbrev pub invariant-loop-position : goal.invariant-loop-position
invariant-loop-position l = (j : ℕ) → IsFresh l.self.shape l.self.fills l.self.positions j → l.position ≤ j
