use Rattle.std.proofs.Common.{◌≡◌}
use Rattle.test_choices.proofs.pooled.change.Given as goal

abbrev pub invariant-loop-row : goal.invariant-loop-row
invariant-loop-row l = l.space.shape ≡ l.initial.space.shape
