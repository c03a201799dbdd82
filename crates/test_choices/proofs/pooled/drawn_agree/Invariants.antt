use Rattle.std.proofs.Common.{◌≡◌}
use Rattle.test_choices.proofs.pooled.drawn_agree.Given as goal

abbrev pub invariant-loop-segment : goal.invariant-loop-segment
invariant-loop-segment g l = l.space.shape ≡ l.shape
