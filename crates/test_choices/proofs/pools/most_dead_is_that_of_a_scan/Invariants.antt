use Rattle.std.proofs.Common.{◌≡◌}
use Rattle.test_choices.proofs.pools.most_dead_is_that_of_a_scan.Given as goal

abbrev pub invariant-loop-turn : goal.invariant-loop-turn
invariant-loop-turn g l = l.space.shape ≡ l.initial.space.shape
