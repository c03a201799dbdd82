use Rattle.std.proofs.Common.{◌≡◌}
use Rattle.test_choices.proofs.policies.after_flushes.Given as goal

abbrev pub invariant-loop-position : goal.invariant-loop-position
invariant-loop-position g l = l.chooser.positions ≡ 3

abbrev pub invariant-loop-flush : goal.invariant-loop-flush
invariant-loop-flush g l = l.chooser.positions ≡ 3
