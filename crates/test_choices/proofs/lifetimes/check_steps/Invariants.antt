use Rattle.std.proofs.Common.{◌≡◌, length}
use Rattle.test_choices.proofs.lifetimes.check_steps.Given as goal

abbrev pub invariant-loop-i : goal.invariant-loop-i
invariant-loop-i g l = (length l.lifetime.cleaned ≡ 3) × (length l.lifetime.born ≡ 16)
