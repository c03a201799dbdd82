use Rattle.std.proofs.Common.{◌≡◌, length}
use Rattle.test_choices.proofs.lifetimes.flush_others.Given as goal

abbrev pub invariant-loop-flush : goal.invariant-loop-flush
invariant-loop-flush l = (length l.lifetime.cleaned ≡ 3) × (length l.lifetime.born ≡ 16)
