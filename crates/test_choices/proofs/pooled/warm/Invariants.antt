use Rattle.std.proofs.Common.{◌≡◌}
use Rattle.test_choices.proofs.pooled.warm.Given as goal

abbrev pub invariant-loop-flush : goal.invariant-loop-flush
invariant-loop-flush l = (l.chooser.positions ≡ l.initial.chooser.positions) × (l.chooser.pages ≡ l.initial.chooser.pages)

abbrev pub invariant-loop-clean : goal.invariant-loop-clean
invariant-loop-clean l = (l.chooser.positions ≡ l.initial.chooser.positions) × (l.chooser.pages ≡ l.initial.chooser.pages)
