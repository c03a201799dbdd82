use Rattle.std.proofs.Common.{◌≡◌, ◌+◌, ◌-◌, IsTrue, slice_index}
use Rattle.envy_array.specs.Words.{Spends, Works}
use Rattle.envy_array.proofs.Halving.{Narrow}
use Rattle.envy_array.proofs.words.Words.search.Given as goal

abbrev pub invariant-loop-place : goal.invariant-loop-place
invariant-loop-place g l = record {
  narrow : Narrow (λ i. slice_index (g.Self.Words.sheet l.initial.self).words (l.a + i)) l.n l.key l.low l.top l.place.index l.place.low l.place.top l.end;
  same : (g.Self.Words.sheet l.self).words ≡ (g.Self.Words.sheet l.initial.self).words;
  pages : (g.Self.Words.sheet l.self).pages ≡ (g.Self.Words.sheet l.initial.self).pages;
  power : IsTrue (g.Self.Words.sheet l.initial.self).on → IsTrue (g.Self.Words.sheet l.self).on;
  works : Works 0 (g.Self.Words.sheet l.initial.self) (g.Self.Words.sheet l.self);
  spends : Spends 0 (g.Self.Words.sheet l.initial.self) (g.Self.Words.sheet l.self);
}

abbrev pub decreases-loop-place : goal.decreases-loop-place
decreases-loop-place g l = l.end - l.place.index
