use Rattle.std.proofs.Common.{◌≡◌, ℕ, ◌<◌, IsTrue, List, length, slice_index, take, drop, ◌++◌}
use Rattle.envy_array.specs.Words.{Spends, Works, run_at}
use Rattle.envy_array.proofs.words.Words.load_run.Given as goal

abbrev pub invariant-loop-i : goal.invariant-loop-i
invariant-loop-i g l = record {
  run : take l.i l.into ≡ run_at (g.Self.Words.sheet l.initial.self).words l.a l.i;
  long : length l.into ≡ length l.initial.into;
  same : (g.Self.Words.sheet l.self).words ≡ (g.Self.Words.sheet l.initial.self).words;
  pages : (g.Self.Words.sheet l.self).pages ≡ (g.Self.Words.sheet l.initial.self).pages;
  power : IsTrue (g.Self.Words.sheet l.initial.self).on → IsTrue (g.Self.Words.sheet l.self).on;
  works : Works 0 (g.Self.Words.sheet l.initial.self) (g.Self.Words.sheet l.self);
  spends : Spends 0 (g.Self.Words.sheet l.initial.self) (g.Self.Words.sheet l.self);
}
