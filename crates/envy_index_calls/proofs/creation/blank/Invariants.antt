use Rattle.std.proofs.Common.{◌≡◌, IsTrue}
use Rattle.envy_array.specs.Words.{OnPage, Spends}
use Rattle.envy_index_calls.specs.Indexed.{blanked_to}
use Rattle.envy_index_calls.proofs.creation.blank.Given as goal

abbrev pub invariant-loop-a : goal.invariant-loop-a
invariant-loop-a g l = record {
  words : (g.W.Words.sheet l.words).words ≡ blanked_to l.a (g.W.Words.sheet l.initial.words).words;
  page : OnPage 0 (g.W.Words.sheet l.initial.words) (g.W.Words.sheet l.words);
  spends : Spends l.a (g.W.Words.sheet l.initial.words) (g.W.Words.sheet l.words);
  begun : IsTrue (g.W.Words.sheet l.words).started;
}
