use Rattle.std.proofs.Common.{◌≡◌, IsTrue}
use Rattle.envy_btree.specs.Looking.{Looks}
use Rattle.envy_tree_check.proofs.Freeing.{Walked}
use Rattle.envy_tree_check.proofs.free.free_of.Given as goal

abbrev pub invariant-loop-free : goal.invariant-loop-free
invariant-loop-free g l = record {
  looks : Looks (g.W.Words.sheet l.fn.words) (g.W.Words.sheet l.words);
  on : IsTrue (g.W.Words.sheet l.words).on;
  same : (g.W.Words.sheet l.words).words ≡ (g.W.Words.sheet l.fn.words).words;
  walked : Walked (g.W.Words.sheet l.fn.words).words l.used l.fn.marks l.marks l.link l.free;
}
