use Rattle.std.proofs.Common.{◌≡◌, ◌<◌, IsTrue}
use Rattle.envy_btree.specs.Looking.{Looks}
use Rattle.envy_tree_check.proofs.Descending.{Descends}
use Rattle.envy_tree_check.proofs.levels.levels_of.Given as goal

abbrev pub invariant-loop-level : goal.invariant-loop-level
invariant-loop-level g l = record {
  looks : Looks (g.W.Words.sheet l.fn.words) (g.W.Words.sheet l.words);
  on : IsTrue (g.W.Words.sheet l.words).on;
  same : (g.W.Words.sheet l.words).words ≡ (g.W.Words.sheet l.fn.words).words;
  below : l.piece < l.used;
  way : Descends (g.W.Words.sheet l.fn.words).words l.root l.piece l.level;
}
