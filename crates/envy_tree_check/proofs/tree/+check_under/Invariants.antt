use Rattle.std.proofs.Common.{◌≡◌, ◌+◌, ◌-◌, ◌<◌, ℕ, List, false, IsTrue}
use Rattle.std.specs.List.{sum_by}
use Rattle.envy_heap.specs.Pieces.{IsHeap, at}
use Rattle.envy_btree.specs.Looking.{Looks}
use Rattle.envy_btree.specs.Rules.{pairs_under, slot_at}
use Rattle.envy_btree.specs.Tree.{window}
use Rattle.envy_tree_check.specs.Bounds.{high_at, low_at}
use Rattle.envy_tree_check.specs.Grown.{AreMarked, Grows, capped, nodes_under}
use Rattle.envy_tree_check.proofs.tree.+check_under.Given as goal

abbrev pub invariant-loop-j : goal.invariant-loop-j
invariant-loop-j g l = record {
  looks : Looks (g.W.Words.sheet l.fn.words) (g.W.Words.sheet l.words);
  on : IsTrue (g.W.Words.sheet l.words).on;
  same : (g.W.Words.sheet l.words).words ≡ (g.W.Words.sheet l.fn.words).words;
  grown : (free : List ℕ) → IsHeap (g.W.Words.sheet l.fn.words).words free → AreMarked (g.W.Words.sheet l.fn.words).words free l.marks → (i : ℕ) → i < l.j → Grows (g.W.Words.sheet l.fn.words).words free false (low_at (g.W.Words.sheet l.fn.words).words l.spot.low l.spot.piece i) (high_at (g.W.Words.sheet l.fn.words).words (l.spot.top + 1) l.spot.piece i) (l.spot.levels - 1) (slot_at (g.W.Words.sheet l.fn.words).words l.spot.piece i);
  nodes : l.total.nodes ≡ capped (l.initial.total.nodes + sum_by (nodes_under (l.spot.levels - 1) (g.W.Words.sheet l.fn.words).words) (window (g.W.Words.sheet l.fn.words).words (at l.spot.piece 32) l.j));
  pairs : l.total.pairs ≡ capped (l.initial.total.pairs + sum_by (pairs_under (l.spot.levels - 1) (g.W.Words.sheet l.fn.words).words) (window (g.W.Words.sheet l.fn.words).words (at l.spot.piece 32) l.j));
}

abbrev pub decreases-check_under : goal.decreases-check_under
decreases-check_under g l = l.spot.levels
