use Rattle.std.proofs.Common.{◌≡◌, ◌+◌, ◌<◌, ◌≤◌, ℕ, IsTrue}
use Rattle.envy_heap.specs.Pieces.{one}
use Rattle.envy_btree.specs.Looking.{Looks}
use Rattle.envy_btree.specs.Rules.{key_at}
use Rattle.envy_tree_check.specs.Bounds.{floor_at}
use Rattle.envy_tree_check.proofs.keys.check_keys.Given as goal

abbrev pub invariant-loop-i : goal.invariant-loop-i
invariant-loop-i g l = record {
  looks : Looks (g.W.Words.sheet l.fn.words) (g.W.Words.sheet l.words);
  on : IsTrue (g.W.Words.sheet l.words).on;
  same : (g.W.Words.sheet l.words).words ≡ (g.W.Words.sheet l.fn.words).words;
  floor : l.before + one l.strict ≡ floor_at (g.W.Words.sheet l.fn.words).words l.spot.low l.spot.piece l.i;
  order : (k : ℕ) → k < l.i → (floor_at (g.W.Words.sheet l.fn.words).words l.spot.low l.spot.piece k ≤ key_at (g.W.Words.sheet l.fn.words).words l.spot.piece k) × (key_at (g.W.Words.sheet l.fn.words).words l.spot.piece k < l.spot.top + 1);
}
