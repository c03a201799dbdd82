use Rattle.std.proofs.Common.{◌≡◌, ◌-◌, ◌^◌, ◌<◌, ◌≤◌, ℕ, IsTrue, List, length}
use Rattle.envy_heap.specs.Pieces.{at}
use Rattle.envy_btree.specs.Looking.{IsUnder, Looks}
use Rattle.envy_btree.proofs.leaf.leaf_under.Given as goal

abbrev pub invariant-loop-level : goal.invariant-loop-level
invariant-loop-level g l = record {
  looks : Looks (g.W.Words.sheet l.initial.words) (g.W.Words.sheet l.words);
  on : IsTrue (g.W.Words.sheet l.words).on;
  same : (g.W.Words.sheet l.words).words ≡ (g.W.Words.sheet l.initial.words).words;
  within : at l.spot.piece 63 < length (g.W.Words.sheet l.initial.words).words;
  above : l.spot.low ≤ l.key;
  below : l.key ≤ l.spot.top;
  under : (es : List (ℕ × ℕ)) → IsUnder (g.W.Words.sheet l.initial.words).words es l.root 0 (2 ^ 64 - 1) 0 → IsUnder (g.W.Words.sheet l.initial.words).words es l.spot.piece l.spot.low l.spot.top l._level;
}
