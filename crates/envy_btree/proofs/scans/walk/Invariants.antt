use Rattle.std.proofs.Common.{◌≡◌, ◌≤◌, ℕ, IsTrue, List, None, drop, length}
use Rattle.envy_btree.specs.Index.{IsIndex}
use Rattle.envy_btree.specs.Looking.{IsShown, Looks, left_after, pairs_by}
use Rattle.envy_btree.proofs.scans.walk.Given as goal

abbrev pub invariant-loop-now : goal.invariant-loop-now
invariant-loop-now g l = record {
  looks : Looks (g.W.Words.sheet l.initial.words) (g.W.Words.sheet l.words);
  on : l.now.next ≡ None → IsTrue (g.W.Words.sheet l.words).on;
  same : (g.W.Words.sheet l.words).words ≡ (g.W.Words.sheet l.initial.words).words;
  long : length l.out ≡ length l.initial.out;
  room : l.now.filled ≤ length l.out;
  rest : drop l.now.filled l.out ≡ drop l.now.filled l.initial.out;
  shown : (es : List (ℕ × ℕ)) → IsIndex (g.W.Words.sheet l.initial.words).words es → IsShown l.way es (pairs_by l.way l.fn.key es) l.now.filled l.now.next l.out;
}

abbrev pub decreases-loop-now : goal.decreases-loop-now
decreases-loop-now g l = left_after l.way l.now.next
