use Rattle.std.proofs.Common.{◌≡◌, ◌≤◌, ◌-◌, ℕ, IsTrue, List, None, drop, length}
use Rattle.envy_btree.specs.Index.{IsIndex}
use Rattle.envy_btree.specs.Looking.{IsShown, Looks, pairs_by}
use Rattle.envy_index_calls.specs.Scanned.{left_to, pairs_in}
use Rattle.envy_index_calls.proofs.pair_buffer.fill.Given as goal

abbrev pub invariant-loop-now : goal.invariant-loop-now
invariant-loop-now g l = record {
  looks : Looks (g.W.Words.sheet l.initial.words) (g.W.Words.sheet l.words);
  on : l.now.next ≡ None → IsTrue (g.W.Words.sheet l.words).on;
  same : (g.W.Words.sheet l.words).words ≡ (g.W.Words.sheet l.initial.words).words;
  long : length l.out ≡ length l.initial.out;
  room : l.now.filled ≤ length l.out;
  rest : drop l.now.filled (pairs_in l.out) ≡ drop l.now.filled (pairs_in l.initial.out);
  shown : (es : List (ℕ × ℕ)) → IsIndex (g.W.Words.sheet l.initial.words).words es → IsShown l.way es (pairs_by l.way l.fn.key es) l.now.filled l.now.next (pairs_in l.out);
}

abbrev pub decreases-loop-now : goal.decreases-loop-now
decreases-loop-now g l = left_to l.now.next (length l.out - l.now.filled)
