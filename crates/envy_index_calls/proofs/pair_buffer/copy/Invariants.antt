use Rattle.std.proofs.Common.{◌≡◌, ◌+◌, ◌++◌, length, take, drop}
use Rattle.envy_index_calls.specs.Scanned.{pairs_in}
use Rattle.envy_index_calls.proofs.pair_buffer.copy.Given as goal

abbrev pub invariant-loop-i : goal.invariant-loop-i
invariant-loop-i l = record {
  long : length l.out ≡ length l.initial.out;
  list : take (l.filled + l.i) (pairs_in l.out) ≡ take l.filled (pairs_in l.initial.out) ++ take l.i l.pairs;
  rest : drop (l.filled + l.i) (pairs_in l.out) ≡ drop (l.filled + l.i) (pairs_in l.initial.out);
}
