use Rattle.std.proofs.Common.{◌≡◌, ◌+◌, ◌++◌, drop, length, take}
use Rattle.envy_btree.specs.Looking.{first_of, pair_at, place_by}
use Rattle.envy_btree.proofs.turn.write_pairs.Given as goal

abbrev pub invariant-loop-j : goal.invariant-loop-j
invariant-loop-j g l = record {
  long : length l.out ≡ length l.initial.out;
  list : take (l.filled + l.j) l.out ≡ take l.filled l.initial.out ++ first_of (λ j. pair_at (g.W.Words.sheet l.fn.words).words l.piece (place_by l.way l.place j)) l.j;
  rest : drop (l.filled + l.j) l.out ≡ drop (l.filled + l.j) l.initial.out;
}
