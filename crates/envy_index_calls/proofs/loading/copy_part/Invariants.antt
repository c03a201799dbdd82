use Rattle.std.proofs.Common.{◌≡◌, length, take, drop}
use Rattle.envy_index_calls.specs.Scanned.{pairs_in}
use Rattle.envy_index_calls.proofs.loading.copy_part.Given as goal

abbrev pub invariant-loop-i : goal.invariant-loop-i
invariant-loop-i l = record {
  long : length l.part ≡ length l.initial.part;
  list : take l.i l.part ≡ take l.i (drop l.done (pairs_in l.pairs));
}
