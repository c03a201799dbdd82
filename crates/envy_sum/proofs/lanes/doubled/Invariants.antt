use Rattle.std.proofs.Common.{◌≡◌, ◌++◌, take, length, map, bit_xor}
use Rattle.envy_sum.proofs.lanes.doubled.Given as goal

abbrev pub invariant-loop-i : goal.invariant-loop-i
invariant-loop-i l = record {
  long : l.i-end ≡ length l.fn.entries.items;
  grown : l.entries.items ≡ l.fn.entries.items ++ map (λ entry. bit_xor entry l.turned) (take l.i l.fn.entries.items);
}
