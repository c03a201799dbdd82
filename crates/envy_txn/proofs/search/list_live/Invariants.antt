use Rattle.std.proofs.Common.{◌≡◌, ◌≤◌, take, vec_capacity}
use Rattle.envy_txn.specs.Entries.{pairs_in}
use Rattle.envy_txn.proofs.search.list_live.Given as goal

abbrev pub invariant-loop-entry : goal.invariant-loop-entry
invariant-loop-entry l = record {
  listed : l.list.items ≡ pairs_in (take l.entry-index l.entries);
  capacity : vec_capacity l.fn.list ≤ vec_capacity l.list;
}
