use Rattle.std.proofs.Common.{◌≡◌, ◌++◌, ◌≤◌, reverse, take, vec_capacity}
use Rattle.envy_txn.specs.Entries.{own_of, pairs_in}
use Rattle.envy_txn.proofs.ChainLemmas.{Walks}
use Rattle.envy_txn.proofs.chain.list_chain.Given as goal

abbrev pub invariant-loop-at : goal.invariant-loop-at
invariant-loop-at l = record {
  walks : Walks l.t l.at l.entries;
  listed : own_of l.t (pairs_in (take l.at l.entries)) ++ reverse l.list.items ≡ own_of l.t (pairs_in l.entries);
  capacity : vec_capacity l.fn.list ≤ vec_capacity l.list;
}

abbrev pub decreases-loop-at : goal.decreases-loop-at
decreases-loop-at l = l.at
