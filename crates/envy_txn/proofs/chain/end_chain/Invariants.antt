use Rattle.std.proofs.Common.{◌≡◌, ◌+◌, length, take}
use Rattle.envy_txn.specs.Entries.{own_of, pairs_in}
use Rattle.envy_txn.proofs.ChainLemmas.{Walks, EndedFrom}
use Rattle.envy_txn.proofs.chain.end_chain.Given as goal

abbrev pub invariant-loop-at : goal.invariant-loop-at
invariant-loop-at l = record {
  walks : Walks l.t l.at l.initial.entries;
  ended : EndedFrom l.t l.at l.initial.entries l.entries;
  count : length (own_of l.t (pairs_in (take l.at l.initial.entries))) + l.ended ≡ length (own_of l.t (pairs_in l.initial.entries));
}

abbrev pub decreases-loop-at : goal.decreases-loop-at
decreases-loop-at l = l.at
