use Rattle.std.proofs.Common.{◌≡◌, ℕ, ◌<◌, true, get_or}
use Rattle.envy_txn.specs.declared.entry.Entry.{Entry}
use Rattle.envy_txn.proofs.search.owner_among.Given as goal

abbrev pub invariant-loop-entry : goal.invariant-loop-entry
invariant-loop-entry l = (k : ℕ) (d : Entry) → k < l.entry-index → (get_or l.entries k d).live ≡ true → (get_or l.entries k d).pair.page ≡ l.page → ⊥
