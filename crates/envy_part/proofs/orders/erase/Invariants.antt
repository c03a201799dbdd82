use Rattle.std.proofs.Common.{◌≡◌, ◌≢◌, ◌<◌, ℕ, IsTrue, IsFalse, [], slice_index_or}
use Rattle.envy_base.specs.State.{IsPage, ones}
use Rattle.envy_bank.specs.Lanes.{row_from}
use Rattle.envy_part.proofs.orders.erase.Given as goal

abbrev pub invariant-loop-q : goal.invariant-loop-q
invariant-loop-q g l = record {
  pages : (k : ℕ) → k < l.q → IsPage (row_from (slice_index_or l.rows k []));
  held : IsTrue l.held → (k : ℕ) → k < l.q → row_from (slice_index_or l.rows k []) ≡ ones;
  bad : IsFalse l.held → (k : ℕ) × (k < l.q) × (row_from (slice_index_or l.rows k []) ≢ ones);
}
