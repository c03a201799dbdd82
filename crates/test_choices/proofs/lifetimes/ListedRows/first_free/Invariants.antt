use Rattle.std.proofs.Common.{◌≡◌, ◌<◌, ◌≤◌, ℕ, slice_index}
use Rattle.test_choices.proofs.lifetimes.ListedRows.first_free.Given as goal

abbrev pub invariant-loop-position : goal.invariant-loop-position
invariant-loop-position l = (k : ℕ) → l.start ≤ k → k < l.position → slice_index l.self.free k ≡ 0
