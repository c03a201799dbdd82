use Rattle.std.proofs.Common.{◌≡◌, ℕ, ◌<◌, length, slice_index}
use Rattle.envy_space.specs.Pool.{free_at, dead_at}
use Rattle.test_choices.proofs.pooled.choose_by_lists.Given as goal

abbrev pub invariant-loop-position : goal.invariant-loop-position
invariant-loop-position l = record {
  frees_long : length l.free.items ≡ l.position;
  deads_long : length l.dead.items ≡ l.position;
  frees : (k : ℕ) → k < l.position → slice_index l.free.items k ≡ free_at l.space k;
  deads : (k : ℕ) → k < l.position → slice_index l.dead.items k ≡ dead_at l.space k;
}
