use Rattle.std.proofs.Common.{◌≡◌, ℕ, ◌<◌, slice_index}
use Rattle.envy_policy.specs.History.{last_in}
use Rattle.envy_policy.proofs.chooser.start_turns.Given as goal

abbrev pub invariant-loop-g : goal.invariant-loop-g
invariant-loop-g l = (k : ℕ) → k < l.g → slice_index l.turns k ≡ last_in l.positions l.run k
