use Rattle.std.proofs.Common.{◌≡◌, ℕ, ◌+◌, ◌<◌}
use Rattle.envy_space.specs.Winners.{node}
use Rattle.envy_space.proofs.nodes.lay_places.Given as goal

abbrev pub invariant-loop-place : goal.invariant-loop-place
invariant-loop-place l = (k : ℕ) → k < l.place → node l.nodes (l.places + k) ≡ record { place = k; score = l.score }
