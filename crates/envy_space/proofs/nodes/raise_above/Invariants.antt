use Rattle.std.proofs.Common.{◌≡◌, ◌≢◌, ℕ, ◌*◌, ◌/◌, ◌<◌, ◌≤◌}
use Rattle.envy_space.specs.Winners.{AreNodes, HasRisen, IsRight, scores_of}
use Rattle.envy_space.proofs.nodes.raise_above.Given as goal

abbrev pub invariant-loop-at : goal.invariant-loop-at
invariant-loop-at l =
    AreNodes l.places l.nodes × (scores_of l.places l.nodes ≡ scores_of l.places l.initial.nodes)
    × (1 ≤ l.at) × (l.at < 2 * l.places) × ((i : ℕ) → 1 ≤ i → i < l.places → i ≢ l.at / 2 → IsRight l.nodes i)
    × (2 ≤ l.at → HasRisen l.nodes l.at)

abbrev pub decreases-loop-at : goal.decreases-loop-at
decreases-loop-at l = l.at
