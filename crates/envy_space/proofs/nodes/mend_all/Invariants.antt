use Rattle.std.proofs.Common.{◌≡◌, ℕ, ◌<◌, ◌≤◌}
use Rattle.envy_space.specs.Winners.{AreNodes, IsRight, scores_of}
use Rattle.envy_space.proofs.nodes.mend_all.Given as goal

abbrev pub invariant-loop-i : goal.invariant-loop-i
invariant-loop-i l =
    AreNodes l.places l.nodes × (scores_of l.places l.nodes ≡ scores_of l.places l.initial.nodes)
    × (1 ≤ l.i) × (l.i ≤ l.places) × ((j : ℕ) → l.i ≤ j → j < l.places → IsRight l.nodes j)

abbrev pub decreases-loop-i : goal.decreases-loop-i
decreases-loop-i l = l.i
