use Rattle.std.proofs.Common.{◌≡◌, ◌-◌, ◌*◌, ◌≤◌}
use Rattle.std.specs.Prelude.{sum_by}
use Rattle.std.specs.List.{range_with_len}
use Rattle.envy_space.specs.Pool.{free_at}
use Rattle.envy_space.proofs.space.Space.free_in.Given as goal

abbrev pub invariant-loop-position : goal.invariant-loop-position
invariant-loop-position l =
    (l.free ≡ sum_by (free_at l.self) (range_with_len l.first (l.position - l.first)))
    × (l.free ≤ (l.position - l.first) * l.self.shape.rows)
