use Rattle.std.proofs.Common.{◌≡◌, ◌-◌, ◌≤◌, not}
use Rattle.std.specs.Prelude.{count_by}
use Rattle.std.specs.List.{range_with_len}
use Rattle.envy_base.specs.Shape.{positions_of}
use Rattle.envy_memory.specs.Reserves.{is_fresh}
use Rattle.envy_memory.proofs.reserves.retired_in_pool.Given as goal

abbrev pub invariant-loop-position : goal.invariant-loop-position
invariant-loop-position l =
    (l.count ≡ count_by (λ k. not (is_fresh l.space.fills l.space.positions k)) (range_with_len (positions_of l.shape) (l.position - positions_of l.shape)))
    × (l.count ≤ l.position - positions_of l.shape)
