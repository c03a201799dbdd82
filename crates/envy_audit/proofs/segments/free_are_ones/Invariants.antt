use Rattle.std.specs.Prelude.{◌≡◌, ◌⊎◌, ℕ, ◌%◌, ◌/◌, ◌<◌, ◌≤◌, [], Some, slice_index, slice_index_or}
use Rattle.envy_base.specs.declared.fields.Job.TheVariants.{Erase}
use Rattle.envy_base.specs.State.{ones}
use Rattle.envy_map.specs.Fields.{chart}
use Rattle.envy_soundness.specs.Sound.{IsSpare}
use Rattle.envy_audit.proofs.segments.free_are_ones.Given as goal

abbrev pub invariant-loop-row : goal.invariant-loop-row
invariant-loop-row g l = let c = chart (g.B.Board.state l.board) in
    (q : ℕ) → q < l.row → slice_index c.fields.fills (q / c.shape.rows) ≤ q % c.shape.rows → (slice_index_or c.flash q [] ≡ ones) ⊎ ((c.fields.job ≡ Some Erase) × IsSpare c.shape c.fields.positions (q / c.shape.rows))
