use Rattle.std.specs.Prelude.{◌≡◌, ◌⊎◌, ℕ, suc, ◌/◌, ◌<◌, Some, slice_index}
use Rattle.envy_base.specs.declared.fields.Job.TheVariants.{Switch}
use Rattle.envy_map.specs.Fields.{chart}
use Rattle.envy_soundness.specs.Sound.{IsSpare}
use Rattle.envy_audit.specs.Points.{Stands}
use Rattle.envy_audit.proofs.kept.kept_are_placed.Given as goal

abbrev pub invariant-loop-row : goal.invariant-loop-row
invariant-loop-row g l = let c = chart (g.B.Board.state l.board) in
    (q : ℕ) → q < l.row → (p : ℕ) → slice_index l.owners q ≡ suc p
    → Stands c.shape c.fields.positions (q / c.shape.rows)
    ⊎ ((v : ℕ) × (c.fields.job ≡ Some (Switch v)) × Stands c.shape c.fields.positions v × IsSpare c.shape c.fields.positions (q / c.shape.rows))
