use Rattle.std.specs.Prelude.{◌≡◌, ℕ, suc, ◌/◌, ◌<◌, slice_index}
use Rattle.envy_map.specs.Fields.{chart}
use Rattle.envy_soundness.specs.Sound.{IsReserved}
use Rattle.envy_audit.proofs.kept.reserves_are_unkept.Given as goal

abbrev pub invariant-loop-row : goal.invariant-loop-row
invariant-loop-row g l = let c = chart (g.B.Board.state l.board) in
    (q : ℕ) → q < l.row → (p : ℕ) → slice_index l.owners q ≡ suc p → IsReserved c.shape c.fields.positions (q / c.shape.rows) → ⊥
