use Rattle.std.specs.Prelude.{ℕ, ◌<◌}
use Rattle.envy_map.specs.Fields.{chart, undo}
use Rattle.envy_audit.specs.Points.{IsUndoOf}
use Rattle.envy_audit.proofs.map_fields.undos_decode.Given as goal

abbrev pub invariant-loop-page : goal.invariant-loop-page
invariant-loop-page g l = let c = chart (g.B.Board.state l.board) in (p : ℕ) → p < l.page → IsUndoOf c.shape l.slots (undo c.fields p)
