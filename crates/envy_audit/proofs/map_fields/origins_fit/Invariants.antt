use Rattle.std.specs.Prelude.{ℕ, ◌<◌, slice_index}
use Rattle.envy_map.specs.Fields.{chart}
use Rattle.envy_audit.specs.Points.{rows_of}
use Rattle.envy_audit.proofs.map_fields.origins_fit.Given as goal

abbrev pub invariant-loop-i : goal.invariant-loop-i
invariant-loop-i g l = let c = chart (g.B.Board.state l.board) in (i : ℕ) → i < l.i → slice_index c.fields.origins i < rows_of c.shape
