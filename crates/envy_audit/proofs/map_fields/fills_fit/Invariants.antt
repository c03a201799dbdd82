use Rattle.std.specs.Prelude.{ℕ, ◌<◌, ◌≤◌, slice_index}
use Rattle.envy_map.specs.Fields.{chart}
use Rattle.envy_audit.proofs.map_fields.fills_fit.Given as goal

abbrev pub invariant-loop-segment : goal.invariant-loop-segment
invariant-loop-segment g l = let c = chart (g.B.Board.state l.board) in (s : ℕ) → s < l.segment → slice_index c.fields.fills s ≤ c.shape.rows
