use Rattle.std.specs.Prelude.{ℕ, ◌<◌, slice_index}
use Rattle.envy_map.specs.Fields.{chart}
use Rattle.envy_audit.proofs.map_fields.positions_fit.Given as goal

abbrev pub invariant-loop-position : goal.invariant-loop-position
invariant-loop-position g l = let c = chart (g.B.Board.state l.board) in (k : ℕ) → k < l.position → slice_index c.fields.positions k < c.shape.segments
