use Rattle.std.specs.Prelude.{ℕ, ◌<◌, slice_index}
use Rattle.envy_map.specs.Fields.{chart}
use Rattle.envy_audit.proofs.map_fields.backs_fit.Given as goal

abbrev pub invariant-loop-row : goal.invariant-loop-row
invariant-loop-row g l = let c = chart (g.B.Board.state l.board) in (q : ℕ) → q < l.row → slice_index c.fields.backs q < c.shape.pages
