use Rattle.std.specs.Prelude.{ℕ, ◌<◌}
use Rattle.envy_map.specs.Fields.{chart, place}
use Rattle.envy_audit.specs.Points.{IsPlaceOf}
use Rattle.envy_audit.proofs.map_fields.places_decode.Given as goal

abbrev pub invariant-loop-page : goal.invariant-loop-page
invariant-loop-page g l = let c = chart (g.B.Board.state l.board) in (p : ℕ) → p < l.page → IsPlaceOf c.shape (place c.fields p)
