use Rattle.std.specs.Prelude.{ℕ, ◌<◌, ◌≢◌, None}
use Rattle.envy_map.specs.Fields.{chart, slot}
use Rattle.envy_audit.proofs.map_fields.slots_decode.Given as goal

abbrev pub invariant-loop-t : goal.invariant-loop-t
invariant-loop-t g l = let c = chart (g.B.Board.state l.board) in (t : ℕ) → t < l.t → slot c.fields t ≢ None
