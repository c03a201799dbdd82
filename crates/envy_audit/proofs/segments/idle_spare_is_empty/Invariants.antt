use Rattle.std.specs.Prelude.{◌≡◌, ℕ, ◌<◌, slice_index}
use Rattle.envy_map.specs.Fields.{chart}
use Rattle.envy_soundness.specs.Sound.{IsSpare}
use Rattle.envy_audit.proofs.segments.idle_spare_is_empty.Given as goal

abbrev pub invariant-loop-segment : goal.invariant-loop-segment
invariant-loop-segment g l = let c = chart (g.B.Board.state l.board) in
    (e : ℕ) → e < l.segment → IsSpare c.shape c.fields.positions e → slice_index c.fields.fills e ≡ 0
