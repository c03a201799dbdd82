use Rattle.std.specs.Prelude.{ℕ, ◌<◌}
use Rattle.envy_map.specs.Fields.{chart}
use Rattle.envy_soundness.specs.Sound.{IsSpare}
use Rattle.envy_audit.specs.Points.{CopiesOf}
use Rattle.envy_audit.proofs.jobs.spares_hold_copies.Given as goal

abbrev pub invariant-loop-spare : goal.invariant-loop-spare
invariant-loop-spare g l = let c = chart (g.B.Board.state l.board) in
    (e : ℕ) → e < l.spare → IsSpare c.shape c.fields.positions e → CopiesOf c l.segment e
