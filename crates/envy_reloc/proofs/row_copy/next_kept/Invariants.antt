use Rattle.std.proofs.Common.{◌≡◌, ℕ, ◌*◌, ◌/◌, ◌<◌, ◌≤◌}
use Rattle.envy_map.specs.Fields.{chart}
use Rattle.envy_soundness.specs.Sound.{Names}
use Rattle.envy_reloc.proofs.row_copy.next_kept.Given as goal

-- no row of the segment that was looked at is kept
abbrev pub invariant-loop-row : goal.invariant-loop-row
invariant-loop-row g l = record {
  above : l.segment * (g.B.Board.state l.board).shape.rows ≤ l.row;
  marked : l.mark ≤ l.row;
  none : (p q : ℕ) → Names (chart (g.B.Board.state l.board)).fields p q → q / (g.B.Board.state l.board).shape.rows ≡ l.segment → l.mark ≤ q → q < l.row → ⊥;
}
