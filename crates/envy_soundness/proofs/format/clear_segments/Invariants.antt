use Rattle.std.proofs.Common.{◌≡◌, length}
use Rattle.envy_map.specs.Fields.{chart}
use Rattle.envy_soundness.specs.Formatting.{Cleared, aside_of}
use Rattle.envy_soundness.proofs.format.clear_segments.Given as goal

abbrev pub invariant-loop-segment : goal.invariant-loop-segment
invariant-loop-segment g l = record {
  cleared : Cleared l.segment (chart (g.B.Board.state l.initial.board)) (chart (g.B.Board.state l.board));
  bads : l.bads ≡ length (aside_of (g.B.Board.state l.initial.board).shape (chart (g.B.Board.state l.board)).fields.fills l.segment);
}
