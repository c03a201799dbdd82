use Rattle.std.proofs.Common.{◌≡◌}
use Rattle.envy_map.specs.Fields.{chart}
use Rattle.envy_soundness.specs.Sound.{IsSound}
use Rattle.test_relocations.proofs.swaps.wear_segment.Given as goal

abbrev pub invariant-loop-turn : goal.invariant-loop-turn
invariant-loop-turn g l = record {
  sound : IsSound (chart (g.B.Board.state l.board));
  shape : (g.B.Board.state l.board).shape ≡ (g.B.Board.state l.initial.board).shape;
}
