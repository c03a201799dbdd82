use Rattle.std.proofs.Common.{◌*◌}
use Rattle.envy_map.proofs.Filling.{Filling}
use Rattle.envy_map.proofs.frame.write_frame.Given as goal

abbrev pub invariant-loop-k : goal.invariant-loop-k
invariant-loop-k g l = record {
  filling : Filling (g.B.Board.state l.initial.board) (g.B.Board.state l.board) l.frame l.page (4 * l.k);
}
