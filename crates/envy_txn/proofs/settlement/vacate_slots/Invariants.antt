use Rattle.std.specs.Prelude.{IsTrue}
use Rattle.envy_map.specs.Fields.{chart}
use Rattle.envy_soundness.specs.Same.{SameWords}
use Rattle.envy_txn.specs.Turns.{VacatedTo}
use Rattle.envy_txn.proofs.settlement.vacate_slots.Given as goal

abbrev pub invariant-loop-t : goal.invariant-loop-t
invariant-loop-t g l = record {
  on : IsTrue (g.B.Board.state l.board).on;
  same : SameWords 0 0 (chart (g.B.Board.state l.initial.board)) (chart (g.B.Board.state l.board));
  vacated : VacatedTo l.t (chart (g.B.Board.state l.initial.board)) (chart (g.B.Board.state l.board));
}
