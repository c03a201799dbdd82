use Rattle.std.specs.Prelude.{IsTrue}
use Rattle.envy_map.specs.Fields.{chart}
use Rattle.envy_soundness.specs.Same.{SameDurable}
use Rattle.envy_txn.specs.Turns.{SettledTo}
use Rattle.envy_txn.proofs.settlement.settle_pages.Given as goal

abbrev pub invariant-loop-page : goal.invariant-loop-page
invariant-loop-page g l = record {
  on : IsTrue (g.B.Board.state l.board).on;
  durable : SameDurable 0 0 (chart (g.B.Board.state l.initial.board)) (chart (g.B.Board.state l.board));
  settled : SettledTo l.page (chart (g.B.Board.state l.initial.board)) (chart (g.B.Board.state l.board));
}
