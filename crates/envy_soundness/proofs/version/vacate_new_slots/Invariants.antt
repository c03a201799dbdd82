use Rattle.std.proofs.Common.{◌≡◌, ◌<◌}
use Rattle.std.specs.Prelude.{IsTrue}
use Rattle.envy_map.specs.Fields.{chart, with_fields}
use Rattle.envy_soundness.specs.Same.{SameWords}
use Rattle.envy_soundness.specs.Upgrading.{with_slots_vacated}
use Rattle.envy_soundness.proofs.version.vacate_new_slots.Given as goal

abbrev pub invariant-loop-t : goal.invariant-loop-t
invariant-loop-t g l = record {
  same : SameWords 0 0 (chart (g.B.Board.state l.initial.board)) (chart (g.B.Board.state l.board));
  is : chart (g.B.Board.state l.board) ≡ with_fields (chart (g.B.Board.state l.initial.board)) (with_slots_vacated l.t (chart (g.B.Board.state l.initial.board)).fields);
  powered : 16 < l.t → IsTrue (g.B.Board.state l.board).on;
}
