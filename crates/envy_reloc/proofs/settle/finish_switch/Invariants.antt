use Rattle.std.proofs.Common.{◌≡◌}
use Rattle.std.specs.Prelude.{IsTrue}
use Rattle.envy_map.specs.Fields.{chart}
use Rattle.envy_soundness.specs.Naming.{AreParted}
use Rattle.envy_soundness.specs.Same.{Same}
use Rattle.envy_reloc.specs.Settling.{KeepsOthers}
use Rattle.envy_reloc.specs.Switching.{SwitchesRows}
use Rattle.envy_reloc.proofs.settle.finish_switch.Given as goal

abbrev pub invariant-loop-i : goal.invariant-loop-i
invariant-loop-i g l = record {
  same : Same 0 0 (chart (g.B.Board.state l.initial.board)) (chart (g.B.Board.state l.board));
  on : IsTrue (g.B.Board.state l.board).on;
  flash : (g.B.Board.state l.board).flash ≡ (g.B.Board.state l.initial.board).flash;
  undos : (chart (g.B.Board.state l.board)).fields.undos ≡ (chart (g.B.Board.state l.initial.board)).fields.undos;
  parted : AreParted (chart (g.B.Board.state l.board)).fields.slots (chart (g.B.Board.state l.board)).fields.undos (chart (g.B.Board.state l.board)).fields.places;
  others : KeepsOthers (chart (g.B.Board.state l.initial.board)).fields (chart (g.B.Board.state l.board)).fields;
  rows : SwitchesRows (g.B.Board.state l.board).shape l.spare l.i (chart (g.B.Board.state l.initial.board)).fields (chart (g.B.Board.state l.board)).fields;
}
