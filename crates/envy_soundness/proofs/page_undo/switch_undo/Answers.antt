use Rattle.std.proofs.Common.{◌+◌, ◌*◌, ℕ, Some, ap, subst}
use Rattle.envy_base.specs.declared.shape.Shape.{Shape}
use Rattle.envy_base.specs.declared.fields.Undo.TheVariants.{Shadow}
use Rattle.envy_map.specs.Fields.{chart}
use Rattle.envy_map.specs.Writes.{Writes, with_undo}
use Rattle.envy_soundness.proofs.SwitchLaw.{Same-undo_switched}
use Rattle.envy_soundness.proofs.Written.{base-fits, row-fits, row-of, wrote, wrote-power}
use Rattle.envy_soundness.proofs.page_undo.switch_undo.Goals as goal

pub overflow_mul-copy : goal.overflow_mul-copy
overflow_mul-copy g c =
    base-fits (c.args.spare * c.shape.result.rows) c.args.i (row-of (g.B.Board.state c.args.board.now).shape c.shape.result c.args.spare c.args.i c.shape.ensures (g.met.B.Board.lawful c.args.board.now).shape c.requires.spare c.requires.row)

pub overflow_add-copy : goal.overflow_add-copy
overflow_add-copy g c =
    row-fits (c.args.spare * c.shape.result.rows) c.args.i (row-of (g.B.Board.state c.args.board.now).shape c.shape.result c.args.spare c.args.i c.shape.ensures (g.met.B.Board.lawful c.args.board.now).shape c.requires.spare c.requires.row)

pub set_undo-requires-clause-undo : goal.set_undo-requires-clause-undo
set_undo-requires-clause-undo g c = (c.requires.slot, row-of (g.B.Board.state c.args.board.now).shape c.shape.result c.args.spare c.args.i c.shape.ensures (g.met.B.Board.lawful c.args.board.now).shape c.requires.spare c.requires.row)

pub returns : goal.returns
returns g c =
    let old = chart (g.B.Board.state c.args.board.now) in
    let new = chart (g.B.Board.state c.set_undo.new.board) in
    let same = ap (λ (sh : Shape). c.args.spare * sh.rows + c.args.i) c.shape.ensures in
    let copy = c.args.spare * old.shape.rows + c.args.i in
    let writes : Writes (with_undo c.args.page (Some (Shadow c.args.slot copy))) old c.set_undo.result new = subst (λ (q : ℕ). Writes (with_undo c.args.page (Some (Shadow c.args.slot q))) old c.set_undo.result new) same c.set_undo.ensures.writes in
    record {
      same = Same-undo_switched old new c.args.spare c.args.i c.args.page c.args.slot (c.args.spare * c.shape.result.rows + c.args.i) c.set_undo.result same c.requires.sound c.requires.page c.requires.copied c.requires.here c.requires.active c.requires.alone c.set_undo.ensures.writes;
      fields = wrote (with_undo c.args.page (Some (Shadow c.args.slot copy))) old new c.set_undo.result writes;
      power = wrote-power (with_undo c.args.page (Some (Shadow c.args.slot copy))) old new c.set_undo.result writes;
    }
