use Rattle.std.proofs.Common.{◌+◌, ◌*◌, ℕ, Some, ap, subst}
use Rattle.envy_base.specs.declared.shape.Shape.{Shape}
use Rattle.envy_base.specs.declared.fields.Place.TheVariants.{Row}
use Rattle.envy_map.specs.Fields.{chart}
use Rattle.envy_map.specs.Writes.{Writes, with_place}
use Rattle.envy_soundness.proofs.SwitchLaw.{Same-switched}
use Rattle.envy_soundness.proofs.Written.{base-fits, row-fits, row-of, wrote, wrote-power}
use Rattle.envy_soundness.proofs.page_place.switch_place.Goals as goal

pub overflow_mul-copy : goal.overflow_mul-copy
overflow_mul-copy g c =
    base-fits (c.args.spare * c.shape.result.rows) c.args.i (row-of (g.B.Board.state c.args.board.now).shape c.shape.result c.args.spare c.args.i c.shape.ensures (g.met.B.Board.lawful c.args.board.now).shape c.requires.spare c.requires.row)

pub overflow_add-copy : goal.overflow_add-copy
overflow_add-copy g c =
    row-fits (c.args.spare * c.shape.result.rows) c.args.i (row-of (g.B.Board.state c.args.board.now).shape c.shape.result c.args.spare c.args.i c.shape.ensures (g.met.B.Board.lawful c.args.board.now).shape c.requires.spare c.requires.row)

pub set_place-requires-clause-place : goal.set_place-requires-clause-place
set_place-requires-clause-place g c = row-of (g.B.Board.state c.args.board.now).shape c.shape.result c.args.spare c.args.i c.shape.ensures (g.met.B.Board.lawful c.args.board.now).shape c.requires.spare c.requires.row

pub returns : goal.returns
returns g c =
    let old = chart (g.B.Board.state c.args.board.now) in
    let new = chart (g.B.Board.state c.set_place.new.board) in
    let same = ap (λ (sh : Shape). c.args.spare * sh.rows + c.args.i) c.shape.ensures in
    let copy = c.args.spare * old.shape.rows + c.args.i in
    let writes : Writes (with_place c.args.page (Some (Row copy))) old c.set_place.result new = subst (λ (q : ℕ). Writes (with_place c.args.page (Some (Row q))) old c.set_place.result new) same c.set_place.ensures.writes in
    record {
      same = Same-switched old new c.args.spare c.args.i c.args.page (c.args.spare * c.shape.result.rows + c.args.i) c.set_place.result same c.requires.sound c.requires.page c.requires.copied c.requires.here c.requires.alone c.set_place.ensures.writes;
      writes = writes;
      fields = wrote (with_place c.args.page (Some (Row copy))) old new c.set_place.result writes;
      power = wrote-power (with_place c.args.page (Some (Row copy))) old new c.set_place.result writes;
    }
