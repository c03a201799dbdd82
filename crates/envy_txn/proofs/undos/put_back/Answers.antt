use Rattle.std.proofs.Common.{Some, ◌∙◌, ap}
use Rattle.envy_base.specs.declared.fields.Undo.TheVariants.{Clear}
use Rattle.envy_map.specs.Fields.{Chart, chart, with_fields}
use Rattle.envy_map.specs.Writes.{with_undo}
use Rattle.envy_soundness.specs.Same.{SameDurable}
use Rattle.envy_soundness.proofs.Composition.{SameDurable-trans, SameDurable-words}
use Rattle.envy_txn.proofs.WayLemmas.{none-done, off-of}
use Rattle.envy_txn.proofs.undos.put_back.Goals as goal

pub restore_place-requires-clause-owned : goal.restore_place-requires-clause-owned
restore_place-requires-clause-owned g c on = c.requires.owned

pub restore_place-requires-clause-names : goal.restore_place-requires-clause-names
restore_place-requires-clause-names g c on = c.requires.names

pub returns-in_err-restore_place : goal.returns-in_err-restore_place
returns-in_err-restore_place g c =
    let e = c.in_err-restore_place.ensures in
    let result = c.from_residual.result in
    let left = c.from_residual.ensures.1 in
    record {
      durable = e.durable;
      fields = none-done result _ _ left;
      power = off-of result _ (g.B.Board.state c.restore_place.new.board).on e.power left;
    }

pub clear_settled_undo-requires-clause-sound : goal.clear_settled_undo-requires-clause-sound
clear_settled_undo-requires-clause-sound g c = SameDurable.sound c.in_ok-restore_place.ensures.durable

pub returns-in_err-clear_settled_undo : goal.returns-in_err-clear_settled_undo
returns-in_err-clear_settled_undo g c =
    let old = chart (g.B.Board.state c.args.board.now) in
    let mid = chart (g.B.Board.state c.restore_place.new.board) in
    let new = chart (g.B.Board.state c.clear_settled_undo.new.board) in
    let e = c.in_err-clear_settled_undo.ensures in
    let result = c.from_residual-in_err-clear_settled_undo.result in
    let left = c.from_residual-in_err-clear_settled_undo.ensures.1 in
    record {
      durable = SameDurable-trans 0 0 0 0 old mid new c.in_ok-restore_place.ensures.durable (SameDurable-words 0 0 mid new e.same);
      fields = none-done result _ _ left;
      power = off-of result _ new.on e.power left;
    }

pub returns : goal.returns
returns g c =
    let old = chart (g.B.Board.state c.args.board.now) in
    let mid = chart (g.B.Board.state c.restore_place.new.board) in
    let new = chart (g.B.Board.state c.clear_settled_undo.new.board) in
    let one = c.in_ok-restore_place.ensures in
    let two = c.in_ok-clear_settled_undo.ensures in
    record {
      durable = SameDurable-trans 0 0 0 0 old mid new one.durable (SameDurable-words 0 0 mid new two.same);
      fields = two.fields ∙ ap (λ (z : Chart). with_fields z (with_undo c.args.page (Some Clear) z.fields)) one.fields;
      power = two.power;
    }
