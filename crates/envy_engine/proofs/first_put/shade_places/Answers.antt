use Rattle.std.proofs.Common.{◌≡◌, ◌∙◌, ◌<◌, ◌+◌, ◌*◌, length, Option, Some, sym, ap, subst}
use Rattle.std.specs.Prelude.{IsTrue}
use Rattle.std.proofs.lemmas.Result.{err_from_is_err_and}
use Rattle.envy_base.specs.declared.fields.Place.TheVariants.{Frame}
use Rattle.envy_base.specs.declared.fields.Undo.{Undo}
use Rattle.envy_base.specs.State.{IsBoard}
use Rattle.envy_map.specs.Fields.{Chart, chart, with_fields}
use Rattle.envy_map.specs.Writes.{with_place, with_undo}
use Rattle.envy_soundness.specs.Sound.{Sound, Slots}
use Rattle.envy_meaning.specs.Transactions.{Owns}
use Rattle.envy_soundness.proofs.Composition.{Same-refl, SameDurable-trans, SameDurable-words, SameDurable-dropped}
use Rattle.envy_meaning.proofs.Owners.{owned_by-owns}
use Rattle.envy_meaning.proofs.Putting.{PutDone-shadowed}
use Rattle.envy_txn.specs.Owners.{Ownership, AreOwned}
use Rattle.envy_engine.specs.Putting.{MayGive, undo_for}
use Rattle.envy_engine.proofs.ElsewhereLemmas.{MayUndo-left, IsUndo-left, slot-left, Owns-left}
use Rattle.envy_engine.proofs.FlushLemmas.{ok-any, ok-of, err-of, ok-written, on-ok}
use Rattle.envy_engine.proofs.Leaving.{if_powered}
use Rattle.envy_base.specs.declared.shape.Shape.{Shape}
use Rattle.envy_soundness.specs.Same.{SameWords}
use Rattle.envy_reloc.proofs.Exits.{none-if, none-power}
use Rattle.envy_engine.proofs.first_put.shade_places.Goals as goal

pub own-requires-clause-undo : goal.own-requires-clause-undo
own-requires-clause-undo g c =
    let old = chart (g.B.Board.state c.args.board.now) in
    IsUndo-left old c.args.owned.now c.args.slot c.args.page c.args.from c.undo_of_place.result (IsBoard.shape (g.met.B.Board.lawful c.args.board.now)) c.requires.sound c.requires.may c.requires.lands.here c.undo_of_place.ensures

pub own-requires-clause-ready : goal.own-requires-clause-ready
own-requires-clause-ready g c on =
    let old = chart (g.B.Board.state c.args.board.now) in
    record { sound = c.requires.sound; agrees = MayGive.owned c.requires.may; may = MayUndo-left old c.args.owned.now c.args.slot c.args.page c.args.from c.undo_of_place.result c.requires.may c.requires.lands.here c.undo_of_place.ensures }

pub returns-in_err-own-clause-durable : goal.returns-in_err-own-clause-durable
returns-in_err-own-clause-durable g c =
    let p = err_from_is_err_and c.from_residual.result c.from_residual.ensures.1 in
    rw p.1 (SameDurable-words 0 0 (chart (g.B.Board.state c.args.board.now)) (chart (g.B.Board.state c.own.new.board)) (c.own.ensures.same c.requires.sound))

pub returns-clause-done : goal.returns-clause-done
returns-clause-done g c =
    let old = chart (g.B.Board.state c.args.board.now) in
    let mid = chart (g.B.Board.state c.own.new.board) in
    let new = chart (g.B.Board.state c.move_to_frame.new.board) in
    let words = c.own.ensures.same c.requires.sound in
    let long = Slots.undos_long (Sound.slots c.requires.sound) in
    let low : c.args.page < length old.fields.undos = rw long (MayGive.page c.requires.may) in
    let owns : Owns c.args.slot c.args.page old mid = Owns-left old mid c.args.slot c.args.page c.undo_of_place.result low (slot-left c.args.slot c.args.from c.undo_of_place.result c.undo_of_place.ensures) c.in_ok-own.ensures.owns.fields in
    let owned = owned_by-owns c.args.slot c.args.page old mid owns (MayGive.opened c.requires.may).1 in
    ok-of c.move_to_frame.result _ _ _ (λ done. PutDone-shadowed 0 0 0 0 c.args.slot c.args.page old old mid new (32 * c.args.page + c.args.i) c.args.w (Same-refl old c.requires.sound) words owns done) (c.move_to_frame.ensures.owned (λ on. owned))

pub returns-clause-durable : goal.returns-clause-durable
returns-clause-durable g c =
    let old = chart (g.B.Board.state c.args.board.now) in
    let mid = chart (g.B.Board.state c.own.new.board) in
    let new = chart (g.B.Board.state c.move_to_frame.new.board) in
    let words = c.own.ensures.same c.requires.sound in
    let long = Slots.undos_long (Sound.slots c.requires.sound) in
    let low : c.args.page < length old.fields.undos = rw long (MayGive.page c.requires.may) in
    let owns : Owns c.args.slot c.args.page old mid = Owns-left old mid c.args.slot c.args.page c.undo_of_place.result low (slot-left c.args.slot c.args.from c.undo_of_place.result c.undo_of_place.ensures) c.in_ok-own.ensures.owns.fields in
    let owned = owned_by-owns c.args.slot c.args.page old mid owns (MayGive.opened c.requires.may).1 in
    err-of c.move_to_frame.result _ _ _ (λ dropped. SameDurable-trans 0 0 0 0 old mid new (SameDurable-words 0 0 old mid words) (SameDurable-dropped 0 0 mid new dropped)) (c.move_to_frame.ensures.owned (λ on. owned))

pub returns-clause-fields : goal.returns-clause-fields
returns-clause-fields g c =
    let old = chart (g.B.Board.state c.args.board.now) in
    let mid = chart (g.B.Board.state c.own.new.board) in
    let new = chart (g.B.Board.state c.move_to_frame.new.board) in
    let p = c.args.page in
    let k = c.args.frame in
    let is : mid ≡ with_fields old (with_undo p (undo_for c.args.slot c.args.from) old.fields) = subst (λ (u : Option Undo). mid ≡ with_fields old (with_undo p u old.fields)) (sym c.undo_of_place.ensures) c.in_ok-own.ensures.owns.fields in
    on-ok c.move_to_frame.result _ _ (λ moved. subst (λ (z : Chart). new ≡ with_fields z (with_place p (Some (Frame k)) z.fields)) is moved) (ok-written mid new (with_place p (Some (Frame k))) c.move_to_frame.result c.move_to_frame.ensures.writes)

pub returns-clause-gives : goal.returns-clause-gives
returns-clause-gives g c = ok-any c.move_to_frame.result _ (c.in_ok-own.ensures.owns.newest c.args.slot (slot-left c.args.slot c.args.from c.undo_of_place.result c.undo_of_place.ensures))

pub returns-clause-owners : goal.returns-clause-owners
returns-clause-owners g c =
    let mid = chart (g.B.Board.state c.own.new.board) in
    let new = chart (g.B.Board.state c.move_to_frame.new.board) in
    record {
      limit = ap (λ (o : Ownership). o.limit) (c.in_ok-own.ensures.owns.newest c.args.slot (slot-left c.args.slot c.args.from c.undo_of_place.result c.undo_of_place.ensures));
      agree = λ on.
          let moved = if_powered c.move_to_frame.result new.on _ (ok-written mid new (with_place c.args.page (Some (Frame c.args.frame))) c.move_to_frame.result c.move_to_frame.ensures.writes) c.move_to_frame.ensures.power on in
          let was : IsTrue mid.on = ap (λ (z : Chart). z.on) (sym moved) ∙ on in
          subst (λ (z : Chart). AreOwned z.fields.slots z.fields.undos c.own.new.self.pairs) (sym moved) (c.own.ensures.agrees was);
    }

pub returns-in_err-own-clause-owners : goal.returns-in_err-own-clause-owners
returns-in_err-own-clause-owners g c = record { limit = ap (λ (o : Ownership). o.limit) c.in_err-own.ensures.unchanged; agree = c.own.ensures.agrees }

pub returns-clause-power : goal.returns-clause-power
returns-clause-power g c = c.move_to_frame.ensures.power

pub undo_of_place-requires : goal.undo_of_place-requires
undo_of_place-requires g c = c.requires.lands.elsewhere

pub own-requires-clause-limit : goal.own-requires-clause-limit
own-requires-clause-limit g c = c.requires.may.limit

pub own-requires-clause-page : goal.own-requires-clause-page
own-requires-clause-page g c = c.requires.may.page

pub own-requires-clause-room : goal.own-requires-clause-room
own-requires-clause-room g c = c.requires.may.room

pub own-requires-clause-free : goal.own-requires-clause-free
own-requires-clause-free g c = c.requires.may.free

pub returns-in_err-own-clause-done : goal.returns-in_err-own-clause-done
returns-in_err-own-clause-done g c = none-if c.from_residual.result _ _ c.from_residual.ensures.1

pub returns-in_err-own-clause-fields : goal.returns-in_err-own-clause-fields
returns-in_err-own-clause-fields g c = none-if c.from_residual.result _ _ c.from_residual.ensures.1

pub returns-in_err-own-clause-gives : goal.returns-in_err-own-clause-gives
returns-in_err-own-clause-gives g c = none-if c.from_residual.result _ _ c.from_residual.ensures.1

pub returns-in_err-own-clause-power : goal.returns-in_err-own-clause-power
returns-in_err-own-clause-power g c = none-power c.from_residual.result _ (g.B.Board.state c.own.new.board).on c.in_err-own.ensures.power c.from_residual.ensures.1

pub move_to_frame-requires-clause-sound : goal.move_to_frame-requires-clause-sound
move_to_frame-requires-clause-sound g c = SameWords.sound (c.own.ensures.same c.requires.sound)

pub move_to_frame-requires-clause-page : goal.move_to_frame-requires-clause-page
move_to_frame-requires-clause-page g c = subst (λ (sh : Shape). c.args.page < sh.pages) (sym (SameWords.shape (c.own.ensures.same c.requires.sound))) c.requires.may.page

pub move_to_frame-requires-clause-frame : goal.move_to_frame-requires-clause-frame
move_to_frame-requires-clause-frame g c = subst (λ (sh : Shape). c.args.frame < sh.frames) (sym (SameWords.shape (c.own.ensures.same c.requires.sound))) c.requires.lands.frame

pub move_to_frame-requires-clause-place : goal.move_to_frame-requires-clause-place
move_to_frame-requires-clause-place g c = c.requires.word
