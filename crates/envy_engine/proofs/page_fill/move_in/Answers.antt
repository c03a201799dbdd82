use Rattle.std.proofs.Common.{refl, Some, sym, subst}
use Rattle.envy_base.specs.declared.fields.Place.TheVariants.{Frame}
use Rattle.envy_map.specs.Fields.{chart}
use Rattle.envy_map.specs.Writes.{with_place}
use Rattle.envy_soundness.proofs.Composition.{Counted-put}
use Rattle.envy_engine.specs.Storing.{Near}
use Rattle.envy_engine.proofs.NearLemmas.{Notable-near, Agrees-near, Fits-near}
use Rattle.envy_base.specs.declared.shape.Shape.{Shape}
use Rattle.envy_table.proofs.HitLemmas.{Rests-refl}
use Rattle.envy_engine.specs.Agreement.{Fits}
use Rattle.envy_engine.proofs.BringAnswers.{match-failed, shape-put}
use Rattle.envy_reloc.proofs.Exits.{unpowered, none-if, none-power}
use Rattle.envy_engine.proofs.page_fill.move_in.Goals as goal

pub note_left-requires : goal.note_left-requires
note_left-requires g c = record { row = Notable-near (chart (g.B.Board.state c.args.board.now)) c.args.parts.now c.args.page c.args.frame c.args.from c.requires.near }

pub returns-clause-steady : goal.returns-clause-steady
returns-clause-steady g c =
    let old = chart (g.B.Board.state c.args.board.now) in
    let new = chart (g.B.Board.state c.move_to_frame.new.board) in
    let x = c.args.parts.now in
    let n = c.requires.near in
    let e = c.in_ok-move_to_frame.ensures in
    record {
      fits = Fits-near old new x _ c.args.page c.args.frame c.args.from n e.writes.1 c.note_left.ensures c.retarget.ensures.size refl refl refl;
      agrees = λ on. Agrees-near old new x _ c.args.page c.args.frame c.args.from n e.writes.1 c.note_left.ensures (c.retarget.ensures.agrees old.shape.pages old.fields.places (Near.current n)) refl refl;
    }

pub returns-in_err-move_to_frame-clause-counted : goal.returns-in_err-move_to_frame-clause-counted
returns-in_err-move_to_frame-clause-counted g c = Counted-put _ _ (with_place c.args.page (Some (Frame c.args.frame))) _ c.move_to_frame.ensures.writes

pub returns-clause-counted : goal.returns-clause-counted
returns-clause-counted g c = Counted-put _ _ (with_place c.args.page (Some (Frame c.args.frame))) _ c.move_to_frame.ensures.writes

pub move_to_frame-requires-clause-sound : goal.move_to_frame-requires-clause-sound
move_to_frame-requires-clause-sound g c = Near.sound c.requires.near

pub move_to_frame-requires-clause-page : goal.move_to_frame-requires-clause-page
move_to_frame-requires-clause-page g c = Near.page c.requires.near

pub move_to_frame-requires-clause-frame : goal.move_to_frame-requires-clause-frame
move_to_frame-requires-clause-frame g c = Near.frame c.requires.near

pub move_to_frame-requires-clause-place : goal.move_to_frame-requires-clause-place
move_to_frame-requires-clause-place g c = c.requires.word

pub move_to_frame-requires-clause-unnamed : goal.move_to_frame-requires-clause-unnamed
move_to_frame-requires-clause-unnamed g c on = Near.unnamed c.requires.near

pub move_to_frame-requires-clause-copy : goal.move_to_frame-requires-clause-copy
move_to_frame-requires-clause-copy g c on = c.requires.copy

pub returns-in_err-move_to_frame-clause-free : goal.returns-in_err-move_to_frame-clause-free
returns-in_err-move_to_frame-clause-free g c free = match-failed c.from_residual.result _ _ _ c.from_residual.ensures.1 (c.in_err-move_to_frame.ensures.free (λ on. free))

pub returns-in_err-move_to_frame-clause-owned : goal.returns-in_err-move_to_frame-clause-owned
returns-in_err-move_to_frame-clause-owned g c owned = match-failed c.from_residual.result _ _ _ c.from_residual.ensures.1 (c.in_err-move_to_frame.ensures.owned (λ on. owned))

pub returns-in_err-move_to_frame-clause-fields : goal.returns-in_err-move_to_frame-clause-fields
returns-in_err-move_to_frame-clause-fields g c = none-if c.from_residual.result _ _ c.from_residual.ensures.1

pub returns-in_err-move_to_frame-clause-steady : goal.returns-in_err-move_to_frame-clause-steady
returns-in_err-move_to_frame-clause-steady g c =
    let old = (chart (g.B.Board.state c.args.board.now)) in
    let new = (chart (g.B.Board.state c.move_to_frame.new.board)) in
    record {
      fits = subst (λ (sh : Shape). Fits sh c.args.parts.now) (sym (shape-put old new (with_place c.args.page (Some (Frame c.args.frame))) _ c.move_to_frame.ensures.writes)) (Near.fits c.requires.near);
      agrees = λ on. unpowered new.on c.in_err-move_to_frame.ensures.power on;
    }

pub returns-in_err-move_to_frame-clause-rests : goal.returns-in_err-move_to_frame-clause-rests
returns-in_err-move_to_frame-clause-rests g c = Rests-refl c.args.parts.now.cache

pub returns-in_err-move_to_frame-clause-parts : goal.returns-in_err-move_to_frame-clause-parts
returns-in_err-move_to_frame-clause-parts g c = refl

pub returns-in_err-move_to_frame-clause-power : goal.returns-in_err-move_to_frame-clause-power
returns-in_err-move_to_frame-clause-power g c = none-power c.from_residual.result _ (g.B.Board.state c.move_to_frame.new.board).on c.in_err-move_to_frame.ensures.power c.from_residual.ensures.1

pub returns-clause-free : goal.returns-clause-free
returns-clause-free g c free = c.in_ok-move_to_frame.ensures.free (λ on. free)

pub returns-clause-owned : goal.returns-clause-owned
returns-clause-owned g c owned = c.in_ok-move_to_frame.ensures.owned (λ on. owned)

pub returns-clause-fields : goal.returns-clause-fields
returns-clause-fields g c = c.in_ok-move_to_frame.ensures.writes.1

pub returns-clause-rests : goal.returns-clause-rests
returns-clause-rests g c = c.retarget.ensures.rests

pub returns-clause-parts : goal.returns-clause-parts
returns-clause-parts g c = refl

pub returns-clause-power : goal.returns-clause-power
returns-clause-power g c = c.in_ok-move_to_frame.ensures.power
