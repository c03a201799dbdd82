use Rattle.std.proofs.Common.{◌≡◌, ◌<◌, ◌/◌, refl, sym, ap, subst, get_or, ◌*◌}
use Rattle.envy_base.specs.declared.shape.Shape.{Shape}
use Rattle.envy_base.specs.declared.fields.Place.TheVariants.{Row}
use Rattle.envy_frames.specs.Order.{Order}
use Rattle.envy_map.specs.Fields.{Chart, chart}
use Rattle.envy_soundness.specs.Sound.{Sound, Places}
use Rattle.envy_soundness.specs.Same.{Same, Stays}
use Rattle.envy_space.specs.Pool.{Pool}
use Rattle.envy_engine.proofs.Leaving.{leaves_off_same}
use Rattle.envy_engine.proofs.CountLemmas.{Counting-still}
use Rattle.envy_engine.proofs.AgreeLemmas.{Agrees-rowed, Rowed-granted, Fits-moved}
use Rattle.envy_table.proofs.HitLemmas.{Rests-retargeted}
use Rattle.envy_space.proofs.PlaceLemmas.{room-rowed}
use Rattle.envy_base.specs.State.{IsBoard}
use Rattle.envy_reloc.proofs.Exits.{none-if, none-power}
use Rattle.envy_engine.proofs.FlushAnswers.{may-take, has-page, row-few, held-frame}
use Rattle.envy_engine.proofs.flush.move_out.Goals as goal

pub note_kept-requires-clause-room : goal.note_kept-requires-clause-room
note_kept-requires-clause-room g c =
    let old = chart (g.B.Board.state c.args.board.now) in
    let x = c.args.parts.now in
    let r = c.requires.ready in
    let long = Places.long (Sound.places r.sound) in
    let rowed = Rowed-granted old.shape old.fields old.flash x c.args.page c.args.frame c.args.row r.agrees long c.requires.page c.requires.here c.requires.granted in
    let e = c.in_ok-move_place.ensures in
    let sound = subst (λ (z : Chart). Sound z.shape z.fields z.flash) e.fields (Stays.sound (Same.stays e.same)) in
    subst (λ (sh : Shape). get_or x.space.kept (c.args.row / sh.rows) 0 < get_or x.space.fills (c.args.row / sh.rows) 0) (sym r.fits.pool)
    (room-rowed old.shape old.fields old.flash x.space c.args.page c.args.row rowed sound)

pub returns-clause-leaves : goal.returns-clause-leaves
returns-clause-leaves g c =
    let old = chart (g.B.Board.state c.args.board.now) in
    let new = chart (g.B.Board.state c.move_place.new.board) in
    let x = c.args.parts.now in
    let r = c.requires.ready in
    let e = c.in_ok-move_place.ensures in
    let long = Places.long (Sound.places r.sound) in
    let shape : new.shape ≡ old.shape = ap (λ (z : Chart). z.shape) e.fields in
    record {
      steady = record {
        fits = Fits-moved old.shape new.shape x _ shape r.fits (ap (λ (p : Pool). p.shape) c.note_kept.ensures) (ap (λ (o : Order). o.count) c.give_back.ensures) c.retarget.ensures.size refl refl;
        agrees = λ on. Agrees-rowed old new x _ c.args.page c.args.frame c.args.row r.agrees long c.requires.page c.requires.here c.requires.granted e.fields c.note_kept.ensures (c.retarget.ensures.agrees old.shape.pages old.fields.places r.agrees.current) (ap (λ (o : Order). o.held) c.give_back.ensures) refl;
      };
      counting = Counting-still old new x _ (Stays.counted (Same.stays e.same)) refl refl refl (λ on. ap (λ (z : Chart). z.fields.wears) e.fields);
      rests = Rests-retargeted x.cache c.retarget.new.self c.args.page (Row c.args.row) c.retarget.ensures.becomes;
    }

pub returns-in_err-move_place-clause-leaves : goal.returns-in_err-move_place-clause-leaves
returns-in_err-move_place-clause-leaves g c = leaves_off_same _ _ _ c.requires.ready c.move_place.ensures.same c.in_err-move_place.ensures.power

pub move_place-requires-clause-sound : goal.move_place-requires-clause-sound
move_place-requires-clause-sound g c = c.requires.ready.sound

pub move_place-requires-clause-page : goal.move_place-requires-clause-page
move_place-requires-clause-page g c = c.requires.page

pub move_place-requires-clause-place : goal.move_place-requires-clause-place
move_place-requires-clause-place g c = row-few (g.B.Board.state c.args.board.now).shape c.args.row (IsBoard.shape (g.met.B.Board.lawful c.args.board.now)) c.requires.granted.range

pub move_place-requires-clause-may : goal.move_place-requires-clause-may
move_place-requires-clause-may g c on = let old = (chart (g.B.Board.state c.args.board.now)) in may-take old.shape old.fields c.args.page c.args.row c.requires.granted

pub move_place-requires-clause-copy : goal.move_place-requires-clause-copy
move_place-requires-clause-copy g c on = let old = (chart (g.B.Board.state c.args.board.now)) in has-page old.fields old.flash c.args.page c.args.frame c.args.row c.requires.here c.requires.copy

pub returns-in_err-move_place-clause-same : goal.returns-in_err-move_place-clause-same
returns-in_err-move_place-clause-same g c = c.move_place.ensures.same

pub returns-in_err-move_place-clause-fields : goal.returns-in_err-move_place-clause-fields
returns-in_err-move_place-clause-fields g c = none-if c.from_residual.result _ _ c.from_residual.ensures.1

pub returns-in_err-move_place-clause-frames : goal.returns-in_err-move_place-clause-frames
returns-in_err-move_place-clause-frames g c = none-if c.from_residual.result _ _ c.from_residual.ensures.1

pub returns-in_err-move_place-clause-parts : goal.returns-in_err-move_place-clause-parts
returns-in_err-move_place-clause-parts g c = refl

pub returns-in_err-move_place-clause-power : goal.returns-in_err-move_place-clause-power
returns-in_err-move_place-clause-power g c = none-power c.from_residual.result _ (g.B.Board.state c.move_place.new.board).on c.in_err-move_place.ensures.power c.from_residual.ensures.1

pub note_kept-requires-clause-row : goal.note_kept-requires-clause-row
note_kept-requires-clause-row g c = subst (λ (sh : Shape). c.args.row < sh.segments * sh.rows) (sym c.requires.ready.fits.pool) c.requires.granted.range

pub give_back-requires : goal.give_back-requires
give_back-requires g c = record { held = held-frame _ _ c.args.parts.now.frames.held c.args.page c.args.frame c.requires.ready.agrees.held c.requires.here }

pub returns-clause-same : goal.returns-clause-same
returns-clause-same g c = c.move_place.ensures.same

pub returns-clause-fields : goal.returns-clause-fields
returns-clause-fields g c = c.in_ok-move_place.ensures.fields

pub returns-clause-frames : goal.returns-clause-frames
returns-clause-frames g c = ap (λ (o : Order). o.held) c.give_back.ensures

pub returns-clause-parts : goal.returns-clause-parts
returns-clause-parts g c = refl

pub returns-clause-power : goal.returns-clause-power
returns-clause-power g c = c.in_ok-move_place.ensures.power
