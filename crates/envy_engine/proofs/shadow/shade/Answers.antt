use Rattle.std.proofs.Common.{◌≡◌, ◌*◌, ◌<◌, ◌/◌, refl, ap, sym, subst, get_or}
use Rattle.envy_base.specs.declared.shape.Shape.{Shape}
use Rattle.envy_map.specs.Fields.{Chart, chart}
use Rattle.envy_soundness.specs.Sound.{Sound}
use Rattle.envy_soundness.specs.Same.{SameWords}
use Rattle.envy_space.specs.Pool.{Pool}
use Rattle.envy_table.proofs.HitLemmas.{Rests-refl}
use Rattle.envy_engine.proofs.Leaving.{leaves_off}
use Rattle.envy_engine.proofs.CountLemmas.{Counting-still}
use Rattle.envy_engine.proofs.AgreeLemmas.{Fits-moved}
use Rattle.envy_engine.proofs.ShadeLemmas.{Shades, Shades-given, room-shade, Agrees-shade, MayUndo-shade, Owns-shade}
use Rattle.envy_txn.specs.Owners.{Ownership}
use Rattle.envy_reloc.proofs.Exits.{none-if, none-power}
use Rattle.envy_base.specs.State.{IsBoard}
use Rattle.envy_engine.proofs.ShadeAnswers.{row-code}
use Rattle.envy_engine.proofs.shadow.shade.Goals as goal

pub note_kept-requires-clause-room : goal.note_kept-requires-clause-room
note_kept-requires-clause-room g c =
    let old = chart (g.B.Board.state c.args.board.now) in
    let x = c.args.parts.now in
    let r = c.requires.ready in
    let e = c.in_ok-own.ensures in
    let s : Shades old c.args.page c.args.frame c.args.row c.args.slot = Shades-given old c.args.page c.args.frame c.args.row c.args.slot c.args.owned.now r.sound c.requires.may c.requires.here c.requires.granted c.requires.copy in
    let sound = subst (λ (z : Chart). Sound z.shape z.fields z.flash) e.owns.fields (SameWords.sound (c.own.ensures.same r.sound)) in
    subst (λ (sh : Shape). get_or x.space.kept (c.args.row / sh.rows) 0 < get_or x.space.fills (c.args.row / sh.rows) 0) (sym r.fits.pool)
    (room-shade old c.args.page c.args.frame c.args.row c.args.slot x.space s r.agrees.pool sound)

pub returns-clause-leaves : goal.returns-clause-leaves
returns-clause-leaves g c =
    let old = chart (g.B.Board.state c.args.board.now) in
    let new = chart (g.B.Board.state c.own.new.board) in
    let x = c.args.parts.now in
    let r = c.requires.ready in
    let e = c.in_ok-own.ensures in
    let s : Shades old c.args.page c.args.frame c.args.row c.args.slot = Shades-given old c.args.page c.args.frame c.args.row c.args.slot c.args.owned.now r.sound c.requires.may c.requires.here c.requires.granted c.requires.copy in
    let shape : new.shape ≡ old.shape = ap (λ (z : Chart). z.shape) e.owns.fields in
    record {
      steady = record {
        fits = Fits-moved old.shape new.shape x _ shape r.fits (ap (λ (p : Pool). p.shape) c.note_kept.ensures) refl refl refl refl;
        agrees = λ on. Agrees-shade old new x _ c.args.page c.args.frame c.args.row c.args.slot s r.agrees e.owns.fields c.note_kept.ensures refl refl refl;
      };
      counting = Counting-still old new x _ (SameWords.counted (c.own.ensures.same r.sound)) refl refl refl (λ on. ap (λ (z : Chart). z.fields.wears) e.owns.fields);
      rests = Rests-refl x.cache;
    }

pub returns-in_err-own-clause-leaves : goal.returns-in_err-own-clause-leaves
returns-in_err-own-clause-leaves g c =
    let r = c.requires.ready in
    let s = c.own.ensures.same r.sound in
    leaves_off _ _ c.args.parts.now _ (rw (SameWords.shape s) r.fits) (SameWords.counted s) c.in_err-own.ensures.power refl refl refl (Rests-refl c.args.parts.now.cache)

pub own-requires-clause-ready : goal.own-requires-clause-ready
own-requires-clause-ready g c on =
    let old = chart (g.B.Board.state c.args.board.now) in
    record { sound = c.requires.ready.sound; agrees = c.requires.may.owned; may = MayUndo-shade old c.args.page c.args.frame c.args.row c.args.slot (Shades-given old c.args.page c.args.frame c.args.row c.args.slot c.args.owned.now c.requires.ready.sound c.requires.may c.requires.here c.requires.granted c.requires.copy) }

pub returns-clause-shades : goal.returns-clause-shades
returns-clause-shades g c =
    let old = chart (g.B.Board.state c.args.board.now) in
    let new = chart (g.B.Board.state c.own.new.board) in
    let e = c.in_ok-own.ensures in
    record {
      fields = e.owns.fields;
      owns = Owns-shade old new c.args.page c.args.frame c.args.row c.args.slot (Shades-given old c.args.page c.args.frame c.args.row c.args.slot c.args.owned.now c.requires.ready.sound c.requires.may c.requires.here c.requires.granted c.requires.copy) e.owns.fields;
      gives = e.owns.newest c.args.slot refl;
    }

pub returns-clause-owners : goal.returns-clause-owners
returns-clause-owners g c = record { limit = ap (λ (o : Ownership). o.limit) (c.in_ok-own.ensures.owns.newest c.args.slot refl); agree = c.own.ensures.agrees }

pub returns-in_err-own-clause-owners : goal.returns-in_err-own-clause-owners
returns-in_err-own-clause-owners g c = record { limit = ap (λ (o : Ownership). o.limit) c.in_err-own.ensures.unchanged; agree = c.own.ensures.agrees }

pub own-requires-clause-limit : goal.own-requires-clause-limit
own-requires-clause-limit g c = c.requires.may.limit

pub own-requires-clause-page : goal.own-requires-clause-page
own-requires-clause-page g c = c.requires.may.page

pub own-requires-clause-room : goal.own-requires-clause-room
own-requires-clause-room g c = c.requires.may.room

pub own-requires-clause-free : goal.own-requires-clause-free
own-requires-clause-free g c = c.requires.may.free

pub returns-in_err-own-clause-same : goal.returns-in_err-own-clause-same
returns-in_err-own-clause-same g c = c.own.ensures.same c.requires.ready.sound

pub returns-in_err-own-clause-shades : goal.returns-in_err-own-clause-shades
returns-in_err-own-clause-shades g c = none-if c.from_residual.result _ _ c.from_residual.ensures.1

pub returns-in_err-own-clause-parts : goal.returns-in_err-own-clause-parts
returns-in_err-own-clause-parts g c = refl

pub returns-in_err-own-clause-power : goal.returns-in_err-own-clause-power
returns-in_err-own-clause-power g c = none-power c.from_residual.result _ (g.B.Board.state c.own.new.board).on c.in_err-own.ensures.power c.from_residual.ensures.1

pub returns-clause-same : goal.returns-clause-same
returns-clause-same g c = c.own.ensures.same c.requires.ready.sound

pub returns-clause-parts : goal.returns-clause-parts
returns-clause-parts g c = refl

pub returns-clause-power : goal.returns-clause-power
returns-clause-power g c = c.in_ok-own.ensures.power

pub own-requires-clause-undo : goal.own-requires-clause-undo
own-requires-clause-undo g c =
    let old = chart (g.B.Board.state c.args.board.now) in
    (c.requires.may.low, row-code old.shape c.args.row (IsBoard.shape (g.met.B.Board.lawful c.args.board.now)) c.requires.granted.range)

pub note_kept-requires-clause-row : goal.note_kept-requires-clause-row
note_kept-requires-clause-row g c = subst (λ (sh : Shape). c.args.row < sh.segments * sh.rows) (sym c.requires.ready.fits.pool) c.requires.granted.range
