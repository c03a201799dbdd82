use Rattle.std.proofs.Common.{◌≡◌, ◌∙◌, ℕ, ◌<◌, ◌*◌, ◌+◌, inl, length, get_or, None, Some, refl, sym, ap, subst}
use Rattle.envy_base.specs.declared.shape.Shape.{Shape}
use Rattle.envy_base.specs.Counting.{up}
use Rattle.envy_map.specs.Fields.{chart}
use Rattle.std.proofs.lemmas.Result.{err_from_is_err_and}
use Rattle.envy_base.specs.declared.fields.Slot.TheVariants.{Active}
use Rattle.envy_map.specs.Writes.{with_frame_word}
use Rattle.envy_map.specs.Fields.{Fields, Chart, place, undo, slot}
use Rattle.envy_map.specs.Writes.{with_undo}
use Rattle.envy_base.specs.declared.fields.Undo.TheVariants.{Shadow}
use Rattle.std.proofs.lemmas.List.{get_or-set_same}
use Rattle.envy_soundness.specs.Sound.{Sound, Slots, Places}
use Rattle.envy_txn.specs.Owners.{AreOwned}
use Rattle.envy_soundness.specs.Same.{Same, SameWords, Stays, Framed, Counted}
use Rattle.envy_table.proofs.HitLemmas.{Rests-refl}
use Rattle.envy_engine.specs.declared.parts.Parts.{Parts}
use Rattle.envy_engine.proofs.CountLemmas.{Counting-still, wears-put}
use Rattle.envy_engine.proofs.Leaving.{leaves_then}
use Rattle.envy_engine.proofs.FlushLemmas.{bad-rises, err-at, GetsRow-after, StopsFor-gets}
use Rattle.envy_meaning.proofs.Owners.{owned_by-owns}
use Rattle.envy_meaning.proofs.Putting.{PutDone-more, PutDone-shadowed}
use Rattle.envy_soundness.proofs.Composition.{Counted-put}
use Rattle.envy_engine.proofs.PutLemmas.{MayGive-framed, Shadows-shape, PutFirst-shadow, PutFirst-dropped, Steady-word}
use Rattle.envy_reloc.proofs.Exits.{unpowered, err-if, err-after, off-if, off-after, off-bad, ok-bad}
use Rattle.envy_engine.proofs.Bounds.{le-same, row-next, row-less}
use Rattle.envy_engine.proofs.ShadeAnswers.{held-frame, held-home, PutFirst-ended, KeepsOwners-same}
use Rattle.envy_engine.proofs.shadow.put_framed.Goals as goal

pub shadow-requires-clause-here : goal.shadow-requires-clause-here
shadow-requires-clause-here g c = (c.get_row.ensures.keeps.here c.in_ok-row.ensures.power c.args.page c.args.frame).1 c.requires.here

pub shadow-requires-clause-may : goal.shadow-requires-clause-may
shadow-requires-clause-may g c = MayGive-framed c.args.slot c.args.page _ _ c.args.owned.now (Stays.framed (Same.stays c.get_row.ensures.same)) c.requires.may

pub returns-in_err-shadow-clause-put : goal.returns-in_err-shadow-clause-put
returns-in_err-shadow-clause-put g c =
    let old = chart (g.B.Board.state c.args.board.now) in
    let mid = chart (g.B.Board.state c.get_row.new.board) in
    let new = chart (g.B.Board.state c.shadow.new.board) in
    let n = 4 * old.shape.rows in
    let p = err_from_is_err_and c.from_residual-in_err-shadow.result c.from_residual-in_err-shadow.ensures.1 in
    rw (p.1, p.2) (PutFirst-shadow (n + 12) 6 (n + 13) 6 c.args.slot c.args.page old mid new (32 * c.args.page + c.args.i) c.args.w c.in_err-shadow.field-0.0 (row-next n) (le-same 6) c.get_row.ensures.same c.in_err-shadow.ensures.shadows)

pub returns-in_err-change_frame_word-clause-put : goal.returns-in_err-change_frame_word-clause-put
returns-in_err-change_frame_word-clause-put g c =
    let old = chart (g.B.Board.state c.args.board.now) in
    let mid = chart (g.B.Board.state c.get_row.new.board) in
    let next = chart (g.B.Board.state c.shadow.new.board) in
    let new = chart (g.B.Board.state c.change_frame_word.new.board) in
    let n = 4 * old.shape.rows in
    let s = Same.stays c.get_row.ensures.same in
    let sh = c.in_ok-shadow.ensures.shadows in
    let active : slot mid.fields c.args.slot ≡ Some Active = ap (λ (xs : _). get_or xs c.args.slot None) (Framed.slots (Stays.framed s)) ∙ c.requires.may.opened.1 in
    let owned = owned_by-owns c.args.slot c.args.page mid next sh.1 active in
    let p = err_from_is_err_and c.from_residual-in_err-change_frame_word.result c.from_residual-in_err-change_frame_word.ensures.1 in
    rw (p.1, p.2) (PutFirst-dropped (n + 12) 6 (n + 13) 6 old mid next new (row-next n) (le-same 6) c.get_row.ensures.same sh.0 (c.in_err-change_frame_word.ensures.owned (λ on. owned)))

pub returns-clause-put : goal.returns-clause-put
returns-clause-put g c =
    let old = chart (g.B.Board.state c.args.board.now) in
    let mid = chart (g.B.Board.state c.get_row.new.board) in
    let next = chart (g.B.Board.state c.shadow.new.board) in
    let new = chart (g.B.Board.state c.change_frame_word.new.board) in
    let n = 4 * old.shape.rows in
    let s = Same.stays c.get_row.ensures.same in
    let sh = c.in_ok-shadow.ensures.shadows in
    let active : slot mid.fields c.args.slot ≡ Some Active = ap (λ (xs : _). get_or xs c.args.slot None) (Framed.slots (Stays.framed s)) ∙ c.requires.may.opened.1 in
    let owned = owned_by-owns c.args.slot c.args.page mid next sh.1 active in
    PutDone-more (n + 12 + 1) 6 (n + 13) 6 c.args.slot c.args.page old new (32 * c.args.page + c.args.i) c.args.w (row-next n) (le-same 6) (PutDone-shadowed (n + 12) 6 1 0 c.args.slot c.args.page old mid next new (32 * c.args.page + c.args.i) c.args.w c.get_row.ensures.same sh.0 sh.1 (c.in_ok-change_frame_word.ensures.owned (λ on. owned)))

pub change_frame_word-requires-clause-here : goal.change_frame_word-requires-clause-here
change_frame_word-requires-clause-here g c on =
    ap (λ (f : Fields). place f c.args.page) c.in_ok-shadow.ensures.marks.fields ∙ (c.get_row.ensures.keeps.here c.in_ok-row.ensures.power c.args.page c.args.frame).1 c.requires.here

pub returns-clause-puts : goal.returns-clause-puts
returns-clause-puts g c =
    let old = chart (g.B.Board.state c.args.board.now) in
    let mid = chart (g.B.Board.state c.get_row.new.board) in
    let next = chart (g.B.Board.state c.shadow.new.board) in
    let new = chart (g.B.Board.state c.change_frame_word.new.board) in
    let x = c.args.parts.now in
    let y = c.get_row.new.parts in
    let z = c.shadow.new.parts in
    let p = c.args.page in
    let row = c.in_ok-row.row in
    let e = c.in_ok-shadow.ensures in
    let done = c.in_ok-change_frame_word.ensures.writes.1 in
    let shape : new.shape ≡ mid.shape = ap (λ (w : Chart). w.shape) done ∙ SameWords.shape e.shadows.0 in
    let fields : new.fields ≡ with_frame_word c.args.frame c.args.i c.args.w (with_undo p (Some (Shadow c.args.slot row)) mid.fields) = ap (λ (w : Chart). w.fields) done ∙ ap (with_frame_word c.args.frame c.args.i c.args.w) e.marks.fields in
    let s = Same.stays c.get_row.ensures.same in
    let long : length mid.fields.undos ≡ mid.shape.pages = Slots.undos_long (Sound.slots (Stays.sound s)) in
    let pages : mid.shape.pages ≡ old.shape.pages = ap (λ (sh : Shape). sh.pages) (Framed.shape (Stays.framed s)) in
    let low : p < length mid.fields.undos = rw (long, pages) c.requires.may.page in
    let parts = c.shadow.ensures.parts in
    record {
      home = c.home-home.result;
      homed = c.home-home.ensures.value;
      row = row;
      gets = GetsRow-after c.home-home.result p row old x mid y new z shape (ap (λ (f : Fields). f.job) fields) (ap (λ (f : Fields). f.fills) fields) (ap (λ (f : Fields). f.positions) fields) (ap (λ (w : Chart). w.erases) done ∙ e.marks.erases) (ap (λ (w : Parts). w.chooser) parts) (ap (λ (w : Parts). w.reloc) parts) (ap (λ (w : Parts). w.stages) parts) c.in_ok-row.ensures.gets.gets;
      there = ap (λ (f : Fields). place f p) fields ∙ (c.get_row.ensures.keeps.here c.in_ok-row.ensures.power p c.args.frame).1 c.requires.here;
      shadow = ap (λ (f : Fields). undo f p) fields ∙ get_or-set_same mid.fields.undos p (Some (Shadow c.args.slot row)) None low;
      flushes = ap (λ (w : Parts). w.flushes) parts ∙ ap up c.get_row.ensures.keeps.flushes;
    }

pub returns-in_err-shadow-clause-leaves : goal.returns-in_err-shadow-clause-leaves
returns-in_err-shadow-clause-leaves g c = leaves_then _ (chart (g.B.Board.state c.get_row.new.board)) _ _ c.get_row.new.parts _ c.get_row.ensures.leaves c.shadow.ensures.leaves

pub returns-in_err-change_frame_word-clause-leaves : goal.returns-in_err-change_frame_word-clause-leaves
returns-in_err-change_frame_word-clause-leaves g c =
    let mid = chart (g.B.Board.state c.get_row.new.board) in
    let next = chart (g.B.Board.state c.shadow.new.board) in
    let new = chart (g.B.Board.state c.change_frame_word.new.board) in
    let z = c.shadow.new.parts in
    leaves_then _ next _ _ z _ (leaves_then _ mid _ _ c.get_row.new.parts _ c.get_row.ensures.leaves c.shadow.ensures.leaves)
    (record {
      steady = Steady-word next _ z c.args.frame c.args.i c.args.w c.change_frame_word.result c.in_ok-shadow.ensures.shadows.2 c.shadow.ensures.leaves.steady c.change_frame_word.ensures.writes;
      counting = Counting-still next new z z (Counted-put next new (with_frame_word c.args.frame c.args.i c.args.w) c.change_frame_word.result c.change_frame_word.ensures.writes) refl refl refl (wears-put next new (with_frame_word c.args.frame c.args.i c.args.w) c.change_frame_word.result refl c.change_frame_word.ensures.writes);
      rests = Rests-refl z.cache;
    })

pub returns-clause-leaves : goal.returns-clause-leaves
returns-clause-leaves g c =
    let mid = chart (g.B.Board.state c.get_row.new.board) in
    let next = chart (g.B.Board.state c.shadow.new.board) in
    let new = chart (g.B.Board.state c.change_frame_word.new.board) in
    let z = c.shadow.new.parts in
    leaves_then _ next _ _ z _ (leaves_then _ mid _ _ c.get_row.new.parts _ c.get_row.ensures.leaves c.shadow.ensures.leaves)
    (record {
      steady = Steady-word next _ z c.args.frame c.args.i c.args.w c.change_frame_word.result c.in_ok-shadow.ensures.shadows.2 c.shadow.ensures.leaves.steady c.change_frame_word.ensures.writes;
      counting = Counting-still next new z z (Counted-put next new (with_frame_word c.args.frame c.args.i c.args.w) c.change_frame_word.result c.change_frame_word.ensures.writes) refl refl refl (wears-put next new (with_frame_word c.args.frame c.args.i c.args.w) c.change_frame_word.result refl c.change_frame_word.ensures.writes);
      rests = Rests-refl z.cache;
    })

pub returns-in_err-row-clause-stops : goal.returns-in_err-row-clause-stops
returns-in_err-row-clause-stops g c =
    let p = err_from_is_err_and c.from_residual.result c.from_residual.ensures.1 in
    rw (p.1, p.2) (λ is. let s = c.in_err-row.ensures.stops (err-at _ _ is) in (record { home = c.home-home.result; homed = c.home-home.ensures.value; stops = record { noted = s.noted; halted = inl s.halted }; bads = s.bads }, refl))

pub returns-in_err-shadow-clause-stops : goal.returns-in_err-shadow-clause-stops
returns-in_err-shadow-clause-stops g c =
    let old = chart (g.B.Board.state c.args.board.now) in
    let mid = chart (g.B.Board.state c.get_row.new.board) in
    let new = chart (g.B.Board.state c.shadow.new.board) in
    let e = c.shadow.ensures in
    let rise = Counted.bads (Stays.counted (Same.stays c.get_row.ensures.same)) in
    let p = err_from_is_err_and c.from_residual-in_err-shadow.result c.from_residual-in_err-shadow.ensures.1 in
    rw (p.1, p.2) (λ is. let s = c.in_err-shadow.ensures.stops is in (
      record {
        home = c.home-home.result;
        homed = c.home-home.ensures.value;
        stops = StopsFor-gets c.home-home.result c.args.page c.in_ok-row.row old c.args.parts.now mid c.get_row.new.parts new c.shadow.new.parts (Shadows-shape 1 0 c.args.slot c.args.page mid c.shadow.result new e.shadows) s.0.fields s.0.erases (ap (λ (z : Parts). z.chooser) e.parts) (ap (λ (z : Parts). z.reloc) e.parts) (ap (λ (z : Parts). z.stages) e.parts) (ap (λ (z : Parts). z.flushes) e.parts ∙ ap up c.get_row.ensures.keeps.flushes) c.in_ok-row.ensures.gets.gets;
        bads = λ low. rw s.0.bads (bad-rises _ _ rise low);
      },
      s.1,
    ))

pub returns-clause-owners : goal.returns-clause-owners
returns-clause-owners g c =
    let next = chart (g.B.Board.state c.shadow.new.board) in
    let done = c.in_ok-change_frame_word.ensures.writes.1 in
    let o = c.shadow.ensures.owners in
    record { limit = o.limit; agree = λ on. subst (λ (w : Chart). AreOwned w.fields.slots w.fields.undos c.shadow.new.owned.pairs) (sym done) (o.agree c.in_ok-shadow.ensures.shadows.2) }

pub shadow-requires-clause-ready : goal.shadow-requires-clause-ready
shadow-requires-clause-ready g c =
    let steady = c.get_row.ensures.leaves.steady in
    record { on = c.in_ok-row.ensures.power; sound = Stays.sound (Same.stays c.get_row.ensures.same); fits = steady.fits; agrees = steady.agrees c.in_ok-row.ensures.power }

pub shadow-requires-clause-fresh : goal.shadow-requires-clause-fresh
shadow-requires-clause-fresh g c = c.in_ok-row.ensures.gets.fresh

pub shadow-requires-clause-frame : goal.shadow-requires-clause-frame
shadow-requires-clause-frame g c =
    Places.frames (Sound.places (Stays.sound (Same.stays c.get_row.ensures.same))) c.args.page c.args.frame ((c.get_row.ensures.keeps.here c.in_ok-row.ensures.power c.args.page c.args.frame).1 c.requires.here)

pub home-home-requires : goal.home-home-requires
home-home-requires g c =
    let old = chart (g.B.Board.state c.args.board.now) in
    record { held = held-frame old.shape old.fields.places c.args.parts.now.frames.held c.args.page c.args.frame c.requires.ready.agrees.held c.requires.here }

pub get_row-requires-clause-ready : goal.get_row-requires-clause-ready
get_row-requires-clause-ready g c = c.requires.ready

pub get_row-requires-clause-page : goal.get_row-requires-clause-page
get_row-requires-clause-page g c = c.requires.may.page

pub get_row-requires-clause-home : goal.get_row-requires-clause-home
get_row-requires-clause-home g c =
    let old = chart (g.B.Board.state c.args.board.now) in
    held-home old.shape old.fields.places c.args.parts.now.frames.held c.args.frame c.home-home.result c.requires.ready.agrees.held c.home-home.ensures.value

pub returns-in_err-row-clause-put : goal.returns-in_err-row-clause-put
returns-in_err-row-clause-put g c =
    let old = chart (g.B.Board.state c.args.board.now) in
    let n = 4 * old.shape.rows in
    PutFirst-ended ℕ (n + 12) 6 (n + 13) 6 c.args.slot c.args.page old (chart (g.B.Board.state c.get_row.new.board)) (32 * c.args.page + c.args.i) c.args.w c.from_residual.result c.in_err-row.field-0.0 (row-less n) (le-same 6) c.get_row.ensures.same c.in_err-row.ensures.power c.from_residual.ensures.1

pub returns-in_err-row-clause-leaves : goal.returns-in_err-row-clause-leaves
returns-in_err-row-clause-leaves g c = c.get_row.ensures.leaves

pub returns-in_err-row-clause-puts : goal.returns-in_err-row-clause-puts
returns-in_err-row-clause-puts g c = err-if c.from_residual.result _ c.in_err-row.field-0.0 c.from_residual.ensures.1

pub returns-in_err-row-clause-frames : goal.returns-in_err-row-clause-frames
returns-in_err-row-clause-frames g c = c.get_row.ensures.keeps.frames

pub returns-in_err-row-clause-gives : goal.returns-in_err-row-clause-gives
returns-in_err-row-clause-gives g c = err-if c.from_residual.result _ c.in_err-row.field-0.0 c.from_residual.ensures.1

pub returns-in_err-row-clause-owners : goal.returns-in_err-row-clause-owners
returns-in_err-row-clause-owners g c =
    let old = chart (g.B.Board.state c.args.board.now) in
    KeepsOwners-same (4 * old.shape.rows + 12) 6 c.args.slot c.args.page old (chart (g.B.Board.state c.get_row.new.board)) c.args.owned.now c.requires.may c.get_row.ensures.same

pub returns-in_err-row-clause-power : goal.returns-in_err-row-clause-power
returns-in_err-row-clause-power g c = err-after ℕ c.from_residual.result (g.B.Board.state c.get_row.new.board).on c.in_err-row.field-0.0 c.in_err-row.ensures.power c.from_residual.ensures.1

pub returns-in_err-shadow-clause-puts : goal.returns-in_err-shadow-clause-puts
returns-in_err-shadow-clause-puts g c = err-if c.from_residual-in_err-shadow.result _ c.in_err-shadow.field-0.0 c.from_residual-in_err-shadow.ensures.1

pub returns-in_err-shadow-clause-frames : goal.returns-in_err-shadow-clause-frames
returns-in_err-shadow-clause-frames g c = ap (λ (z : Parts). z.frames) c.shadow.ensures.parts ∙ c.get_row.ensures.keeps.frames

pub returns-in_err-shadow-clause-gives : goal.returns-in_err-shadow-clause-gives
returns-in_err-shadow-clause-gives g c = err-if c.from_residual-in_err-shadow.result _ c.in_err-shadow.field-0.0 c.from_residual-in_err-shadow.ensures.1

pub returns-in_err-shadow-clause-owners : goal.returns-in_err-shadow-clause-owners
returns-in_err-shadow-clause-owners g c = c.shadow.ensures.owners

pub returns-in_err-shadow-clause-power : goal.returns-in_err-shadow-clause-power
returns-in_err-shadow-clause-power g c = err-after (Unit {0}) c.from_residual-in_err-shadow.result (g.B.Board.state c.shadow.new.board).on c.in_err-shadow.field-0.0 c.in_err-shadow.ensures.power c.from_residual-in_err-shadow.ensures.1

pub change_frame_word-requires-clause-sound : goal.change_frame_word-requires-clause-sound
change_frame_word-requires-clause-sound g c = SameWords.sound c.in_ok-shadow.ensures.shadows.0

pub change_frame_word-requires-clause-frame : goal.change_frame_word-requires-clause-frame
change_frame_word-requires-clause-frame g c =
    let mid = chart (g.B.Board.state c.get_row.new.board) in
    let here = (c.get_row.ensures.keeps.here c.in_ok-row.ensures.power c.args.page c.args.frame).1 c.requires.here in
    subst (λ (sh : Shape). c.args.frame < sh.frames) (sym (SameWords.shape c.in_ok-shadow.ensures.shadows.0)) (Places.frames (Sound.places (Stays.sound (Same.stays c.get_row.ensures.same))) c.args.page c.args.frame here)

pub change_frame_word-requires-clause-place : goal.change_frame_word-requires-clause-place
change_frame_word-requires-clause-place g c = c.requires.word

pub returns-in_err-change_frame_word-clause-puts : goal.returns-in_err-change_frame_word-clause-puts
returns-in_err-change_frame_word-clause-puts g c = off-if c.from_residual-in_err-change_frame_word.result _ c.from_residual-in_err-change_frame_word.ensures.1

pub returns-in_err-change_frame_word-clause-frames : goal.returns-in_err-change_frame_word-clause-frames
returns-in_err-change_frame_word-clause-frames g c = ap (λ (z : Parts). z.frames) c.shadow.ensures.parts ∙ c.get_row.ensures.keeps.frames

pub returns-in_err-change_frame_word-clause-gives : goal.returns-in_err-change_frame_word-clause-gives
returns-in_err-change_frame_word-clause-gives g c = off-if c.from_residual-in_err-change_frame_word.result _ c.from_residual-in_err-change_frame_word.ensures.1

pub returns-in_err-change_frame_word-clause-owners : goal.returns-in_err-change_frame_word-clause-owners
returns-in_err-change_frame_word-clause-owners g c =
    record { limit = c.shadow.ensures.owners.limit; agree = λ on. unpowered (g.B.Board.state c.change_frame_word.new.board).on c.in_err-change_frame_word.ensures.power on }

pub returns-in_err-change_frame_word-clause-stops : goal.returns-in_err-change_frame_word-clause-stops
returns-in_err-change_frame_word-clause-stops g c is = off-bad c.from_residual-in_err-change_frame_word.result c.from_residual-in_err-change_frame_word.ensures.1 is

pub returns-in_err-change_frame_word-clause-power : goal.returns-in_err-change_frame_word-clause-power
returns-in_err-change_frame_word-clause-power g c = off-after c.from_residual-in_err-change_frame_word.result (g.B.Board.state c.change_frame_word.new.board).on c.in_err-change_frame_word.ensures.power c.from_residual-in_err-change_frame_word.ensures.1

pub returns-clause-frames : goal.returns-clause-frames
returns-clause-frames g c = ap (λ (z : Parts). z.frames) c.shadow.ensures.parts ∙ c.get_row.ensures.keeps.frames

pub returns-clause-gives : goal.returns-clause-gives
returns-clause-gives g c = c.in_ok-shadow.ensures.marks.gives

pub returns-clause-stops : goal.returns-clause-stops
returns-clause-stops g c is = ok-bad tt is

pub returns-clause-power : goal.returns-clause-power
returns-clause-power g c = c.in_ok-change_frame_word.ensures.power
