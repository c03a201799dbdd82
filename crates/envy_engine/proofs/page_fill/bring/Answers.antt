use Rattle.std.proofs.Common.{◌≡◌, ◌∙◌, ◌<◌, length, ap, subst, ◌+◌, ◌*◌, true, false, sym}
use Rattle.envy_map.specs.Fields.{Chart, chart, undo}
use Rattle.envy_soundness.specs.Same.{Same, Stays, Framed}
use Rattle.envy_engine.proofs.Leaving.{leaves_off, if_powered}
use Rattle.envy_engine.specs.declared.parts.Parts.{Parts}
use Rattle.envy_table.proofs.HitLemmas.{Rests-same}
use Rattle.envy_table.specs.Hits.{Rests}
use Rattle.envy_engine.proofs.CountLemmas.{Counting-still, Counting-trans}
use Rattle.envy_engine.proofs.AgreeLemmas.{Fits-moved, sizes_of}
use Rattle.envy_engine.proofs.NearLemmas.{Near-filled, Brings-moved}
use Rattle.envy_soundness.specs.Sound.{Sound, Places, owned_by}
use Rattle.envy_engine.proofs.FlushLemmas.{on-ok}
use Rattle.envy_reloc.proofs.Exits.{unpowered, none-if, none-power}
use Rattle.envy_engine.proofs.StoreLemmas.{Interrupted-same, Dropped-same}
use Rattle.envy_engine.proofs.BringAnswers.{stored-filled, shadowed-filled, match-failed, parts-filled, parts-brought}
use Rattle.envy_soundness.proofs.Composition.{Counted-trans}
use Rattle.envy_engine.proofs.page_fill.bring.Goals as goal

pub move_in-requires-clause-near : goal.move_in-requires-clause-near
move_in-requires-clause-near g c =
    let old = chart (g.B.Board.state c.args.board.now) in
    let new = chart (g.B.Board.state c.fill_frame.new.board) in
    let e = c.in_ok-frame.ensures in
    let from = c.in_ok-from.ensures.value.1 in
    Near-filled old new c.args.parts.now c.fill_frame.new.parts c.args.page c.in_ok-frame.frame e.fills.home c.in_ok-from.from e.fills.words c.requires.ready e.power (Stays.sound (Same.stays e.same)) e.fills.fields c.requires.page e.fills.range e.fills.within from (λ k is. c.requires.elsewhere k (from ∙ is)) e.fills.unnamed e.fills.unheld e.fills.held e.count e.parts

pub returns-clause-brings : goal.returns-clause-brings
returns-clause-brings g c =
    let old = chart (g.B.Board.state c.args.board.now) in
    let mid = chart (g.B.Board.state c.fill_frame.new.board) in
    let new = chart (g.B.Board.state c.move_in.new.board) in
    let e = c.in_ok-frame.ensures in
    let from = c.in_ok-from.ensures.value.1 in
    let long : length old.fields.places ≡ old.shape.pages = Places.long (Sound.places c.requires.ready.sound) in
    let page : c.args.page < length old.fields.places = rw long c.requires.page in
    on-ok c.move_in.result _ _
    (λ fields. Brings-moved old mid new c.args.parts.now c.fill_frame.new.parts c.move_in.new.parts c.args.page c.in_ok-frame.frame e.fills.home c.in_ok-from.from e.fills.words from e.fills.unheld e.fills.homed e.fills.held e.fills.fields page fields e.parts c.move_in.ensures.parts)
    c.move_in.ensures.fields

pub move_in-requires-clause-copy : goal.move_in-requires-clause-copy
move_in-requires-clause-copy g c = c.in_ok-frame.ensures.fills.copy

pub returns-in_err-frame-clause-leaves : goal.returns-in_err-frame-clause-leaves
returns-in_err-frame-clause-leaves g c =
    let old = chart (g.B.Board.state c.args.board.now) in
    let new = chart (g.B.Board.state c.fill_frame.new.board) in
    let x = c.args.parts.now in
    let e = c.fill_frame.ensures in
    let s = Same.stays e.same in
    leaves_off old new x c.fill_frame.new.parts
    (Fits-moved old.shape new.shape x c.fill_frame.new.parts (Framed.shape (Stays.framed s)) c.requires.ready.fits (ap (λ (z : Parts). z.space.shape) e.parts) e.count (ap (λ (z : Parts). length z.cache.entries) e.parts) (ap (λ (z : Parts). sizes_of z.chooser) e.parts) (ap (λ (z : Parts). z.stages) e.parts))
    (Stays.counted s) c.in_err-frame.ensures.power (ap (λ (z : Parts). z.flushes) e.parts) (ap (λ (z : Parts). z.swaps) e.parts) (ap (λ (z : Parts). z.reloc) e.parts) (Rests-same x.cache c.fill_frame.new.parts.cache (ap (λ (z : Parts). z.cache) e.parts))

pub returns-clause-leaves : goal.returns-clause-leaves
returns-clause-leaves g c =
    let old = chart (g.B.Board.state c.args.board.now) in
    let mid = chart (g.B.Board.state c.fill_frame.new.board) in
    let new = chart (g.B.Board.state c.move_in.new.board) in
    let x = c.args.parts.now in
    let y = c.fill_frame.new.parts in
    let z = c.move_in.new.parts in
    let e = c.fill_frame.ensures in
    let filled = Counting-still old mid x y (Stays.counted (Same.stays e.same)) (ap (λ (v : Parts). v.flushes) e.parts) (ap (λ (v : Parts). v.swaps) e.parts) (ap (λ (v : Parts). v.reloc) e.parts) (λ on. ap (λ (w : Chart). w.fields.wears) c.in_ok-frame.ensures.fills.fields) in
    let m = c.move_in.ensures in
    record {
      steady = m.steady;
      counting = Counting-trans old mid new x y z filled
          (Counting-still mid new y z m.counted (ap (λ (v : Parts). v.flushes) m.parts) (ap (λ (v : Parts). v.swaps) m.parts) (ap (λ (v : Parts). v.reloc) m.parts) (if_powered c.move_in.result _ _ (on-ok c.move_in.result _ _ (λ f. ap (λ (w : Chart). w.fields.wears) f) m.fields) m.power));
      rests = subst (λ (v : Parts). Rests v.cache z.cache) e.parts m.rests;
    }

pub place-requires-clause-page : goal.place-requires-clause-page
place-requires-clause-page g c = c.requires.page

pub place-requires-clause-decodes : goal.place-requires-clause-decodes
place-requires-clause-decodes g c = Places.decode (Sound.places c.requires.ready.sound) c.args.page c.requires.page

pub returns-in_err-from : goal.returns-in_err-from
returns-in_err-from g c = unpowered (g.B.Board.state c.args.board.now).on c.in_err-from.ensures.value c.requires.ready.on

pub fill_frame-requires-clause-ready : goal.fill_frame-requires-clause-ready
fill_frame-requires-clause-ready g c = c.requires.ready

pub fill_frame-requires-clause-page : goal.fill_frame-requires-clause-page
fill_frame-requires-clause-page g c = c.requires.page

pub fill_frame-requires-clause-word : goal.fill_frame-requires-clause-word
fill_frame-requires-clause-word g c = c.requires.word

pub fill_frame-requires-clause-room : goal.fill_frame-requires-clause-room
fill_frame-requires-clause-room g c = c.requires.room

pub fill_frame-requires-clause-here : goal.fill_frame-requires-clause-here
fill_frame-requires-clause-here g c = c.in_ok-from.ensures.value.1

pub fill_frame-requires-clause-elsewhere : goal.fill_frame-requires-clause-elsewhere
fill_frame-requires-clause-elsewhere g c k is = c.requires.elsewhere k (c.in_ok-from.ensures.value.1 ∙ is)

pub returns-in_err-frame-clause-free : goal.returns-in_err-frame-clause-free
returns-in_err-frame-clause-free g c free = match-failed c.from_residual-in_err-frame.result _ _ _ c.from_residual-in_err-frame.ensures.1 (Interrupted-same 0 0 (chart (g.B.Board.state c.args.board.now)) (chart (g.B.Board.state c.fill_frame.new.board)) (32 * c.args.page + c.args.i) c.args.w c.in_err-frame.ensures.power c.fill_frame.ensures.same)

pub returns-in_err-frame-clause-owned : goal.returns-in_err-frame-clause-owned
returns-in_err-frame-clause-owned g c owned = match-failed c.from_residual-in_err-frame.result _ _ _ c.from_residual-in_err-frame.ensures.1 (Dropped-same 0 0 (chart (g.B.Board.state c.args.board.now)) (chart (g.B.Board.state c.fill_frame.new.board)) c.in_err-frame.ensures.power c.fill_frame.ensures.same)

pub returns-in_err-frame-clause-counted : goal.returns-in_err-frame-clause-counted
returns-in_err-frame-clause-counted g c = Stays.counted (Same.stays c.fill_frame.ensures.same)

pub returns-in_err-frame-clause-brings : goal.returns-in_err-frame-clause-brings
returns-in_err-frame-clause-brings g c = none-if c.from_residual-in_err-frame.result _ _ c.from_residual-in_err-frame.ensures.1

pub returns-in_err-frame-clause-parts : goal.returns-in_err-frame-clause-parts
returns-in_err-frame-clause-parts g c = parts-filled c.args.parts.now c.fill_frame.new.parts c.fill_frame.ensures.parts

pub returns-in_err-frame-clause-power : goal.returns-in_err-frame-clause-power
returns-in_err-frame-clause-power g c = none-power c.from_residual-in_err-frame.result _ (g.B.Board.state c.fill_frame.new.board).on c.in_err-frame.ensures.power c.from_residual-in_err-frame.ensures.1

pub move_in-requires-clause-word : goal.move_in-requires-clause-word
move_in-requires-clause-word g c = c.requires.word

pub returns-clause-free : goal.returns-clause-free
returns-clause-free g c free =
    let old = (chart (g.B.Board.state c.args.board.now)) in
    let mid = (chart (g.B.Board.state c.fill_frame.new.board)) in
    let new = (chart (g.B.Board.state c.move_in.new.board)) in
    stored-filled old mid new (32 * c.args.page + c.args.i) c.args.w c.move_in.result c.fill_frame.ensures.same
    (c.move_in.ensures.free (subst (λ (z : Chart). owned_by z.fields.slots (undo z.fields c.args.page) ≡ false) (sym c.in_ok-frame.ensures.fills.fields) free))

pub returns-clause-owned : goal.returns-clause-owned
returns-clause-owned g c owned =
    let old = (chart (g.B.Board.state c.args.board.now)) in
    let mid = (chart (g.B.Board.state c.fill_frame.new.board)) in
    let new = (chart (g.B.Board.state c.move_in.new.board)) in
    shadowed-filled old mid new (32 * c.args.page + c.args.i) c.args.w c.move_in.result c.fill_frame.ensures.same
    (c.move_in.ensures.owned (subst (λ (z : Chart). owned_by z.fields.slots (undo z.fields c.args.page) ≡ true) (sym c.in_ok-frame.ensures.fills.fields) owned))

pub returns-clause-counted : goal.returns-clause-counted
returns-clause-counted g c = Counted-trans 0 0 0 0 (chart (g.B.Board.state c.args.board.now)) (chart (g.B.Board.state c.fill_frame.new.board)) (chart (g.B.Board.state c.move_in.new.board)) (Stays.counted (Same.stays c.fill_frame.ensures.same)) c.move_in.ensures.counted

pub returns-clause-parts : goal.returns-clause-parts
returns-clause-parts g c = parts-brought c.args.parts.now c.fill_frame.new.parts c.move_in.new.parts c.fill_frame.ensures.parts c.move_in.ensures.parts

pub returns-clause-power : goal.returns-clause-power
returns-clause-power g c = c.move_in.ensures.power
