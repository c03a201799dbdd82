use Rattle.std.proofs.Common.{◌≡◌, ◌∙◌, ◌+◌, ◌*◌, ◌<◌, length, refl, ap, subst}
use Rattle.envy_map.specs.Fields.{Chart, chart}
use Rattle.envy_soundness.specs.Same.{Same, Stays, Framed}
use Rattle.envy_soundness.specs.Sound.{Sound, Places, Slots}
use Rattle.envy_engine.proofs.Leaving.{leaves_off}
use Rattle.envy_engine.specs.declared.parts.Parts.{Parts}
use Rattle.envy_table.proofs.HitLemmas.{Rests-same}
use Rattle.envy_table.specs.Hits.{Rests}
use Rattle.envy_engine.proofs.CountLemmas.{Counting-still, Counting-trans}
use Rattle.envy_engine.proofs.AgreeLemmas.{Fits-moved, sizes_of}
use Rattle.envy_engine.proofs.FlushLemmas.{on-ok, on-two}
use Rattle.envy_engine.proofs.NearLemmas.{Near-filled, Brings-shaded}
use Rattle.std.proofs.lemmas.Result.{on_err_weaker}
use Rattle.envy_soundness.proofs.Composition.{SameDurable-same, SameDurable-trans}
use Rattle.envy_engine.proofs.PutLemmas.{MayGive-framed, PutDone-after}
use Rattle.envy_reloc.proofs.Exits.{unpowered, none-if, none-err, none-power}
use Rattle.envy_engine.proofs.Bounds.{le-same}
use Rattle.envy_engine.proofs.ShadeAnswers.{KeepsOwners-same, parts-filled}
use Rattle.envy_engine.proofs.first_put.bring_shaded.Goals as goal

pub shade_in-requires-clause-near : goal.shade_in-requires-clause-near
shade_in-requires-clause-near g c =
    let old = chart (g.B.Board.state c.args.board.now) in
    let new = chart (g.B.Board.state c.fill_frame.new.board) in
    let e = c.in_ok-frame.ensures in
    let from = c.in_ok-from.ensures.value.1 in
    Near-filled old new c.args.parts.now c.fill_frame.new.parts c.args.page c.in_ok-frame.frame e.fills.home c.in_ok-from.from e.fills.words c.requires.ready e.power (Stays.sound (Same.stays e.same)) e.fills.fields c.requires.may.page e.fills.range e.fills.within from (λ k is. c.requires.elsewhere k (from ∙ is)) e.fills.unnamed e.fills.unheld e.fills.held e.count e.parts

pub returns-clause-brings : goal.returns-clause-brings
returns-clause-brings g c =
    let old = chart (g.B.Board.state c.args.board.now) in
    let mid = chart (g.B.Board.state c.fill_frame.new.board) in
    let new = chart (g.B.Board.state c.shade_in.new.board) in
    let e = c.in_ok-frame.ensures in
    let from = c.in_ok-from.ensures.value.1 in
    let long : length old.fields.places ≡ old.shape.pages = Places.long (Sound.places c.requires.ready.sound) in
    let many : length old.fields.undos ≡ old.shape.pages = Slots.undos_long (Sound.slots c.requires.ready.sound) in
    let page : c.args.page < length old.fields.places = rw long c.requires.may.page in
    let undo : c.args.page < length old.fields.undos = rw many c.requires.may.page in
    on-two c.shade_in.result _ _ _
    (λ fields gives. let b = Brings-shaded old mid new c.args.parts.now c.fill_frame.new.parts c.shade_in.new.parts c.args.page c.in_ok-frame.frame e.fills.home c.args.slot c.in_ok-from.from e.fills.words from e.fills.unheld e.fills.homed e.fills.held e.fills.fields page undo fields e.parts c.shade_in.ensures.parts in (b.0, b.1, gives))
    c.shade_in.ensures.fields c.shade_in.ensures.gives

pub shade_in-requires-clause-copy : goal.shade_in-requires-clause-copy
shade_in-requires-clause-copy g c = c.in_ok-frame.ensures.fills.copy

pub returns-in_err-from : goal.returns-in_err-from
returns-in_err-from g c = unpowered (g.B.Board.state c.args.board.now).on c.in_err-from.ensures.value c.requires.ready.on

pub returns-in_err-frame-clause-leaves : goal.returns-in_err-frame-clause-leaves
returns-in_err-frame-clause-leaves g c =
    let old = chart (g.B.Board.state c.args.board.now) in
    let new = chart (g.B.Board.state c.fill_frame.new.board) in
    let x = c.args.parts.now in
    let e = c.fill_frame.ensures in
    let s = Same.stays e.same in
    leaves_off old new x c.fill_frame.new.parts
    (Fits-moved old.shape new.shape x c.fill_frame.new.parts (Framed.shape (Stays.framed s)) c.requires.ready.fits (ap (λ (z : Parts). z.space.shape) e.parts) e.count (ap (λ (z : Parts). length z.cache.entries) e.parts) (ap (λ (z : Parts). sizes_of z.chooser) e.parts) (ap (λ (z : Parts). z.stages) e.parts))
    (Stays.counted s) c.in_err-frame.ensures.power (ap (λ (z : Parts). z.flushes) e.parts) (ap (λ (z : Parts). z.swaps) e.parts) (ap (λ (z : Parts). z.reloc) e.parts) (Rests-same x.cache c.fill_frame.new.parts.cache (ap (λ (z : Parts). z.cache) e.parts))

pub returns-clause-leaves : goal.returns-clause-leaves
returns-clause-leaves g c =
    let old = chart (g.B.Board.state c.args.board.now) in
    let mid = chart (g.B.Board.state c.fill_frame.new.board) in
    let new = chart (g.B.Board.state c.shade_in.new.board) in
    let x = c.args.parts.now in
    let y = c.fill_frame.new.parts in
    let z = c.shade_in.new.parts in
    let e = c.fill_frame.ensures in
    let filled = Counting-still old mid x y (Stays.counted (Same.stays e.same)) (ap (λ (v : Parts). v.flushes) e.parts) (ap (λ (v : Parts). v.swaps) e.parts) (ap (λ (v : Parts). v.reloc) e.parts) (λ on. ap (λ (w : Chart). w.fields.wears) c.in_ok-frame.ensures.fills.fields) in
    let s = c.shade_in.ensures.leaves in
    record { steady = s.steady; counting = Counting-trans old mid new x y z filled s.counting; rests = subst (λ (v : Parts). Rests v.cache z.cache) e.parts s.rests }

pub place-requires-clause-page : goal.place-requires-clause-page
place-requires-clause-page g c = c.requires.may.page

pub place-requires-clause-decodes : goal.place-requires-clause-decodes
place-requires-clause-decodes g c = Places.decode (Sound.places c.requires.ready.sound) c.args.page c.requires.may.page

pub fill_frame-requires : goal.fill_frame-requires
fill_frame-requires g c =
    let from = c.in_ok-from.ensures.value.1 in
    record { ready = c.requires.ready; page = c.requires.may.page; word = c.requires.word; room = c.requires.room; here = from; elsewhere = λ k is. c.requires.elsewhere k (from ∙ is) }

pub shade_in-requires-clause-may : goal.shade_in-requires-clause-may
shade_in-requires-clause-may g c = MayGive-framed c.args.slot c.args.page _ _ c.args.owned.now (Stays.framed (Same.stays c.fill_frame.ensures.same)) c.requires.may

pub shade_in-requires-clause-word : goal.shade_in-requires-clause-word
shade_in-requires-clause-word g c = c.requires.word

pub returns-in_err-frame-clause-done : goal.returns-in_err-frame-clause-done
returns-in_err-frame-clause-done g c = none-if c.from_residual-in_err-frame.result _ _ c.from_residual-in_err-frame.ensures.1

pub returns-in_err-frame-clause-durable : goal.returns-in_err-frame-clause-durable
returns-in_err-frame-clause-durable g c =
    none-err c.from_residual-in_err-frame.result _ _ (SameDurable-same 0 0 (chart (g.B.Board.state c.args.board.now)) (chart (g.B.Board.state c.fill_frame.new.board)) c.fill_frame.ensures.same) c.from_residual-in_err-frame.ensures.1

pub returns-in_err-frame-clause-brings : goal.returns-in_err-frame-clause-brings
returns-in_err-frame-clause-brings g c = none-if c.from_residual-in_err-frame.result _ _ c.from_residual-in_err-frame.ensures.1

pub returns-in_err-frame-clause-owners : goal.returns-in_err-frame-clause-owners
returns-in_err-frame-clause-owners g c =
    KeepsOwners-same 0 0 c.args.slot c.args.page (chart (g.B.Board.state c.args.board.now)) (chart (g.B.Board.state c.fill_frame.new.board)) c.args.owned.now c.requires.may c.fill_frame.ensures.same

pub returns-in_err-frame-clause-parts : goal.returns-in_err-frame-clause-parts
returns-in_err-frame-clause-parts g c = parts-filled c.args.parts.now c.fill_frame.new.parts c.fill_frame.new.parts c.fill_frame.ensures.parts refl

pub returns-in_err-frame-clause-power : goal.returns-in_err-frame-clause-power
returns-in_err-frame-clause-power g c = none-power c.from_residual-in_err-frame.result _ (g.B.Board.state c.fill_frame.new.board).on c.in_err-frame.ensures.power c.from_residual-in_err-frame.ensures.1

pub returns-clause-done : goal.returns-clause-done
returns-clause-done g c =
    let old = chart (g.B.Board.state c.args.board.now) in
    let mid = chart (g.B.Board.state c.fill_frame.new.board) in
    let new = chart (g.B.Board.state c.shade_in.new.board) in
    on-ok c.shade_in.result _ _ (λ d. PutDone-after 0 0 0 0 c.args.slot c.args.page old mid new (32 * c.args.page + c.args.i) c.args.w (le-same 0) (le-same 0) c.fill_frame.ensures.same d) c.shade_in.ensures.done

pub returns-clause-durable : goal.returns-clause-durable
returns-clause-durable g c =
    let old = chart (g.B.Board.state c.args.board.now) in
    let mid = chart (g.B.Board.state c.fill_frame.new.board) in
    let new = chart (g.B.Board.state c.shade_in.new.board) in
    on_err_weaker c.shade_in.result (λ d. SameDurable-trans 0 0 0 0 old mid new (SameDurable-same 0 0 old mid c.fill_frame.ensures.same) d) c.shade_in.ensures.durable

pub returns-clause-owners : goal.returns-clause-owners
returns-clause-owners g c = c.shade_in.ensures.owners

pub returns-clause-parts : goal.returns-clause-parts
returns-clause-parts g c = parts-filled c.args.parts.now c.fill_frame.new.parts c.shade_in.new.parts c.fill_frame.ensures.parts c.shade_in.ensures.parts

pub returns-clause-power : goal.returns-clause-power
returns-clause-power g c = c.shade_in.ensures.power
