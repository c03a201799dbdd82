use Rattle.std.proofs.Common.{◌∙◌, ◌+◌, ◌*◌, inl, inr, Err, refl, sym, ap}
use Rattle.envy_map.specs.Fields.{chart}
use Rattle.envy_engine.specs.Agreement.{Agrees, Steady}
use Rattle.envy_frames.proofs.Agreeing.{elsewhere-dropped}
use Rattle.envy_base.specs.declared.board.Trouble.{Trouble}
use Rattle.envy_base.specs.declared.shape.Shape.{Shape}
use Rattle.envy_soundness.proofs.Composition.{Same-refl}
use Rattle.envy_soundness.proofs.Sames.{same_within}
use Rattle.envy_engine.proofs.Leaving.{leaves_none}
use Rattle.envy_reloc.proofs.Exits.{err-if, err-after, err-bad, ok-bad}
use Rattle.envy_base.specs.Shape.{IsShape}
use Rattle.envy_base.specs.State.{IsBoard}
use Rattle.envy_frames.specs.Order.{IsOrder}
use Rattle.envy_soundness.specs.Same.{Same, Stays, Framed}
use Rattle.envy_engine.specs.Agreement.{Fits}
use Rattle.envy_engine.proofs.RoomAnswers.{held-some, room-made, room-left}
use Rattle.envy_engine.proofs.store.make_room.Goals as goal

pub returns-in_ok-flush_oldest-clause-elsewhere : goal.returns-in_ok-flush_oldest-clause-elsewhere
returns-in_ok-flush_oldest-clause-elsewhere g c p elsewhere k is =
    let old = chart (g.B.Board.state c.args.board.now) in
    let new = chart (g.B.Board.state c.flush_oldest.new.board) in
    let e = c.in_ok-flush_oldest.ensures in
    let now = Steady.agrees e.leaves.steady e.power in
    elsewhere-dropped old.shape new.shape old.fields.places new.fields.places c.args.parts.now.frames.held c.flush_oldest.new.parts.frames.held p (Agrees.held c.requires.ready.agrees) (Agrees.held now) e.flushes.held elsewhere k is

pub returns-in_err-flush_oldest-clause-same : goal.returns-in_err-flush_oldest-clause-same
returns-in_err-flush_oldest-clause-same g c = c.flush_oldest.ensures.same

pub returns-in_err-flush_oldest-clause-leaves : goal.returns-in_err-flush_oldest-clause-leaves
returns-in_err-flush_oldest-clause-leaves g c = c.flush_oldest.ensures.leaves

pub returns-in_err-flush_oldest-clause-room : goal.returns-in_err-flush_oldest-clause-room
returns-in_err-flush_oldest-clause-room g c = err-if c.from_residual.result _ c.in_err-flush_oldest.field-0.0 c.from_residual.ensures.1

pub returns-in_err-flush_oldest-clause-elsewhere : goal.returns-in_err-flush_oldest-clause-elsewhere
returns-in_err-flush_oldest-clause-elsewhere g c = err-if c.from_residual.result _ c.in_err-flush_oldest.field-0.0 c.from_residual.ensures.1

pub returns-in_err-flush_oldest-clause-makes : goal.returns-in_err-flush_oldest-clause-makes
returns-in_err-flush_oldest-clause-makes g c = err-if c.from_residual.result _ c.in_err-flush_oldest.field-0.0 c.from_residual.ensures.1

pub returns-in_err-flush_oldest-clause-stops : goal.returns-in_err-flush_oldest-clause-stops
returns-in_err-flush_oldest-clause-stops g c is = c.in_err-flush_oldest.ensures.stops (ap (λ (e : Trouble). Err e) (err-bad c.from_residual.result c.in_err-flush_oldest.field-0.0 c.from_residual.ensures.1 is))

pub returns-in_err-flush_oldest-clause-power : goal.returns-in_err-flush_oldest-clause-power
returns-in_err-flush_oldest-clause-power g c = err-after (Unit {0}) c.from_residual.result (g.B.Board.state c.flush_oldest.new.board).on c.in_err-flush_oldest.field-0.0 c.in_err-flush_oldest.ensures.power c.from_residual.ensures.1

pub returns-in_ok-flush_oldest-clause-same : goal.returns-in_ok-flush_oldest-clause-same
returns-in_ok-flush_oldest-clause-same g c = c.flush_oldest.ensures.same

pub returns-in_ok-flush_oldest-clause-leaves : goal.returns-in_ok-flush_oldest-clause-leaves
returns-in_ok-flush_oldest-clause-leaves g c = c.flush_oldest.ensures.leaves

pub returns-in_ok-flush_oldest-clause-stops : goal.returns-in_ok-flush_oldest-clause-stops
returns-in_ok-flush_oldest-clause-stops g c is = ok-bad tt is

pub returns-in_ok-flush_oldest-clause-power : goal.returns-in_ok-flush_oldest-clause-power
returns-in_ok-flush_oldest-clause-power g c = c.in_ok-flush_oldest.ensures.power

pub flush_oldest-requires-clause-ready : goal.flush_oldest-requires-clause-ready
flush_oldest-requires-clause-ready g c = c.requires.ready

pub returns-in_ok-flush_oldest-clause-makes : goal.returns-in_ok-flush_oldest-clause-makes
returns-in_ok-flush_oldest-clause-makes g c =
    let full = sym c.used.ensures.value ∙ c.if-used-shape.true ∙ ap (λ (sh : Shape). sh.frames) c.shape.ensures ∙ sym c.requires.ready.fits.frames in
    inr (full, c.in_ok-flush_oldest.ensures.flushes)

pub returns-else-used-shape-clause-same : goal.returns-else-used-shape-clause-same
returns-else-used-shape-clause-same g c =
    let old = chart (g.B.Board.state c.args.board.now) in
    same_within (4 * old.shape.rows + 13) 6 old old (Same-refl old c.requires.ready.sound)

pub returns-else-used-shape-clause-leaves : goal.returns-else-used-shape-clause-leaves
returns-else-used-shape-clause-leaves g c = leaves_none (chart (g.B.Board.state c.args.board.now)) c.args.parts.now c.requires.ready

pub returns-else-used-shape-clause-elsewhere : goal.returns-else-used-shape-clause-elsewhere
returns-else-used-shape-clause-elsewhere g c p is = is

pub returns-else-used-shape-clause-stops : goal.returns-else-used-shape-clause-stops
returns-else-used-shape-clause-stops g c is = ok-bad tt is

pub returns-else-used-shape-clause-power : goal.returns-else-used-shape-clause-power
returns-else-used-shape-clause-power g c = c.requires.ready.on

pub flush_oldest-requires-clause-some : goal.flush_oldest-requires-clause-some
flush_oldest-requires-clause-some g c =
    let full = sym c.used.ensures.value ∙ c.if-used-shape.true ∙ ap (λ (sh : Shape). sh.frames) c.shape.ensures in
    held-some c.args.parts.now.frames.held _ full (IsShape.frames (IsBoard.shape (g.met.B.Board.lawful c.args.board.now)))

pub returns-in_ok-flush_oldest-clause-room : goal.returns-in_ok-flush_oldest-clause-room
returns-in_ok-flush_oldest-clause-room g c =
    let full = sym c.used.ensures.value ∙ c.if-used-shape.true ∙ ap (λ (sh : Shape). sh.frames) c.shape.ensures in
    let e = c.in_ok-flush_oldest.ensures in
    room-made _ _ c.args.parts.now.frames.held c.flush_oldest.new.parts.frames.held full (IsShape.frames (IsBoard.shape (g.met.B.Board.lawful c.args.board.now))) e.flushes.held (Fits.frames (Steady.fits e.leaves.steady) ∙ ap (λ (sh : Shape). sh.frames) (Framed.shape (Stays.framed (Same.stays e.same))))

pub returns-else-used-shape-clause-room : goal.returns-else-used-shape-clause-room
returns-else-used-shape-clause-room g c =
    let frames = ap (λ (sh : Shape). sh.frames) c.shape.ensures in
    room-left _ _ _ (IsOrder.few c.used.ensures.whole) c.requires.ready.fits.frames (λ full. c.if-used-shape.false (c.used.ensures.value ∙ full ∙ sym frames))

pub returns-else-used-shape-clause-makes : goal.returns-else-used-shape-clause-makes
returns-else-used-shape-clause-makes g c =
    let frames = ap (λ (sh : Shape). sh.frames) c.shape.ensures in
    inl (room-left _ _ _ (IsOrder.few c.used.ensures.whole) c.requires.ready.fits.frames (λ full. c.if-used-shape.false (c.used.ensures.value ∙ full ∙ sym frames)), refl, refl)
