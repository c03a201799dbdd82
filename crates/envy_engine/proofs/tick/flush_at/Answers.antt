use Rattle.std.proofs.Common.{◌≡◌, ◌∙◌, ◌<◌, length, inl, None, Some, refl, sym, ap, subst}
use Rattle.std.specs.List.{filter}
use Rattle.envy_base.specs.declared.fields.Place.TheVariants.{Frame}
use Rattle.envy_frames.specs.Agreement.{AreHeld, IsHeld}
use Rattle.envy_frames.specs.Order.{is_other}
use Rattle.envy_frames.proofs.Agreeing.{oldest-held}
use Rattle.envy_frames.proofs.Rotation.{filter-oldest}
use Rattle.envy_map.specs.Fields.{Fields, Chart, chart, place}
use Rattle.envy_soundness.specs.Same.{Same, Stays, Framed, Counted}
use Rattle.envy_base.specs.Counting.{up}
use Rattle.envy_policy.specs.declared.choice.Choice.TheVariants.{Free}
use Rattle.envy_engine.specs.Agreement.{Steady}
use Rattle.envy_engine.specs.Flushing.{GetsRow}
use Rattle.std.proofs.lemmas.List.{get_or-set_same}
use Rattle.envy_base.specs.declared.fields.Place.TheVariants.{Row}
use Rattle.envy_soundness.specs.Sound.{Sound, Places}
use Rattle.envy_engine.specs.declared.parts.Parts.{Parts}
use Rattle.envy_engine.proofs.Leaving.{leaves_then}
use Rattle.envy_engine.proofs.FlushLemmas.{bad-rises, never-idle, on-ok, GetsRow-after}
use Rattle.envy_engine.proofs.tick.flush_at.Goals as goal
use Rattle.envy_soundness.proofs.Sames.{same_within, same_two as Same-two}
use Rattle.envy_reloc.proofs.Exits.{off-if, off-after, off-bad}
use Rattle.envy_engine.proofs.Bounds.{le-same}
use Rattle.envy_engine.proofs.TickAnswers.{free-idle}

pub flush_into-requires-clause-here : goal.flush_into-requires-clause-here
flush_into-requires-clause-here g c =
    let old = chart (g.B.Board.state c.args.board.now) in
    let held = (oldest-held old.shape old.fields.places c.args.parts.now.frames.held c.args.held c.requires.ready.agrees.held c.requires.oldest).0 in
    subst (λ (z : Chart). place z.fields c.args.held.page ≡ Some (Frame c.args.held.frame)) (sym c.in_ok-row.ensures.takes.changes.fields) (IsHeld.here held)

pub flush_into-requires-clause-ready : goal.flush_into-requires-clause-ready
flush_into-requires-clause-ready g c =
    let e = c.claim_at.ensures in
    let on = c.in_ok-row.ensures.power in
    record { on = on; sound = Stays.sound (Same.stays e.same); fits = Steady.fits e.leaves.steady; agrees = Steady.agrees e.leaves.steady on }

pub flush_into-requires-clause-page : goal.flush_into-requires-clause-page
flush_into-requires-clause-page g c =
    let old = chart (g.B.Board.state c.args.board.now) in
    let mid = chart (g.B.Board.state c.claim_at.new.board) in
    let before : mid.shape ≡ old.shape = ap (λ (w : Chart). w.shape) c.in_ok-row.ensures.takes.changes.fields in
    let own = (oldest-held old.shape old.fields.places c.args.parts.now.frames.held c.args.held c.requires.ready.agrees.held c.requires.oldest).0 in
    rw before (IsHeld.page own)

pub returns-clause-same : goal.returns-clause-same
returns-clause-same g c = Same-two 0 0 1 0 1 0 _ _ _ (le-same 1) (le-same 0) c.claim_at.ensures.same c.flush_into.ensures.same

pub returns-clause-does : goal.returns-clause-does
returns-clause-does g c =
    let old = chart (g.B.Board.state c.args.board.now) in
    let mid = chart (g.B.Board.state c.claim_at.new.board) in
    let new = chart (g.B.Board.state c.flush_into.new.board) in
    let x = c.args.parts.now in
    let y = c.claim_at.new.parts in
    let z = c.flush_into.new.parts in
    let e = c.in_ok-row.ensures in
    let f = c.flush_into.ensures in
    let k = c.args.position in
    let r = c.requires.ready in
    let w = e.takes in
    let gets : GetsRow c.args.held.home c.args.held.page c.in_ok-row.row old x mid y = record {
      chooses = λ idle none. (Free k, c.requires.chosen, w.claims);
      busy = λ some. absurd (never-idle _ _ some c.requires.rest.0 c.requires.rest.1);
      ends = (inl (ap (λ (z : Chart). z.fields.job) w.changes.fields), inl (ap (λ (z : Parts). z.stages) e.parts));
    } in
    let shape : new.shape ≡ mid.shape = Framed.shape (Stays.framed (Same.stays f.same)) in
    let before : mid.shape ≡ old.shape = ap (λ (z : Chart). z.shape) w.changes.fields in
    let own = (oldest-held old.shape old.fields.places x.frames.held c.args.held r.agrees.held c.requires.oldest).0 in
    let page : c.args.held.page < mid.shape.pages = rw before (IsHeld.page own) in
    let long : length mid.fields.places ≡ mid.shape.pages = Places.long (Sound.places (Stays.sound (Same.stays c.claim_at.ensures.same))) in
    on-ok c.flush_into.result _ _
    (λ m. (
      refl,
      record {
        oldest = c.args.held;
        first = c.requires.oldest;
        row = c.in_ok-row.row;
        gets = GetsRow-after c.args.held.home c.args.held.page c.in_ok-row.row old x mid y new z shape (ap (λ (w : Fields). w.job) m.fields) (ap (λ (w : Fields). w.fills) m.fields) (ap (λ (w : Fields). w.positions) m.fields) m.erases (ap (λ (w : Parts). w.chooser) f.parts) (ap (λ (w : Parts). w.reloc) f.parts) (ap (λ (w : Parts). w.stages) f.parts) gets;
        here = ap (λ (w : Fields). place w c.args.held.page) m.fields ∙ get_or-set_same mid.fields.places c.args.held.page (Some (Row c.in_ok-row.row)) None (rw long page);
        held = m.held ∙ ap (λ (w : Parts). filter (is_other c.args.held.frame) w.frames.held) e.parts ∙ filter-oldest x.frames.held c.args.held c.requires.oldest (AreHeld.apart r.agrees.held);
        flushes = ap (λ (w : Parts). w.flushes) f.parts ∙ ap (λ (w : Parts). up w.flushes) e.parts;
      },
      record {
        copied = ap (λ (w : Parts). w.reloc.copied) f.parts ∙ ap (λ (w : Parts). w.reloc.copied) e.parts;
        moved = ap (λ (w : Parts). w.reloc.moved) f.parts ∙ ap (λ (w : Parts). w.reloc.moved) e.parts;
        erased = ap (λ (w : Parts). w.reloc.erased) f.parts ∙ ap (λ (w : Parts). w.reloc.erased) e.parts;
      },
      ap (λ (w : Parts). w.swaps) f.parts ∙ ap (λ (w : Parts). w.swaps) e.parts,
    ))
    f.moves

pub returns-clause-leaves : goal.returns-clause-leaves
returns-clause-leaves g c = leaves_then _ (chart (g.B.Board.state c.claim_at.new.board)) _ _ c.claim_at.new.parts _ c.claim_at.ensures.leaves c.flush_into.ensures.leaves

pub returns-clause-stops : goal.returns-clause-stops
returns-clause-stops g c is =
    let e = c.in_ok-row.ensures in
    let w = e.takes in
    let f = c.flush_into.ensures in
    let s = f.stops is in
    let rise = Counted.bads (Stays.counted (Same.stays c.claim_at.ensures.same)) in (
      record {
        oldest = c.args.held;
        first = c.requires.oldest;
        position = c.args.position;
        chosen = c.requires.chosen;
        fills = ap (λ (z : Fields). z.fills) s.fields ∙ w.claims.1;
        places = ap (λ (z : Fields). z.places) s.fields ∙ ap (λ (z : Chart). z.fields.places) w.changes.fields;
        job = ap (λ (z : Fields). z.job) s.fields ∙ ap (λ (z : Chart). z.fields.job) w.changes.fields;
        chooser = ap (λ (z : Parts). z.chooser) f.parts ∙ w.claims.4;
        flushes = ap (λ (z : Parts). z.flushes) f.parts ∙ ap (λ (z : Parts). up z.flushes) e.parts;
        frames = s.frames ∙ ap (λ (z : Parts). z.frames) e.parts;
        stages = ap (λ (z : Parts). z.stages) f.parts ∙ ap (λ (z : Parts). z.stages) e.parts;
        swaps = ap (λ (z : Parts). z.swaps) f.parts ∙ ap (λ (z : Parts). z.swaps) e.parts;
        none = record {
          copied = ap (λ (z : Parts). z.reloc.copied) f.parts ∙ ap (λ (z : Parts). z.reloc.copied) e.parts;
          moved = ap (λ (z : Parts). z.reloc.moved) f.parts ∙ ap (λ (z : Parts). z.reloc.moved) e.parts;
          erased = ap (λ (z : Parts). z.reloc.erased) f.parts ∙ ap (λ (z : Parts). z.reloc.erased) e.parts;
        };
      },
      λ low. rw s.bads (bad-rises _ _ rise low),
    )

pub claim_at-requires-clause-ready : goal.claim_at-requires-clause-ready
claim_at-requires-clause-ready g c = c.requires.ready

pub claim_at-requires-clause-position : goal.claim_at-requires-clause-position
claim_at-requires-clause-position g c = c.requires.position

pub claim_at-requires-clause-page : goal.claim_at-requires-clause-page
claim_at-requires-clause-page g c =
    let old = chart (g.B.Board.state c.args.board.now) in
    IsHeld.page (oldest-held old.shape old.fields.places c.args.parts.now.frames.held c.args.held c.requires.ready.agrees.held c.requires.oldest).0

pub claim_at-requires-clause-room : goal.claim_at-requires-clause-room
claim_at-requires-clause-room g c = c.requires.room

pub claim_at-requires-clause-free : goal.claim_at-requires-clause-free
claim_at-requires-clause-free g c = free-idle (chart (g.B.Board.state c.args.board.now)).fields.job _ c.requires.rest.0

pub flush_into-requires-clause-fresh : goal.flush_into-requires-clause-fresh
flush_into-requires-clause-fresh g c = c.in_ok-row.ensures.takes.fresh

pub returns-in_err-row-clause-same : goal.returns-in_err-row-clause-same
returns-in_err-row-clause-same g c = same_within 1 0 (chart (g.B.Board.state c.args.board.now)) (chart (g.B.Board.state c.claim_at.new.board)) c.claim_at.ensures.same

pub returns-in_err-row-clause-leaves : goal.returns-in_err-row-clause-leaves
returns-in_err-row-clause-leaves g c = c.claim_at.ensures.leaves

pub returns-in_err-row-clause-does : goal.returns-in_err-row-clause-does
returns-in_err-row-clause-does g c = off-if c.from_residual.result _ c.from_residual.ensures.1

pub returns-in_err-row-clause-stops : goal.returns-in_err-row-clause-stops
returns-in_err-row-clause-stops g c is = off-bad c.from_residual.result c.from_residual.ensures.1 is

pub returns-in_err-row-clause-stages : goal.returns-in_err-row-clause-stages
returns-in_err-row-clause-stages g c = ap (λ (z : Parts). z.stages) c.claim_at.ensures.parts

pub returns-in_err-row-clause-power : goal.returns-in_err-row-clause-power
returns-in_err-row-clause-power g c = off-after c.from_residual.result (g.B.Board.state c.claim_at.new.board).on c.in_err-row.ensures.power c.from_residual.ensures.1

pub returns-clause-stages : goal.returns-clause-stages
returns-clause-stages g c = ap (λ (z : Parts). z.stages) c.flush_into.ensures.parts ∙ ap (λ (z : Parts). z.stages) c.claim_at.ensures.parts

pub returns-clause-power : goal.returns-clause-power
returns-clause-power g c = c.flush_into.ensures.power
