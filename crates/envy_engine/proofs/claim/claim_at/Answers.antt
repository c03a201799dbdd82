use Rattle.std.proofs.Common.{◌≡◌, ◌<◌, ◌+◌, inl, refl, sym, ap, subst, ◌∙◌, List, ℕ, get_or, set, ◌-◌, arith}
use Rattle.envy_map.specs.Fields.{Chart, chart}
use Rattle.envy_soundness.specs.Same.{Same, Stays, Framed}
use Rattle.envy_soundness.specs.Sound.{IsPlaced}
use Rattle.envy_reloc.specs.Plan.{IsFreeOf}
use Rattle.envy_space.specs.Pool.{Claims}
use Rattle.envy_table.proofs.HitLemmas.{Rests-refl}
use Rattle.envy_engine.proofs.Leaving.{leaves_off}
use Rattle.envy_engine.proofs.CountLemmas.{Counting-still}
use Rattle.envy_engine.proofs.AgreeLemmas.{Agrees-claimed, Granted-claimed, IsLastAt-claimed, Fits-moved, claimed-sizes, sizes_of}
use Rattle.envy_base.specs.declared.shape.Shape.{Shape}
use Rattle.envy_reloc.proofs.Exits.{none-if, none-power}
use Rattle.envy_engine.proofs.claim.claim_at.Goals as goal
use Rattle.envy_base.specs.Shape.{positions_of}

pub returns-clause-leaves : goal.returns-clause-leaves
returns-clause-leaves g c =
    let old = chart (g.B.Board.state c.args.board.now) in
    let new = chart (g.B.Board.state c.claim.new.board) in
    let r = c.requires.ready in
    let e = c.in_ok-row.ensures in
    let shape : new.shape ≡ old.shape = ap (λ (z : Chart). z.shape) e.claims.claims.fields in
    let placed : IsPlaced old.shape old.fields.positions c.segment_at.result = (c.args.position, c.requires.position, ap (λ (xs : List ℕ). get_or xs c.args.position 0) (sym r.agrees.pool.positions) ∙ sym c.segment_at.ensures.segment) in
    let free : IsFreeOf old.fields.job c.segment_at.result = subst (λ (s : ℕ). IsFreeOf old.fields.job s) (sym c.segment_at.ensures.segment) c.requires.free in
    let chooser = ap sizes_of c.note_claim.ensures ∙ claimed-sizes c.args.parts.now.chooser c.args.position c.args.page in
    record {
      steady = record {
        fits = Fits-moved old.shape new.shape c.args.parts.now _ shape r.fits e.shape refl refl chooser refl;
        agrees = λ on. Agrees-claimed old new c.args.parts.now _ c.segment_at.result c.in_ok-row.row c.args.page r.sound r.agrees placed free e.claims.claims e.claims.claimed (e.agrees on) refl refl refl;
      };
      counting = Counting-still old new c.args.parts.now _ (Stays.counted (Same.stays (e.same r.sound))) refl refl refl (λ on. ap (λ (z : Chart). z.fields.wears) e.claims.claims.fields);
      rests = Rests-refl c.args.parts.now.cache;
    }

pub returns-in_err-row-clause-leaves : goal.returns-in_err-row-clause-leaves
returns-in_err-row-clause-leaves g c =
    let old = chart (g.B.Board.state c.args.board.now) in
    let new = chart (g.B.Board.state c.claim.new.board) in
    let r = c.requires.ready in
    let e = c.claim.ensures in
    let s = Same.stays (e.same r.sound) in
    leaves_off old new c.args.parts.now _ (Fits-moved old.shape new.shape c.args.parts.now _ (Framed.shape (Stays.framed s)) r.fits e.shape refl refl refl refl) (Stays.counted s) c.in_err-row.ensures.power refl refl refl (Rests-refl c.args.parts.now.cache)

pub returns-clause-takes : goal.returns-clause-takes
returns-clause-takes g c =
    let old = chart (g.B.Board.state c.args.board.now) in
    let new = chart (g.B.Board.state c.claim.new.board) in
    let r = c.requires.ready in
    let e = c.in_ok-row.ensures in
    let pool = c.args.parts.now.space in
    let k = c.args.position in
    let s = get_or pool.positions k 0 in
    let order : s ≡ get_or old.fields.positions k 0 = ap (λ (xs : List ℕ). get_or xs k 0) r.agrees.pool.positions in
    let placed : IsPlaced old.shape old.fields.positions c.segment_at.result = (k, c.requires.position, sym order ∙ sym c.segment_at.ensures.segment) in
    let free : IsFreeOf old.fields.job c.segment_at.result = subst (λ (s : ℕ). IsFreeOf old.fields.job s) (sym c.segment_at.ensures.segment) c.requires.free in
    let room : get_or old.fields.fills s 0 < old.shape.rows = subst (λ (xs : List ℕ). get_or xs s 0 < old.shape.rows) r.agrees.pool.fills c.requires.room in
    let changes = subst (λ (n : ℕ). Claims old n c.args.page c.in_ok-row.row new) c.segment_at.ensures.segment e.claims.claims in
    record {
      changes = changes;
      claims = (
        IsLastAt-claimed old new pool k c.in_ok-row.row c.args.page r.sound r.agrees.pool c.requires.position room changes,
        subst (λ (n : ℕ). new.fields.fills ≡ set old.fields.fills n (get_or old.fields.fills n 0 + 1)) order (ap (λ (w : Chart). w.fields.fills) changes.fields),
        ap (λ (w : Chart). w.fields.positions) changes.fields,
        ap (λ (w : Chart). w.erases) changes.fields,
        c.note_claim.ensures,
      );
      fresh = record { granted = Granted-claimed old new c.segment_at.result c.in_ok-row.row c.args.page placed free e.claims.claims e.claims.claimed; erased = e.claims.claimed.erased };
    }

pub claim-requires-clause-ready : goal.claim-requires-clause-ready
claim-requires-clause-ready g c on =
    let old = chart (g.B.Board.state c.args.board.now) in
    let r = c.requires.ready in
    let placed : IsPlaced old.shape old.fields.positions c.segment_at.result = (c.args.position, c.requires.position, ap (λ (xs : List ℕ). get_or xs c.args.position 0) (sym r.agrees.pool.positions) ∙ sym c.segment_at.ensures.segment) in
    record { sound = r.sound; agrees = r.agrees.pool; usable = inl placed }

pub segment_at-requires : goal.segment_at-requires
segment_at-requires g c = let low = subst (λ (sh : Shape). c.args.position < positions_of sh) (sym c.requires.ready.fits.pool) c.requires.position in omega (arith, low)

pub claim-requires-clause-shape : goal.claim-requires-clause-shape
claim-requires-clause-shape g c = c.requires.ready.fits.pool

pub claim-requires-clause-segment : goal.claim-requires-clause-segment
claim-requires-clause-segment g c = subst (λ (n : ℕ). n < c.args.parts.now.space.shape.segments) (sym c.segment_at.ensures.segment) (c.segment_at.ensures.pool.positions_fit c.args.position (let low = subst (λ (sh : Shape). c.args.position < positions_of sh) (sym c.requires.ready.fits.pool) c.requires.position in omega (arith, low)))

pub claim-requires-clause-page : goal.claim-requires-clause-page
claim-requires-clause-page g c = subst (λ (sh : Shape). c.args.page < sh.pages) (sym c.requires.ready.fits.pool) c.requires.page

pub claim-requires-clause-room : goal.claim-requires-clause-room
claim-requires-clause-room g c =
    let pool = c.args.parts.now.space in
    subst (λ (n : ℕ). get_or pool.fills n 0 < pool.shape.rows) (sym c.segment_at.ensures.segment) (subst (λ (sh : Shape). get_or pool.fills (get_or pool.positions c.args.position 0) 0 < sh.rows) (sym c.requires.ready.fits.pool) c.requires.room)

pub returns-in_err-row-clause-same : goal.returns-in_err-row-clause-same
returns-in_err-row-clause-same g c = c.claim.ensures.same c.requires.ready.sound

pub returns-in_err-row-clause-takes : goal.returns-in_err-row-clause-takes
returns-in_err-row-clause-takes g c = none-if c.from_residual.result _ _ c.from_residual.ensures.1

pub returns-in_err-row-clause-parts : goal.returns-in_err-row-clause-parts
returns-in_err-row-clause-parts g c = refl

pub returns-in_err-row-clause-power : goal.returns-in_err-row-clause-power
returns-in_err-row-clause-power g c = none-power c.from_residual.result _ (g.B.Board.state c.claim.new.board).on c.in_err-row.ensures.power c.from_residual.ensures.1

pub note_claim-requires-clause-position : goal.note_claim-requires-clause-position
note_claim-requires-clause-position g c = subst (λ (n : ℕ). c.args.position < n) (sym c.requires.ready.fits.positions) c.requires.position

pub note_claim-requires-clause-page : goal.note_claim-requires-clause-page
note_claim-requires-clause-page g c = subst (λ (n : ℕ). c.args.page < n) (sym c.requires.ready.fits.pages) c.requires.page

pub returns-clause-same : goal.returns-clause-same
returns-clause-same g c = c.claim.ensures.same c.requires.ready.sound

pub returns-clause-parts : goal.returns-clause-parts
returns-clause-parts g c = refl

pub returns-clause-power : goal.returns-clause-power
returns-clause-power g c = c.in_ok-row.ensures.power
