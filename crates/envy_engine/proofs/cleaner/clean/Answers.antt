use Rattle.std.proofs.Common.{◌≡◌, ◌∙◌, ◌+◌, inr, sym, ap, subst, arith, Err, get_or}
use Rattle.envy_base.specs.declared.shape.Shape.{Shape}
use Rattle.envy_map.specs.Fields.{Chart, chart}
use Rattle.envy_soundness.specs.Same.{Same, Stays, Framed}
use Rattle.envy_policy.specs.History.{claimed}
use Rattle.envy_engine.specs.Agreement.{Steady}
use Rattle.envy_reloc.specs.Cleaning.{Cleans}
use Rattle.envy_engine.specs.declared.parts.Parts.{Parts}
use Rattle.envy_reloc.proofs.CleanLemmas.{cleans-ended, room-cleaned}
use Rattle.envy_engine.proofs.Leaving.{leaves_then}
use Rattle.envy_base.specs.declared.board.Trouble.{Trouble}
use Rattle.envy_reloc.proofs.Exits.{off-after, off-if, off-bad, err-after, err-if, err-bad, ok-bad}
use Rattle.envy_engine.proofs.FlushAnswers.{page-left, position-left, keeps-off, free-idle}
use Rattle.envy_soundness.proofs.Sames.{same_two as Same-two}
use Rattle.envy_engine.proofs.cleaner.clean.Goals as goal

pub claim_at-requires-clause-ready : goal.claim_at-requires-clause-ready
claim_at-requires-clause-ready g c =
    let e = c.run_clean.ensures in
    let on = c.in_ok-run_clean.ensures.power in
    record { on = on; sound = Stays.sound (Same.stays e.same); fits = Steady.fits e.leaves.steady; agrees = Steady.agrees e.leaves.steady on }

pub claim_at-requires-clause-room : goal.claim_at-requires-clause-room
claim_at-requires-clause-room g c =
    let old = chart (g.B.Board.state c.args.board.now) in
    let mid = chart (g.B.Board.state c.run_clean.new.board) in
    let e = c.in_ok-run_clean.ensures in
    let shape : mid.shape ≡ old.shape = Framed.shape (Stays.framed (Same.stays e.same)) in
    let agrees = Steady.agrees e.leaves.steady e.power in
    room-cleaned mid.shape old.fields.positions c.args.position c.args.parts.now.reloc.erased mid.fields c.run_clean.new.parts.reloc.erased c.run_clean.new.parts.space e.cleans.whole.finishes.job
    (subst (λ (sh : Shape). Cleans sh old.fields.positions c.args.position c.args.parts.now.reloc.erased mid.fields c.run_clean.new.parts.reloc.erased) (sym shape) e.cleans.cleans) agrees.pool

pub returns-in_err-claim_at-clause-same : goal.returns-in_err-claim_at-clause-same
returns-in_err-claim_at-clause-same g c = let p = (g.B.Board.state c.args.board.now).shape.rows in Same-two (p + 5) 2 0 0 (p + 5) 2 _ _ _ (omega arith) (omega arith) c.run_clean.ensures.same c.claim_at.ensures.same

pub returns-clause-same : goal.returns-clause-same
returns-clause-same g c = let p = (g.B.Board.state c.args.board.now).shape.rows in Same-two (p + 5) 2 0 0 (p + 5) 2 _ _ _ (omega arith) (omega arith) c.run_clean.ensures.same c.claim_at.ensures.same

pub returns-in_err-claim_at-clause-leaves : goal.returns-in_err-claim_at-clause-leaves
returns-in_err-claim_at-clause-leaves g c = leaves_then _ (chart (g.B.Board.state c.run_clean.new.board)) _ _ c.run_clean.new.parts _ c.run_clean.ensures.leaves c.claim_at.ensures.leaves

pub returns-clause-leaves : goal.returns-clause-leaves
returns-clause-leaves g c = leaves_then _ (chart (g.B.Board.state c.run_clean.new.board)) _ _ c.run_clean.new.parts _ c.run_clean.ensures.leaves c.claim_at.ensures.leaves

pub returns-clause-keeps : goal.returns-clause-keeps
returns-clause-keeps g c =
    let mid = chart (g.B.Board.state c.run_clean.new.board) in
    let e = c.run_clean.ensures in
    let f = c.claim_at.ensures in
    let places : (chart (g.B.Board.state c.claim_at.new.board)).fields.places ≡ mid.fields.places = ap (λ (z : Chart). z.fields.places) c.in_ok-claim_at.ensures.takes.changes.fields in
    record {
      frames = ap (λ (z : Parts). z.frames) f.parts ∙ ap (λ (z : Parts). z.frames) e.parts;
      here = λ on. rw places (e.here c.in_ok-run_clean.ensures.power);
      flushes = ap (λ (z : Parts). z.flushes) f.parts ∙ ap (λ (z : Parts). z.flushes) e.parts;
    }

pub returns-clause-gets : goal.returns-clause-gets
returns-clause-gets g c =
    let old = chart (g.B.Board.state c.args.board.now) in
    let mid = chart (g.B.Board.state c.run_clean.new.board) in
    let new = chart (g.B.Board.state c.claim_at.new.board) in
    let x = c.args.parts.now in
    let w = c.in_ok-run_clean.ensures.cleans in
    let f = c.in_ok-claim_at.ensures.takes in
    let parts = c.claim_at.ensures.parts in
    let idle = w.whole.finishes.job in
    let end = cleans-ended old.shape old.fields.positions c.args.position x.reloc.erased mid.fields c.run_clean.new.parts.reloc.erased idle w.cleans in
    record {
      fresh = f.fresh;
      follows = (
        f.claims.0,
        record { spare = Cleans.e w.cleans; is_spare = Cleans.spare w.cleans; positions = λ j low. ap (λ (z : Chart). get_or z.fields.positions j 0) f.changes.fields ∙ end.0 j low },
        ap (λ (z : Parts). z.reloc.erased) parts ∙ end.1,
        f.claims.4 ∙ ap (λ (h : _). claimed h c.args.position c.args.page) w.chooser,
        record { mid = mid; between = c.run_clean.new.parts; cleans = w.whole; claims = f.claims },
      );
      ends = (inr (ap (λ (z : Chart). z.fields.job) f.changes.fields ∙ idle), inr (ap (λ (z : Parts). z.stages) parts ∙ w.whole.finishes.stages));
    }

pub run_clean-requires-clause-ready : goal.run_clean-requires-clause-ready
run_clean-requires-clause-ready g c = c.requires.ready

pub run_clean-requires-clause-rest : goal.run_clean-requires-clause-rest
run_clean-requires-clause-rest g c = c.requires.rest

pub run_clean-requires-clause-position : goal.run_clean-requires-clause-position
run_clean-requires-clause-position g c = c.requires.position

pub run_clean-requires-clause-aside : goal.run_clean-requires-clause-aside
run_clean-requires-clause-aside g c = c.requires.aside

pub run_clean-requires-clause-dead : goal.run_clean-requires-clause-dead
run_clean-requires-clause-dead g c = c.requires.dead

pub returns-in_err-run_clean-clause-same : goal.returns-in_err-run_clean-clause-same
returns-in_err-run_clean-clause-same g c = c.run_clean.ensures.same

pub returns-in_err-run_clean-clause-leaves : goal.returns-in_err-run_clean-clause-leaves
returns-in_err-run_clean-clause-leaves g c = c.run_clean.ensures.leaves

pub returns-in_err-run_clean-clause-keeps : goal.returns-in_err-run_clean-clause-keeps
returns-in_err-run_clean-clause-keeps g c =
    let e = c.run_clean.ensures in
    record { frames = ap (λ (z : Parts). z.frames) e.parts; here = e.here; flushes = ap (λ (z : Parts). z.flushes) e.parts }

pub returns-in_err-run_clean-clause-gets : goal.returns-in_err-run_clean-clause-gets
returns-in_err-run_clean-clause-gets g c = err-if c.from_residual.result _ c.in_err-run_clean.field-0.0 c.from_residual.ensures.1

pub returns-in_err-run_clean-clause-stops : goal.returns-in_err-run_clean-clause-stops
returns-in_err-run_clean-clause-stops g c is = c.in_err-run_clean.ensures.stops (ap (λ (e : Trouble). Err e) (err-bad c.from_residual.result c.in_err-run_clean.field-0.0 c.from_residual.ensures.1 is))

pub returns-in_err-run_clean-clause-power : goal.returns-in_err-run_clean-clause-power
returns-in_err-run_clean-clause-power g c = err-after (Unit {0}) c.from_residual.result (g.B.Board.state c.run_clean.new.board).on c.in_err-run_clean.field-0.0 c.in_err-run_clean.ensures.power c.from_residual.ensures.1

pub claim_at-requires-clause-position : goal.claim_at-requires-clause-position
claim_at-requires-clause-position g c = position-left _ 2 c.args.position (chart (g.B.Board.state c.args.board.now)) (chart (g.B.Board.state c.run_clean.new.board)) c.run_clean.ensures.same c.requires.position

pub claim_at-requires-clause-page : goal.claim_at-requires-clause-page
claim_at-requires-clause-page g c = page-left _ 2 c.args.page (chart (g.B.Board.state c.args.board.now)) (chart (g.B.Board.state c.run_clean.new.board)) c.run_clean.ensures.same c.requires.page

pub claim_at-requires-clause-free : goal.claim_at-requires-clause-free
claim_at-requires-clause-free g c = free-idle _ _ c.in_ok-run_clean.ensures.cleans.whole.finishes.job

pub returns-in_err-claim_at-clause-keeps : goal.returns-in_err-claim_at-clause-keeps
returns-in_err-claim_at-clause-keeps g c =
    let e = c.run_clean.ensures in
    let f = c.claim_at.ensures in
    keeps-off (chart (g.B.Board.state c.args.board.now)) (chart (g.B.Board.state c.claim_at.new.board)) c.args.parts.now c.claim_at.new.parts c.in_err-claim_at.ensures.power (ap (λ (z : Parts). z.frames) f.parts ∙ ap (λ (z : Parts). z.frames) e.parts) (ap (λ (z : Parts). z.flushes) f.parts ∙ ap (λ (z : Parts). z.flushes) e.parts)

pub returns-in_err-claim_at-clause-gets : goal.returns-in_err-claim_at-clause-gets
returns-in_err-claim_at-clause-gets g c = off-if c.from_residual-in_err-claim_at.result _ c.from_residual-in_err-claim_at.ensures.1

pub returns-in_err-claim_at-clause-stops : goal.returns-in_err-claim_at-clause-stops
returns-in_err-claim_at-clause-stops g c is = off-bad c.from_residual-in_err-claim_at.result c.from_residual-in_err-claim_at.ensures.1 is

pub returns-in_err-claim_at-clause-power : goal.returns-in_err-claim_at-clause-power
returns-in_err-claim_at-clause-power g c = off-after c.from_residual-in_err-claim_at.result (g.B.Board.state c.claim_at.new.board).on c.in_err-claim_at.ensures.power c.from_residual-in_err-claim_at.ensures.1

pub returns-clause-stops : goal.returns-clause-stops
returns-clause-stops g c is = ok-bad c.in_ok-claim_at.field-0 is

pub returns-clause-power : goal.returns-clause-power
returns-clause-power g c = c.in_ok-claim_at.ensures.power
