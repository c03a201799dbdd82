use Rattle.std.proofs.Common.{◌≡◌, ◌<◌, ◌-◌, refl, sym, ap, subst}
use Rattle.envy_base.specs.declared.shape.Shape.{Shape}
use Rattle.envy_map.specs.Fields.{Chart, chart}
use Rattle.envy_soundness.specs.Same.{Same, Stays, Framed}
use Rattle.envy_reloc.specs.Plan.{Plan}
use Rattle.envy_table.proofs.HitLemmas.{Rests-refl}
use Rattle.envy_engine.specs.Agreement.{Fits, AreStages}
use Rattle.envy_engine.proofs.CountLemmas.{Counting-quiet}
use Rattle.envy_engine.proofs.AgreeLemmas.{Agrees-begun, Fits-next}
use Rattle.envy_reloc.proofs.Exits.{unpowered, off-if, off-after, off-bad, ok-bad}
use Rattle.std.proofs.lemmas.List.Elements.{All-nil}
use Rattle.envy_engine.proofs.SwapAnswers.{TicksStage-began, StageBegins-began, none-pair}
use Rattle.envy_engine.proofs.jobs.tick_stage.Goals as goal
use Rattle.envy_base.specs.Shape.{positions_of}

pub begin-requires-clause-position : goal.begin-requires-clause-position
begin-requires-clause-position g c =
    let f = c.requires.ready.fits in
    subst (λ (sh : Shape). c.in-Some.position < positions_of sh) (sym f.pool) (c.in-Some.ensures.below _ (AreStages.within f.stages)).0

pub returns-in_err-begin-clause-leaves : goal.returns-in_err-begin-clause-leaves
returns-in_err-begin-clause-leaves g c =
    let old = chart (g.B.Board.state c.args.board.now) in
    let new = chart (g.B.Board.state c.begin.new.board) in
    let r = c.requires.ready in
    let s = Same.stays (c.begin.ensures.same r.sound) in
    let plan = c.begin.ensures.plan r.on in
    let shape : new.shape ≡ old.shape = Framed.shape (Stays.framed s) in
    record {
      steady = record {
        fits = Fits-next old.shape new.shape c.args.parts.now _ shape r.fits c.next.ensures.rest (c.next.ensures.below _ (AreStages.within (Fits.stages r.fits))).1 refl refl refl refl;
        agrees = λ on. unpowered new.on c.in_err-begin.ensures.power on;
      };
      counting = Counting-quiet old new c.args.parts.now _ (Stays.counted s) refl refl (record { copied = ap (λ (p : Plan). p.copied) plan; moved = ap (λ (p : Plan). p.moved) plan; erased = ap (λ (p : Plan). p.erased) plan }) (ap (λ (p : Plan). p.since) plan) (λ on. unpowered new.on c.in_err-begin.ensures.power on);
      rests = Rests-refl c.args.parts.now.cache;
    }

pub returns-clause-leaves : goal.returns-clause-leaves
returns-clause-leaves g c =
    let old = chart (g.B.Board.state c.args.board.now) in
    let new = chart (g.B.Board.state c.begin.new.board) in
    let r = c.requires.ready in
    let s = Same.stays (c.begin.ensures.same r.sound) in
    let plan = c.begin.ensures.plan r.on in
    let shape : new.shape ≡ old.shape = Framed.shape (Stays.framed s) in
    record {
      steady = record {
        fits = Fits-next old.shape new.shape c.args.parts.now _ shape r.fits c.next.ensures.rest (c.next.ensures.below _ (AreStages.within (Fits.stages r.fits))).1 refl refl refl refl;
        agrees = λ on. Agrees-begun old new c.args.parts.now _ _ r.agrees c.in_ok-begin.ensures.begins.fields (c.begin.ensures.agrees on) refl refl refl;
      };
      counting = Counting-quiet old new c.args.parts.now _ (Stays.counted s) refl refl (record { copied = ap (λ (p : Plan). p.copied) plan; moved = ap (λ (p : Plan). p.moved) plan; erased = ap (λ (p : Plan). p.erased) plan }) (ap (λ (p : Plan). p.since) plan) (λ on. ap (λ (z : Chart). z.fields.wears) c.in_ok-begin.ensures.begins.fields);
      rests = Rests-refl c.args.parts.now.cache;
    }

pub begin-requires-clause-ready : goal.begin-requires-clause-ready
begin-requires-clause-ready g c on = record { sound = c.requires.ready.sound; agrees = c.requires.ready.agrees.pool; idle = c.requires.idle }

pub begin-requires-clause-shape : goal.begin-requires-clause-shape
begin-requires-clause-shape g c = c.requires.ready.fits.pool

pub returns-in_err-begin-clause-same : goal.returns-in_err-begin-clause-same
returns-in_err-begin-clause-same g c = c.begin.ensures.same c.requires.ready.sound

pub returns-in_err-begin-clause-does : goal.returns-in_err-begin-clause-does
returns-in_err-begin-clause-does g c = off-if c.from_residual.result _ c.from_residual.ensures.1

pub returns-in_err-begin-clause-begins : goal.returns-in_err-begin-clause-begins
returns-in_err-begin-clause-begins g c = off-if c.from_residual.result _ c.from_residual.ensures.1

pub returns-in_err-begin-clause-rest : goal.returns-in_err-begin-clause-rest
returns-in_err-begin-clause-rest g c = c.next.ensures.rest

pub returns-in_err-begin-clause-parts : goal.returns-in_err-begin-clause-parts
returns-in_err-begin-clause-parts g c = refl

pub returns-in_err-begin-clause-never : goal.returns-in_err-begin-clause-never
returns-in_err-begin-clause-never g c is = off-bad c.from_residual.result c.from_residual.ensures.1 is

pub returns-in_err-begin-clause-power : goal.returns-in_err-begin-clause-power
returns-in_err-begin-clause-power g c = off-after c.from_residual.result (g.B.Board.state c.begin.new.board).on c.in_err-begin.ensures.power c.from_residual.ensures.1

pub returns-clause-same : goal.returns-clause-same
returns-clause-same g c = c.begin.ensures.same c.requires.ready.sound

pub returns-clause-does : goal.returns-clause-does
returns-clause-does g c =
    let r = c.requires.ready in
    TicksStage-began (chart (g.B.Board.state c.args.board.now)) (chart (g.B.Board.state c.begin.new.board)) c.args.parts.now c.in-Some.position _ _ c.begin.new.self r.agrees.pool.positions (sym c.in-Some.ensures.first) c.in_ok-begin.ensures.begins.fields c.next.ensures.rest (c.begin.ensures.plan r.on) c.new.ensures

pub returns-clause-begins : goal.returns-clause-begins
returns-clause-begins g c =
    StageBegins-began (chart (g.B.Board.state c.args.board.now)) (chart (g.B.Board.state c.begin.new.board)) c.args.parts.now.reloc c.begin.new.self _ _ c.in_ok-begin.ensures.begins.fields (c.begin.ensures.plan c.requires.ready.on) c.new.ensures

pub returns-clause-rest : goal.returns-clause-rest
returns-clause-rest g c = c.next.ensures.rest

pub returns-clause-parts : goal.returns-clause-parts
returns-clause-parts g c = refl

pub returns-clause-never : goal.returns-clause-never
returns-clause-never g c is = ok-bad _ is

pub returns-clause-power : goal.returns-clause-power
returns-clause-power g c = c.in_ok-begin.ensures.power

pub begin-requires-clause-moves : goal.begin-requires-clause-moves
begin-requires-clause-moves g c = rw c.new.ensures (All-nil _)

pub begin-requires-clause-aside : goal.begin-requires-clause-aside
begin-requires-clause-aside g c first last is = none-pair (first, last) is
