use Rattle.std.proofs.Common.{◌≡◌, ◌∙◌, ◌+◌, arith, inl, refl, sym, ap, subst}
use Rattle.envy_base.specs.declared.shape.Shape.{Shape}
use Rattle.std.proofs.lemmas.Result.{err_from_is_err_and}
use Rattle.envy_map.specs.Fields.{chart}
use Rattle.envy_soundness.specs.Same.{Same, Stays, Framed, Counted}
use Rattle.envy_engine.specs.Agreement.{Ready, Steady}
use Rattle.envy_engine.specs.Budgets.{Going, Spends}
use Rattle.envy_reloc.specs.Cleaning.{Cleans}
use Rattle.envy_engine.specs.declared.parts.Parts.{Parts}
use Rattle.envy_engine.proofs.BudgetLemmas.{Going-start, Going-more, Going-stops, Turns-job, step-both, Going-same}
use Rattle.envy_engine.proofs.Leaving.{leaves_none, leaves_then, counts_bad_then}
use Rattle.envy_engine.proofs.FlushLemmas.{err-at}
use Rattle.envy_engine.proofs.StepLemmas.{StepsBy-more}
use Rattle.envy_soundness.proofs.FrameStay.{FramesStay-trans}
use Rattle.envy_engine.proofs.StoreLemmas.{shape-step}
use Rattle.envy_soundness.proofs.Composition.{Same-more}
use Rattle.envy_engine.specs.declared.did.Did.{Did}
use Rattle.envy_reloc.proofs.Exits.{unpowered, err-if, err-after, ok-bad}
use Rattle.envy_engine.proofs.cleaner.finish_clean.Goals as goal

pub loop-turn-init : goal.loop-turn-init
loop-turn-init g c =
    let b = c.requires.budget in
    let now = chart (g.B.Board.state c.args.board.now) in
    record {
      ready = c.requires.ready;
      going = Going-start _ _ b.0 b.1 b.2 (c.args.rows + 4) 1 (c.args.rows + 7) (Ready.sound c.requires.ready) b.3 b.4 b.5 b.6;
      leaves = leaves_none now c.args.parts.now c.requires.ready;
      here = λ p k. ((λ h. h), (λ h. h));
      parts = refl;
      none = c.requires.none;
      steps = (refl, refl);
      cleans = λ positions k n a. a;
    }

pub returns-in_err-tick_job-clause-same : goal.returns-in_err-tick_job-clause-same
returns-in_err-tick_job-clause-same g c =
    let k = c.loop-turn.invariant.going in
    Same-more (c.args.rows + 4 + 1) 2 (c.args.rows + 5) 2 _ _ (omega arith) (omega arith) (Going-stops _ (chart (g.B.Board.state c.loop-turn.board)) _ _ _ _ _ _ k (step-both _ _ c.tick_job.ensures.step))

pub returns-in_err-tick_job-clause-here : goal.returns-in_err-tick_job-clause-here
returns-in_err-tick_job-clause-here g c on =
    let first = chart (g.B.Board.state c.args.board.now) in
    let mid = chart (g.B.Board.state c.loop-turn.board) in
    let new = chart (g.B.Board.state c.tick_job.new.board) in
    FramesStay-trans first.fields.places mid.fields.places new.fields.places c.loop-turn.invariant.here (c.tick_job.ensures.here on)

pub loop-turn-preserved : goal.loop-turn-preserved
loop-turn-preserved g c =
    let i = c.loop-turn.invariant in
    let k = i.going in
    let w = Going.work k in
    let e = c.tick_job.ensures in
    let o = c.in_ok-tick_job.ensures in
    let first = chart (g.B.Board.state c.args.board.now) in
    let mid = chart (g.B.Board.state c.loop-turn.board) in
    let new = chart (g.B.Board.state c.tick_job.new.board) in
    let shape = shape-step mid new e.step in
    let done = Turns-job mid new c.loop-turn.parts c.tick_job.new.parts shape o.does.stages o.left w.left_n w.left_e w.left_s w.left in
    let since : mid.shape ≡ first.shape = Framed.shape (Stays.framed (Same.stays w.same)) in
    record {
      ready = record { on = o.power; sound = Stays.sound (Same.stays (Spends.same done.0)); fits = Steady.fits e.leaves.steady; agrees = Steady.agrees e.leaves.steady o.power };
      going = Going-more _ _ _ _ _ _ _ _ _ k done.0 done.1;
      leaves = leaves_then first mid new c.args.parts.now c.loop-turn.parts c.tick_job.new.parts i.leaves e.leaves;
      here = FramesStay-trans first.fields.places mid.fields.places new.fields.places i.here (e.here o.power);
      parts = e.parts ∙ ap (λ (z : Parts). record z { space = c.tick_job.new.parts.space; cache = c.tick_job.new.parts.cache; reloc = c.tick_job.new.parts.reloc; stages = c.tick_job.new.parts.stages }) i.parts;
      none = o.does.stages ∙ i.none;
      steps = StepsBy-more c.loop-turn._turn first c.args.parts.now mid c.loop-turn.parts new c.tick_job.new.parts i.steps (c.in_ok-tick_job.field-0, inl (c.in_ok-runs.ensures.busy c.if-not-branch.false, o.does));
      cleans = λ positions k n a. subst (λ (sh : Shape). Cleans sh positions k n new.fields c.tick_job.new.parts.reloc.erased) since (o.cleans positions k n (subst (λ (sh : Shape). Cleans sh positions k n mid.fields c.loop-turn.parts.reloc.erased) (sym since) (i.cleans positions k n a)));
    }

pub returns-in_err-tick_job-clause-stops : goal.returns-in_err-tick_job-clause-stops
returns-in_err-tick_job-clause-stops g c =
    let p = err_from_is_err_and c.from_residual-in_err-tick_job.result c.from_residual-in_err-tick_job.ensures.1 in
    rw (p.1, p.2) (λ is. record {
      steps = c.loop-turn._turn;
      mid = chart (g.B.Board.state c.loop-turn.board);
      between = c.loop-turn.parts;
      made = c.loop-turn.invariant.steps;
      running = c.in_ok-runs.ensures.busy c.if-not-branch.false;
      stops = c.in_err-tick_job.ensures.stops (err-at _ _ is);
    })

pub returns-in_err-tick_job-clause-leaves : goal.returns-in_err-tick_job-clause-leaves
returns-in_err-tick_job-clause-leaves g c = leaves_then _ (chart (g.B.Board.state c.loop-turn.board)) _ _ c.loop-turn.parts _ c.loop-turn.invariant.leaves c.tick_job.ensures.leaves

pub returns-in_err-tick_job-clause-bad : goal.returns-in_err-tick_job-clause-bad
returns-in_err-tick_job-clause-bad g c =
    let p = err_from_is_err_and c.from_residual-in_err-tick_job.result c.from_residual-in_err-tick_job.ensures.1 in
    let before = Counted.bads (Stays.counted (Same.stays (Spends.same (Going.work c.loop-turn.invariant.going)))) in
    let after = Counted.bads (Stays.counted (Same.stays (step-both _ _ c.tick_job.ensures.step))) in
    rw (p.1, p.2) (λ is. counts_bad_then before after (c.in_err-tick_job.ensures.bad (err-at _ _ is)))

pub returns-then-not-branch-clause-finishes : goal.returns-then-not-branch-clause-finishes
returns-then-not-branch-clause-finishes g c = record {
  finishes = record {
    steps = c.loop-turn._turn;
    made = c.loop-turn.invariant.steps;
    job = c.in_ok-runs.ensures.idle c.if-not-branch.true;
    stages = c.loop-turn.invariant.none;
  };
  cleans = c.loop-turn.invariant.cleans;
}

pub runs-requires : goal.runs-requires
runs-requires g c = record { sound = Ready.sound c.loop-turn.invariant.ready }

pub returns-in_err-runs : goal.returns-in_err-runs
returns-in_err-runs g c = unpowered (g.B.Board.state c.loop-turn.board).on c.in_err-runs.ensures.off c.loop-turn.invariant.ready.on

pub returns-then-not-branch-clause-same : goal.returns-then-not-branch-clause-same
returns-then-not-branch-clause-same g c = Same-more (c.args.rows + 4) 1 (c.args.rows + 5) 2 _ _ (omega arith) (omega arith) (Going-same _ (chart (g.B.Board.state c.loop-turn.board)) _ _ _ _ _ c.loop-turn.invariant.going)

pub returns-then-not-branch-clause-leaves : goal.returns-then-not-branch-clause-leaves
returns-then-not-branch-clause-leaves g c = c.loop-turn.invariant.leaves

pub returns-then-not-branch-clause-here : goal.returns-then-not-branch-clause-here
returns-then-not-branch-clause-here g c on = c.loop-turn.invariant.here

pub returns-then-not-branch-clause-parts : goal.returns-then-not-branch-clause-parts
returns-then-not-branch-clause-parts g c = c.loop-turn.invariant.parts

pub returns-then-not-branch-clause-stops : goal.returns-then-not-branch-clause-stops
returns-then-not-branch-clause-stops g c is = ok-bad tt is

pub returns-then-not-branch-clause-power : goal.returns-then-not-branch-clause-power
returns-then-not-branch-clause-power g c = c.loop-turn.invariant.ready.on

pub returns-then-not-branch-clause-bad : goal.returns-then-not-branch-clause-bad
returns-then-not-branch-clause-bad g c is = ok-bad tt is

pub tick_job-requires-clause-ready : goal.tick_job-requires-clause-ready
tick_job-requires-clause-ready g c = c.loop-turn.invariant.ready

pub tick_job-requires-clause-running : goal.tick_job-requires-clause-running
tick_job-requires-clause-running g c = c.in_ok-runs.ensures.busy c.if-not-branch.false

pub returns-in_err-tick_job-clause-parts : goal.returns-in_err-tick_job-clause-parts
returns-in_err-tick_job-clause-parts g c = c.tick_job.ensures.parts ∙ ap (λ (z : Parts). record z { space = c.tick_job.new.parts.space; cache = c.tick_job.new.parts.cache; reloc = c.tick_job.new.parts.reloc; stages = c.tick_job.new.parts.stages }) c.loop-turn.invariant.parts

pub returns-in_err-tick_job-clause-finishes : goal.returns-in_err-tick_job-clause-finishes
returns-in_err-tick_job-clause-finishes g c = err-if c.from_residual-in_err-tick_job.result _ c.in_err-tick_job.field-0.0 c.from_residual-in_err-tick_job.ensures.1

pub returns-in_err-tick_job-clause-power : goal.returns-in_err-tick_job-clause-power
returns-in_err-tick_job-clause-power g c = err-after Did c.from_residual-in_err-tick_job.result (g.B.Board.state c.tick_job.new.board).on c.in_err-tick_job.field-0.0 c.in_err-tick_job.ensures.power c.from_residual-in_err-tick_job.ensures.1
