use Rattle.std.proofs.Common.{◌∙◌, inl, inr, refl, sym, ap, Err}
use Rattle.envy_base.specs.State.{IsBoard}
use Rattle.envy_base.specs.declared.board.Trouble.{Trouble}
use Rattle.envy_map.specs.Fields.{chart}
use Rattle.envy_soundness.proofs.FrameStay.{FramesStay-refl}
use Rattle.envy_engine.proofs.BudgetLemmas.{Turns-job, Turns-stage}
use Rattle.envy_engine.proofs.StoreLemmas.{shape-step}
use Rattle.envy_engine.specs.declared.did.Did.{Did}
use Rattle.envy_reloc.proofs.Exits.{unpowered, err-if, err-after, err-bad, ok-bad}
use Rattle.envy_engine.proofs.Leaving.{leaves_none}
use Rattle.envy_engine.proofs.TickLemmas.{none_left}
use Rattle.envy_engine.proofs.TickAnswers.{once-none, Turns-ended, Turns-none, parts-staged, no-more, no-turn, off-never, stays-staged}
use Rattle.envy_engine.proofs.job_rest.turn.Goals as goal

pub returns-then-branch : goal.returns-then-branch
returns-then-branch g c = record {
  turns = λ n e s b.
      let old = chart (g.B.Board.state c.args.board.now) in
      let new = chart (g.B.Board.state c.tick_job.new.board) in
      let w = Turns-job old new c.args.parts.now c.tick_job.new.parts (shape-step old new c.tick_job.ensures.step) c.in_ok-tick_job.ensures.does.stages c.in_ok-tick_job.ensures.left n e s b in
      (w.0, λ yes. w.1);
  leaves = c.tick_job.ensures.leaves;
  here = c.tick_job.ensures.here;
  parts = c.tick_job.ensures.parts;
  idle = λ is. no-more is;
  steps = λ is. (c.in_ok-tick_job.field-0, inl (c.in_ok-runs.ensures.busy c.if-branch.true, c.in_ok-tick_job.ensures.does));
  still = λ is. no-more is;
  stops = λ is. ok-bad _ is;
  power = c.in_ok-tick_job.ensures.power;
  bad = λ is. ok-bad _ is;
}

pub returns-then-pending : goal.returns-then-pending
returns-then-pending g c = record {
  turns = λ n e s b.
      let old = chart (g.B.Board.state c.args.board.now) in
      let new = chart (g.B.Board.state c.tick_stage.new.board) in
      let w = Turns-stage old new c.args.parts.now c.tick_stage.new.parts c.requires.ready.sound (IsBoard.shape (g.met.B.Board.lawful c.args.board.now)) (c.in_ok-runs.ensures.idle c.if-branch.false) (c.pending.ensures.0 c.if-pending.true) c.tick_stage.ensures.rest c.tick_stage.ensures.same c.in_ok-tick_stage.ensures.begins n e s b in
      (w.0, λ yes. w.1);
  leaves = c.tick_stage.ensures.leaves;
  here = λ on. stays-staged _ _ _ _ _ c.in_ok-tick_stage.ensures.does;
  parts = parts-staged c.args.parts.now c.tick_stage.new.parts c.tick_stage.ensures.parts;
  idle = λ is. no-more is;
  steps = λ is. (c.in_ok-tick_stage.field-0, inr (c.in_ok-runs.ensures.idle c.if-branch.false, c.in_ok-tick_stage.ensures.does));
  still = λ is. no-more is;
  stops = λ is. ok-bad _ is;
  power = c.in_ok-tick_stage.ensures.power;
  bad = λ is. ok-bad _ is;
}

pub runs-requires : goal.runs-requires
runs-requires g c = record { sound = c.requires.ready.sound }

pub tick_job-requires-clause-ready : goal.tick_job-requires-clause-ready
tick_job-requires-clause-ready g c = c.requires.ready

pub tick_job-requires-clause-running : goal.tick_job-requires-clause-running
tick_job-requires-clause-running g c = c.in_ok-runs.ensures.busy c.if-branch.true

pub tick_stage-requires-clause-ready : goal.tick_stage-requires-clause-ready
tick_stage-requires-clause-ready g c = c.requires.ready

pub tick_stage-requires-clause-idle : goal.tick_stage-requires-clause-idle
tick_stage-requires-clause-idle g c = c.in_ok-runs.ensures.idle c.if-branch.false

pub tick_stage-requires-clause-pending : goal.tick_stage-requires-clause-pending
tick_stage-requires-clause-pending g c = c.pending.ensures.0 c.if-pending.true

pub returns-in_err-runs : goal.returns-in_err-runs
returns-in_err-runs g c = unpowered (g.B.Board.state c.args.board.now).on c.in_err-runs.ensures.off c.requires.ready.on

pub returns-in_err-tick_job : goal.returns-in_err-tick_job
returns-in_err-tick_job g c = record {
  turns = Turns-ended _ _ _ _ c.from_residual-in_err-tick_job.result c.in_err-tick_job.field-0.0 c.tick_job.ensures.step c.from_residual-in_err-tick_job.ensures.1;
  leaves = c.tick_job.ensures.leaves;
  here = c.tick_job.ensures.here;
  parts = c.tick_job.ensures.parts;
  idle = err-if c.from_residual-in_err-tick_job.result _ c.in_err-tick_job.field-0.0 c.from_residual-in_err-tick_job.ensures.1;
  steps = err-if c.from_residual-in_err-tick_job.result _ c.in_err-tick_job.field-0.0 c.from_residual-in_err-tick_job.ensures.1;
  still = err-if c.from_residual-in_err-tick_job.result _ c.in_err-tick_job.field-0.0 c.from_residual-in_err-tick_job.ensures.1;
  stops = λ is.
      (c.in_ok-runs.ensures.busy c.if-branch.true, c.in_err-tick_job.ensures.stops (ap (λ (e : Trouble). Err e) (err-bad c.from_residual-in_err-tick_job.result c.in_err-tick_job.field-0.0 c.from_residual-in_err-tick_job.ensures.1 is)));
  power = err-after Did c.from_residual-in_err-tick_job.result (g.B.Board.state c.tick_job.new.board).on c.in_err-tick_job.field-0.0 c.in_err-tick_job.ensures.power c.from_residual-in_err-tick_job.ensures.1;
  bad = λ is. c.in_err-tick_job.ensures.bad (ap (λ (e : Trouble). Err e) (err-bad c.from_residual-in_err-tick_job.result c.in_err-tick_job.field-0.0 c.from_residual-in_err-tick_job.ensures.1 is));
}

pub returns-in_err-tick_stage : goal.returns-in_err-tick_stage
returns-in_err-tick_stage g c = record {
  turns = Turns-ended _ _ _ _ c.from_residual-in_err-tick_stage.result c.in_err-tick_stage.field-0.0 (once-none _ _ c.tick_stage.ensures.same) c.from_residual-in_err-tick_stage.ensures.1;
  leaves = c.tick_stage.ensures.leaves;
  here = off-never c.in_err-tick_stage.field-0.0 (g.B.Board.state c.tick_stage.new.board).on c.in_err-tick_stage.ensures.power c.in_err-tick_stage.ensures.never;
  parts = parts-staged c.args.parts.now c.tick_stage.new.parts c.tick_stage.ensures.parts;
  idle = err-if c.from_residual-in_err-tick_stage.result _ c.in_err-tick_stage.field-0.0 c.from_residual-in_err-tick_stage.ensures.1;
  steps = err-if c.from_residual-in_err-tick_stage.result _ c.in_err-tick_stage.field-0.0 c.from_residual-in_err-tick_stage.ensures.1;
  still = err-if c.from_residual-in_err-tick_stage.result _ c.in_err-tick_stage.field-0.0 c.from_residual-in_err-tick_stage.ensures.1;
  stops = λ is. absurd (c.in_err-tick_stage.ensures.never (ap (λ (e : Trouble). Err e) (err-bad c.from_residual-in_err-tick_stage.result c.in_err-tick_stage.field-0.0 c.from_residual-in_err-tick_stage.ensures.1 is)));
  power = err-after Did c.from_residual-in_err-tick_stage.result (g.B.Board.state c.tick_stage.new.board).on c.in_err-tick_stage.field-0.0 c.in_err-tick_stage.ensures.power c.from_residual-in_err-tick_stage.ensures.1;
  bad = λ is. absurd (c.in_err-tick_stage.ensures.never (ap (λ (e : Trouble). Err e) (err-bad c.from_residual-in_err-tick_stage.result c.in_err-tick_stage.field-0.0 c.from_residual-in_err-tick_stage.ensures.1 is)));
}

pub returns : goal.returns
returns g c = record {
  turns = Turns-none (chart (g.B.Board.state c.args.board.now)) c.args.parts.now c.requires.ready.sound;
  leaves = leaves_none (chart (g.B.Board.state c.args.board.now)) c.args.parts.now c.requires.ready;
  here = λ on. FramesStay-refl (chart (g.B.Board.state c.args.board.now)).fields.places;
  parts = refl;
  idle = λ is. (c.in_ok-runs.ensures.idle c.if-branch.false, none_left c.args.parts.now.stages (λ some. sym c.if-pending.false ∙ c.pending.ensures.1 some));
  steps = λ is. no-turn is;
  still = λ is. (refl, refl);
  stops = λ is. ok-bad _ is;
  power = c.requires.ready.on;
  bad = λ is. ok-bad _ is;
}
