use Rattle.std.proofs.Common.{inl, inr, length, refl}
use Rattle.envy_map.specs.Fields.{chart}
use Rattle.envy_engine.proofs.Leaving.{match_known, counts_tick}
use Rattle.envy_engine.proofs.TickLemmas.{none_left, by_job, by_stage, by_flush, by_swap}
use Rattle.envy_reloc.proofs.Exits.{unpowered}
use Rattle.envy_engine.proofs.TickAnswers.{once-none, quiet-step, not-few, some-none, some-held, so-many, so-few}
use Rattle.envy_engine.proofs.tick.tick_ruled.Goals as goal

pub returns-then-branch-clause-counts : goal.returns-then-branch-clause-counts
returns-then-branch-clause-counts g c = let w = c.tick_job.ensures.leaves.counting in match_known c.tick_job.result _ _ (counts_tick _ _ _ _ w) w

pub returns-then-pending-clause-counts : goal.returns-then-pending-clause-counts
returns-then-pending-clause-counts g c = let w = c.tick_stage.ensures.leaves.counting in match_known c.tick_stage.result _ _ (counts_tick _ _ _ _ w) w

pub returns-then-used-mark-clause-counts : goal.returns-then-used-mark-clause-counts
returns-then-used-mark-clause-counts g c = let w = c.tick_flush.ensures.leaves.counting in match_known c.tick_flush.result _ _ (counts_tick _ _ _ _ w) w

pub returns-then-branch-clause-does : goal.returns-then-branch-clause-does
returns-then-branch-clause-does g c = by_job _ _ _ _ _ _ c.tick_job.result (c.in_ok-runs.ensures.busy c.if-branch.true) c.tick_job.ensures.does

pub returns-then-pending-clause-does : goal.returns-then-pending-clause-does
returns-then-pending-clause-does g c = by_stage _ _ _ _ _ _ (c.in_ok-runs.ensures.idle c.if-branch.false) c.tick_stage.result (c.if-pending.ensures.0 refl) c.tick_stage.ensures.does

pub returns-then-used-mark-clause-does : goal.returns-then-used-mark-clause-does
returns-then-used-mark-clause-does g c =
    let some = c.if-used-mark.true in
    let held = c.used.ensures.value in
    by_flush _ _ _ _ _ _ (c.in_ok-runs.ensures.idle c.if-branch.false) (none_left c.args.parts.now.stages c.if-pending.ensures.1) c.tick_flush.result (so-many c.used.result c.args.mark (length c.args.parts.now.frames.held) some held) c.tick_flush.ensures.does

pub returns-clause-does : goal.returns-clause-does
returns-clause-does g c =
    let few = c.if-used-mark.false in
    let held = c.used.ensures.value in
    by_swap _ _ _ _ _ _ (c.in_ok-runs.ensures.idle c.if-branch.false) (none_left c.args.parts.now.stages c.if-pending.ensures.1) c.tick_swap.result (so-few c.used.result c.args.mark (length c.args.parts.now.frames.held) few held) c.tick_swap.ensures.does

pub returns-then-branch-clause-stops : goal.returns-then-branch-clause-stops
returns-then-branch-clause-stops g c is = (inl (c.in_ok-runs.ensures.busy c.if-branch.true, c.tick_job.ensures.stops is), c.tick_job.ensures.bad is)

pub returns-then-pending-clause-stops : goal.returns-then-pending-clause-stops
returns-then-pending-clause-stops g c is = absurd (c.tick_stage.ensures.never is)

pub returns-then-used-mark-clause-stops : goal.returns-then-used-mark-clause-stops
returns-then-used-mark-clause-stops g c is =
    let stops = c.tick_flush.ensures.stops is in
    let some = c.if-used-mark.true in
    let held = c.used.ensures.value in
    (inr (c.in_ok-runs.ensures.idle c.if-branch.false, none_left c.args.parts.now.stages c.if-pending.ensures.1, so-many c.used.result c.args.mark (length c.args.parts.now.frames.held) some held, stops.0), stops.1)

pub returns-clause-stops : goal.returns-clause-stops
returns-clause-stops g c is = absurd (c.tick_swap.ensures.never is)

pub returns-in_err-runs : goal.returns-in_err-runs
returns-in_err-runs g c = unpowered (g.B.Board.state c.args.board.now).on c.in_err-runs.ensures.off c.requires.ready.on

pub tick_job-requires-clause-ready : goal.tick_job-requires-clause-ready
tick_job-requires-clause-ready g c = c.requires.ready

pub tick_job-requires-clause-running : goal.tick_job-requires-clause-running
tick_job-requires-clause-running g c = c.in_ok-runs.ensures.busy c.if-branch.true

pub returns-then-branch-clause-step : goal.returns-then-branch-clause-step
returns-then-branch-clause-step g c = c.tick_job.ensures.step

pub returns-then-branch-clause-steady : goal.returns-then-branch-clause-steady
returns-then-branch-clause-steady g c = c.tick_job.ensures.leaves.steady

pub returns-then-branch-clause-idle : goal.returns-then-branch-clause-idle
returns-then-branch-clause-idle g c idle none few due = absurd (c.in_ok-runs.ensures.busy c.if-branch.true idle)

pub returns-then-branch-clause-quiet : goal.returns-then-branch-clause-quiet
returns-then-branch-clause-quiet g c on =
    quiet-step (chart (g.B.Board.state c.args.board.now)) (chart (g.B.Board.state c.tick_job.new.board)) c.args.parts.now c.tick_job.new.parts c.args.limit c.args.quiet.now c.tick_job.ensures.step c.tick_job.ensures.leaves.counting c.requires.quiet on

pub returns-then-branch-clause-rests : goal.returns-then-branch-clause-rests
returns-then-branch-clause-rests g c = c.tick_job.ensures.leaves.rests

pub returns-then-branch-clause-power : goal.returns-then-branch-clause-power
returns-then-branch-clause-power g c = c.tick_job.ensures.power

pub tick_stage-requires-clause-ready : goal.tick_stage-requires-clause-ready
tick_stage-requires-clause-ready g c = c.requires.ready

pub tick_stage-requires-clause-idle : goal.tick_stage-requires-clause-idle
tick_stage-requires-clause-idle g c = c.in_ok-runs.ensures.idle c.if-branch.false

pub tick_stage-requires-clause-pending : goal.tick_stage-requires-clause-pending
tick_stage-requires-clause-pending g c = c.if-pending.ensures.0 refl

pub returns-then-pending-clause-step : goal.returns-then-pending-clause-step
returns-then-pending-clause-step g c = once-none _ _ c.tick_stage.ensures.same

pub returns-then-pending-clause-steady : goal.returns-then-pending-clause-steady
returns-then-pending-clause-steady g c = c.tick_stage.ensures.leaves.steady

pub returns-then-pending-clause-idle : goal.returns-then-pending-clause-idle
returns-then-pending-clause-idle g c idle none few due = some-none c.args.parts.now.stages (c.if-pending.ensures.0 refl) none

pub returns-then-pending-clause-quiet : goal.returns-then-pending-clause-quiet
returns-then-pending-clause-quiet g c on =
    let old = chart (g.B.Board.state c.args.board.now) in
    let new = chart (g.B.Board.state c.tick_stage.new.board) in
    quiet-step old new c.args.parts.now c.tick_stage.new.parts c.args.limit c.args.quiet.now (once-none old new c.tick_stage.ensures.same) c.tick_stage.ensures.leaves.counting c.requires.quiet on

pub returns-then-pending-clause-rests : goal.returns-then-pending-clause-rests
returns-then-pending-clause-rests g c = c.tick_stage.ensures.leaves.rests

pub returns-then-pending-clause-power : goal.returns-then-pending-clause-power
returns-then-pending-clause-power g c = c.tick_stage.ensures.power

pub tick_flush-requires-clause-ready : goal.tick_flush-requires-clause-ready
tick_flush-requires-clause-ready g c = c.requires.ready

pub tick_flush-requires-clause-rest : goal.tick_flush-requires-clause-rest
tick_flush-requires-clause-rest g c = (c.in_ok-runs.ensures.idle c.if-branch.false, none_left c.args.parts.now.stages c.if-pending.ensures.1)

pub tick_flush-requires-clause-some : goal.tick_flush-requires-clause-some
tick_flush-requires-clause-some g c = some-held c.used.result c.args.mark c.args.parts.now.frames.held c.requires.some c.if-used-mark.true c.used.ensures.value

pub returns-then-used-mark-clause-step : goal.returns-then-used-mark-clause-step
returns-then-used-mark-clause-step g c = inl c.tick_flush.ensures.same

pub returns-then-used-mark-clause-steady : goal.returns-then-used-mark-clause-steady
returns-then-used-mark-clause-steady g c = c.tick_flush.ensures.leaves.steady

pub returns-then-used-mark-clause-idle : goal.returns-then-used-mark-clause-idle
returns-then-used-mark-clause-idle g c idle none few due = not-few c.used.result c.args.mark (length c.args.parts.now.frames.held) c.if-used-mark.true c.used.ensures.value few

pub returns-then-used-mark-clause-quiet : goal.returns-then-used-mark-clause-quiet
returns-then-used-mark-clause-quiet g c on =
    quiet-step (chart (g.B.Board.state c.args.board.now)) (chart (g.B.Board.state c.tick_flush.new.board)) c.args.parts.now c.tick_flush.new.parts c.args.limit c.args.quiet.now (inl c.tick_flush.ensures.same) c.tick_flush.ensures.leaves.counting c.requires.quiet on

pub returns-then-used-mark-clause-rests : goal.returns-then-used-mark-clause-rests
returns-then-used-mark-clause-rests g c = c.tick_flush.ensures.leaves.rests

pub returns-then-used-mark-clause-power : goal.returns-then-used-mark-clause-power
returns-then-used-mark-clause-power g c = c.tick_flush.ensures.power

pub tick_swap-requires-clause-ready : goal.tick_swap-requires-clause-ready
tick_swap-requires-clause-ready g c = c.requires.ready

pub tick_swap-requires-clause-rest : goal.tick_swap-requires-clause-rest
tick_swap-requires-clause-rest g c = (c.in_ok-runs.ensures.idle c.if-branch.false, none_left c.args.parts.now.stages c.if-pending.ensures.1)

pub tick_swap-requires-clause-quiet : goal.tick_swap-requires-clause-quiet
tick_swap-requires-clause-quiet g c = c.requires.quiet

pub returns-clause-step : goal.returns-clause-step
returns-clause-step g c = once-none _ _ c.tick_swap.ensures.same

pub returns-clause-steady : goal.returns-clause-steady
returns-clause-steady g c = c.tick_swap.ensures.steady

pub returns-clause-counts : goal.returns-clause-counts
returns-clause-counts g c = c.tick_swap.ensures.counts

pub returns-clause-idle : goal.returns-clause-idle
returns-clause-idle g c idle none few due = c.tick_swap.ensures.idle due

pub returns-clause-quiet : goal.returns-clause-quiet
returns-clause-quiet g c = c.tick_swap.ensures.quiet

pub returns-clause-rests : goal.returns-clause-rests
returns-clause-rests g c = c.tick_swap.ensures.rests

pub returns-clause-power : goal.returns-clause-power
returns-clause-power g c = c.tick_swap.ensures.power
