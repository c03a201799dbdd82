use Rattle.std.proofs.Common.{ap, ◌∙◌, arith}
use Rattle.envy_base.specs.Shape.{IsShape}
use Rattle.envy_base.specs.State.{IsMade}
use Rattle.envy_io.specs.Taking.{Taking}
use Rattle.envy_map.specs.Fields.{chart}
use Rattle.envy_run.specs.Outcome.{outcome_of}
use Rattle.envy_run.specs.Prepares.{IsPrepared, IsReady}
use Rattle.envy_run.proofs.Checked.{shape-of-checked}
use Rattle.envy_run.proofs.Preparing.{no-second}
use Rattle.envy_run.proofs.Traced.{runs-quiet, runs-ended, traced-none}
use Rattle.envy_run.proofs.commands.run_trace.Goals as goal

pub returns-in-Err-clause-runs : goal.returns-in-Err-clause-runs
returns-in-Err-clause-runs g c =
    runs-quiet c.args.setup c.args.lives (outcome_of g.M.Made.Board.state c.in-Err.finished) (g.S.Source.feed c.args.source.now) (g.K.Sink.drain c.args.sink.now) c.ranges.lives.fits c.in-Err.ensures

pub serve-served-requires-clause-begun : goal.serve-served-requires-clause-begun
serve-served-requires-clause-begun g c =
    let b = c.in-Ok.ensures in
    (_, traced-none (chart b.made) c.args.setup c.in-Ok.memory (IsShape.entries (shape-of-checked c.args.setup c.requires)) (IsPrepared.shape (IsReady.prepared b.ready) ∙ IsMade.shape b.new) b.ready)

pub returns-clause-runs : goal.returns-clause-runs
returns-clause-runs g c =
    runs-ended g.M.Made.Board.state c.args.setup c.args.lives c.in-Ok.memory c.serve-served.new.service.memory c.serve-served.result.end c.serve-served.result.lines c.serve-served.result.taken c.new-2.result.taken c.into_board.result c.finished_with.result (record { from = g.S.Source.feed c.args.source.now; feed = g.S.Source.feed c.serve-served.new.source; to = g.K.Sink.drain c.args.sink.now; sink = g.K.Sink.drain c.serve-served.new.sink }) c.finished_with.ensures c.into_board.ensures.same (ap (λ (t : Taking). t.taken) c.new-2.ensures) (let few = c.serve-served.ensures.few in let read = c.serve-served.ensures.read in omega arith) (IsShape.entries (shape-of-checked c.args.setup c.requires)) c.ranges.lives.fits c.in-Ok.ensures c.serve-served.ensures.serves

pub returns-in-Err-clause-few : goal.returns-in-Err-clause-few
returns-in-Err-clause-few g c = let lines = c.in-Err.ensures.lines in let taken = c.in-Err.ensures.taken in omega arith

pub returns-in-Err-clause-read : goal.returns-in-Err-clause-read
returns-in-Err-clause-read g c = let taken = c.in-Err.ensures.taken in omega arith

pub returns-in-Err-clause-second : goal.returns-in-Err-clause-second
returns-in-Err-clause-second g c = no-second (λ board. chart (g.M.Made.Board.state board)) c.in-Err.finished.second c.in-Err.ensures.second
