use Rattle.std.proofs.Common.{refl, sym, subst}
use Rattle.std.specs.Prelude.{Option}
use Rattle.std.specs.Option.{option_map}
use Rattle.envy_run.specs.Headline.{image_in, save_task}
use Rattle.envy_serve.specs.Streams.{Streams}
use Rattle.envy_run.specs.Outcome.{numbers_of, outcome_of}
use Rattle.envy_run.specs.Task.{DoesTask}
use Rattle.envy_run.specs.Writing.{WritesOut}
use Rattle.envy_run.specs.declared.endings.Ending.{Ending}
use Rattle.envy_run.specs.declared.endings.Ending.TheVariants.{Done}
use Rattle.envy_run.proofs.Accounts.{done-alone, ends-as}
use Rattle.envy_run.proofs.Saved.{saves-nothing, saves-image, board-done, saved-on, saved-some}
use Rattle.envy_run.proofs.save_run.run_save.Goals as goal

pub write_board-wrote-requires : goal.write_board-wrote-requires
write_board-wrote-requires g c =
    let o = outcome_of g.M.Made.Board.state c.run_trace-traced.result in
    saved-on g.M.Made.Board.state c.in-Some.board c.run_trace-traced.result.board c.in-Some.is (board-done c.args.setup c.args.lives o _ c.run_trace-traced.ensures.runs refl (ends-as g.M.Made.Board.state c.run_trace-traced.result Done c.in-Done.is))

pub unreachable-requires : goal.unreachable-requires
unreachable-requires g c =
    let o = outcome_of g.M.Made.Board.state c.run_trace-traced.result in
    saved-some g.M.Made.Board.state c.run_trace-traced.result.board c.in-None.is (board-done c.args.setup c.args.lives o _ c.run_trace-traced.ensures.runs refl (ends-as g.M.Made.Board.state c.run_trace-traced.result Done c.in-Done.is))

pub returns-in_default-clause-runs : goal.returns-in_default-clause-runs
returns-in_default-clause-runs g c =
    let o = outcome_of g.M.Made.Board.state c.run_trace-traced.result in
    saves-nothing c.args.setup c.args.lives o _ c.run_trace-traced.ensures.runs refl (g.K.Sink.drain c.args.sink.now) (λ done. c.in_default.not-Done (done-alone g.M.Made.Board.state c.run_trace-traced.result done))

pub returns-clause-runs : goal.returns-clause-runs
returns-clause-runs g c =
    let to = g.K.Sink.drain c.args.sink.now in
    let sink = g.K.Sink.drain c.write_board-wrote.new.sink in
    let o = outcome_of g.M.Made.Board.state c.run_trace-traced.result in
    let io : Streams = record { from = g.S.Source.feed c.args.source.now; feed = g.S.Source.feed c.run_trace-traced.new.source; to = to; sink = sink } in
    subst (λ (e : Ending). DoesTask (save_task c.args.setup c.args.lives) (record o { status = (numbers_of e).0; why = (numbers_of e).1 }) io) (sym c.written-traced.ensures)
    (saves-image c.args.setup c.args.lives o _ c.run_trace-traced.ensures.runs refl to sink c.write_board-wrote.result (ends-as g.M.Made.Board.state c.run_trace-traced.result Done c.in-Done.is)
    (subst (λ (found : Option g.row.M-Made.Denot). WritesOut (image_in (option_map g.M.Made.Board.state found)) c.write_board-wrote.result to sink) (sym c.in-Some.is) c.write_board-wrote.ensures))
