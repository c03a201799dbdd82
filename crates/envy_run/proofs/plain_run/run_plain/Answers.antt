use Rattle.std.proofs.Common.{inl, inr, ℕ, [], refl, sym, subst, ap}
use Rattle.envy_io.specs.Taking.{Taking}
use Rattle.envy_serve.specs.Streams.{Streams}
use Rattle.envy_serve.specs.Ends.{Serves}
use Rattle.envy_serve.proofs.Advancing.{Serves-as}
use Rattle.envy_run.specs.Calm.{HasDoneCalmly, NeverDies}
use Rattle.envy_run.specs.Turns.{trace_grammar}
use Rattle.envy_run.specs.Headline.{plain_task, zeros_of}
use Rattle.envy_run.specs.Task.{DoesTask}
use Rattle.envy_run.specs.declared.endings.Finished.{Finished}
use Rattle.envy_run.specs.Outcome.{outcome_of}
use Rattle.envy_run.proofs.Accounts.{account_of}
use Rattle.envy_run.proofs.Checked.{shape-of-checked}
use Rattle.envy_run.proofs.plain_run.run_plain.Goals as goal

pub new-requires : goal.new-requires
new-requires g c = shape-of-checked c.args.setup.now c.requires

pub returns-in_default-clause-runs : goal.returns-in_default-clause-runs
returns-in_default-clause-runs g c state =
    let io : Streams = record { from = g.S.Source.feed c.args.source.now; feed = g.S.Source.feed c.args.source.now; to = g.K.Sink.drain c.args.sink.now; sink = g.K.Sink.drain c.args.sink.now } in
    subst (λ (e : Finished g.row.B.Denot). DoesTask (plain_task c.args.setup.now) (outcome_of state e) io) (sym c.unserved.ensures)
    (account_of (plain_task c.args.setup.now) _ io (record { turns = []; answers = inr (refl, (record { lines = refl; taken = refl; source = refl; sink = refl }, record { status = refl; why = refl }), refl); licences = tt }))

pub returns-clause-runs : goal.returns-clause-runs
returns-clause-runs g c state =
    let io : Streams = record { from = g.S.Source.feed c.args.source.now; feed = g.S.Source.feed c.serve-served.new.source; to = g.K.Sink.drain c.args.sink.now; sink = g.K.Sink.drain c.serve-served.new.sink } in
    let first = zeros_of c.args.setup.now in
    let (turns, serves) = c.serve-served.ensures.serves first c.in-Ok.ensures in
    let from_start = subst (λ (k : ℕ). Serves c.serve-served.result.end c.serve-served.result.lines c.serve-served.result.taken trace_grammar k (HasDoneCalmly first c.serve-served.new.service.plain) NeverDies [] turns io) (ap (λ (t : Taking). t.taken) c.new-3.ensures) serves in
    subst (λ (e : Finished g.row.B.Denot). DoesTask (plain_task c.args.setup.now) (outcome_of state e) io) (sym c.finished_with.ensures)
    (account_of (plain_task c.args.setup.now) _ io (record {
      turns = turns;
      answers = inl (record {
        end = c.serve-served.result.end;
        serves = Serves-as c.serve-served.result.end c.serve-served.result.lines c.serve-served.result.taken trace_grammar 0 (HasDoneCalmly first c.serve-served.new.service.plain) NeverDies _ _ [] turns io (λ done. (c.serve-served.new.service.plain, done, refl)) (λ never. absurd never) from_start;
        ending = record { status = refl; why = refl };
      });
      licences = tt;
    }))
