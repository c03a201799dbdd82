use Rattle.std.proofs.Common.{inl, sym, subst}
use Rattle.std.specs.Prelude.{Ok}
use Rattle.envy_args.specs.declared.command.Command.{Command}
use Rattle.envy_run.specs.Drives.{TellsAll}
use Rattle.envy_run.specs.Headline.{Headline}
use Rattle.envy_run.specs.Outcome.{Outcome, outcome_of}
use Rattle.envy_serve.specs.Streams.{Streams}
use Rattle.envy_run.proofs.Generating.{generated}
use Rattle.envy_run.proofs.commands.perform.Goals as goal

pub returns-in-Run-clause-headline : goal.returns-in-Run-clause-headline
returns-in-Run-clause-headline g c =
    let o : Outcome = outcome_of g.M.Made.Board.state c.run_trace.result in
    let io : Streams = record { from = g.S.Source.feed c.args.source.now; feed = g.S.Source.feed c.run_trace.new.source; to = g.K.Sink.drain c.args.sink.now; sink = g.K.Sink.drain c.run_trace.new.sink } in
    subst (λ (x : Command). Headline (Ok x) o io) (sym c.in-Run.is) (inl c.run_trace.ensures.runs)

pub returns-in-Plain-clause-headline : goal.returns-in-Plain-clause-headline
returns-in-Plain-clause-headline g c =
    let o : Outcome = outcome_of g.M.Made.Board.state c.run_plain.result in
    let io : Streams = record { from = g.S.Source.feed c.args.source.now; feed = g.S.Source.feed c.run_plain.new.source; to = g.K.Sink.drain c.args.sink.now; sink = g.K.Sink.drain c.run_plain.new.sink } in
    subst (λ (x : Command). Headline (Ok x) o io) (sym c.in-Plain.is) (inl (c.run_plain.ensures.runs g.M.Made.Board.state))

pub returns-in-Audit-clause-headline : goal.returns-in-Audit-clause-headline
returns-in-Audit-clause-headline g c =
    let o : Outcome = outcome_of g.M.Made.Board.state c.run_audit.result in
    let io : Streams = record { from = g.S.Source.feed c.args.source.now; feed = g.S.Source.feed c.run_audit.new.source; to = g.K.Sink.drain c.args.sink.now; sink = g.K.Sink.drain c.run_audit.new.sink } in
    subst (λ (x : Command). Headline (Ok x) o io) (sym c.in-Audit.is) (inl c.run_audit.ensures.audits)

pub returns-in-Save-clause-headline : goal.returns-in-Save-clause-headline
returns-in-Save-clause-headline g c =
    let o : Outcome = outcome_of g.M.Made.Board.state c.run_save.result in
    let io : Streams = record { from = g.S.Source.feed c.args.source.now; feed = g.S.Source.feed c.run_save.new.source; to = g.K.Sink.drain c.args.sink.now; sink = g.K.Sink.drain c.run_save.new.sink } in
    subst (λ (x : Command). Headline (Ok x) o io) (sym c.in-Save.is) (inl c.run_save.ensures.runs)

pub returns-in-Index-clause-headline : goal.returns-in-Index-clause-headline
returns-in-Index-clause-headline g c =
    let o : Outcome = outcome_of g.M.Made.Board.state c.run_index.result in
    let io : Streams = record { from = g.S.Source.feed c.args.source.now; feed = g.S.Source.feed c.run_index.new.source; to = g.K.Sink.drain c.args.sink.now; sink = g.K.Sink.drain c.run_index.new.sink } in
    subst (λ (x : Command). Headline (Ok x) o io) (sym c.in-Index.is) (inl c.run_index.ensures.runs)

pub returns-in-Resume-clause-headline : goal.returns-in-Resume-clause-headline
returns-in-Resume-clause-headline g c =
    let o : Outcome = outcome_of g.M.Made.Board.state c.run_resume.result in
    let io : Streams = record { from = g.S.Source.feed c.args.source.now; feed = g.S.Source.feed c.run_resume.new.source; to = g.K.Sink.drain c.args.sink.now; sink = g.K.Sink.drain c.run_resume.new.sink } in
    subst (λ (x : Command). Headline (Ok x) o io) (sym c.in-Resume.is) (inl c.run_resume.ensures.resumes)

pub returns-in-Tpca-clause-headline : goal.returns-in-Tpca-clause-headline
returns-in-Tpca-clause-headline g c =
    let o : Outcome = outcome_of g.M.Made.Board.state c.run_tpca.result in
    let feed = g.S.Source.feed c.args.source.now in
    let io : Streams = record { from = feed; feed = feed; to = g.K.Sink.drain c.args.sink.now; sink = g.K.Sink.drain c.run_tpca.new.sink } in
    subst (λ (x : Command). Headline (Ok x) o io) (sym c.in-Tpca.is) (inl (c.run_tpca.ensures.drives feed))

pub returns-in-Tpca-clause-told : goal.returns-in-Tpca-clause-told
returns-in-Tpca-clause-told g c = λ kind.
    let o : Outcome = outcome_of g.M.Made.Board.state c.run_tpca.result in
    let feed = g.S.Source.feed c.args.source.now in
    let io : Streams = record { from = feed; feed = feed; to = g.K.Sink.drain c.args.sink.now; sink = g.K.Sink.drain c.run_tpca.new.sink } in
    subst (λ (x : Command). TellsAll (Ok x) o io) (sym c.in-Tpca.is) (c.run_tpca.ensures.told kind feed)

pub returns-in-Map-clause-headline : goal.returns-in-Map-clause-headline
returns-in-Map-clause-headline g c =
    let o : Outcome = outcome_of g.M.Made.Board.state c.run_map.result in
    let io : Streams = record { from = g.S.Source.feed c.args.source.now; feed = g.S.Source.feed c.run_map.new.source; to = g.K.Sink.drain c.args.sink.now; sink = g.K.Sink.drain c.run_map.new.sink } in
    subst (λ (x : Command). Headline (Ok x) o io) (sym c.in-Map.is) (inl c.run_map.ensures.maps)

pub returns-in-Gen-clause-headline : goal.returns-in-Gen-clause-headline
returns-in-Gen-clause-headline g c =
    let feed = g.S.Source.feed c.args.source.now in
    subst (λ (x : Command). Headline (Ok x) (outcome_of g.M.Made.Board.state c.run_gen.result) (record { from = feed; feed = feed; to = g.K.Sink.drain c.args.sink.now; sink = g.K.Sink.drain c.run_gen.new.sink })) (sym c.in-Gen.is)
    (inl (generated g.M.Made.Board.state c.in-Gen.start c.in-Gen.lines c.in-Gen.mix c.run_gen.result feed (g.K.Sink.drain c.args.sink.now) (g.K.Sink.drain c.run_gen.new.sink) c.run_gen.ensures.writes c.run_gen.ensures.ended))
