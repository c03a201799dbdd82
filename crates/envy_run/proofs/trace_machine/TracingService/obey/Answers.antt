use Rattle.std.proofs.Common.{ap, sym, subst, ◌∙◌}
use Rattle.std.specs.Prelude.{IsTrue, Ok, Err}
use Rattle.envy_meaning.specs.Stands.{Stands}
use Rattle.envy_memory.specs.Picture.{Picture}
use Rattle.envy_serve.specs.Obeys.{Obeys}
use Rattle.envy_serve.specs.declared.service.LineOutcome.TheVariants.{Done}
use Rattle.envy_trace.specs.Spelling.{IsLine, Reads}
use Rattle.envy_trace.specs.declared.line.Line.{Line}
use Rattle.envy_trace.specs.declared.line.Line.TheVariants.{Power as PowerLine}
use Rattle.envy_run.specs.Answers.{line_of_plan}
use Rattle.envy_run.specs.Hits.{MayTell}
use Rattle.envy_run.specs.Obeys.{LineAnswers, ObeysLine}
use Rattle.envy_run.specs.Tells.{CanTell, Telling}
use Rattle.envy_run.specs.Tracing.{DiedSince, HasDone, TracedSince}
use Rattle.envy_run.specs.Turns.{trace_grammar}
use Rattle.envy_run.specs.declared.answers.BoardRequest.TheVariants.{Nothing, PlannedFault as OfPlan, Power}
use Rattle.envy_run.proofs.Obeying.{empty-done}
use Rattle.envy_run.proofs.Traced.{traced-obeys}
use Rattle.envy_run.proofs.trace_machine.TracingService.obey.Goals as goal

pub obey_power-requires : goal.obey_power-requires
obey_power-requires g c =
    let (line, same) = c.answer.ensures.beside Power (c.in-Err-Power.is ∙ ap Err c.in-Err-Power.field-0-is) in
    subst (λ (p : Picture). IsTrue p.chart.on) (sym same) c.requires.ready

pub arm-reply-requires-clause-on : goal.arm-reply-requires-clause-on
arm-reply-requires-clause-on g c =
    let (line, same) = c.answer.ensures.beside (OfPlan c.in-Err-PlannedFault.plan) (c.in-Err-PlannedFault.is ∙ ap Err c.in-Err-PlannedFault.field-0-is) in
    subst (λ (p : Picture). IsTrue p.chart.on) (sym same) c.requires.ready

pub arm-reply-requires-clause-ranges : goal.arm-reply-requires-clause-ranges
arm-reply-requires-clause-ranges g c =
    let (line, same) = c.answer.ensures.beside (OfPlan c.in-Err-PlannedFault.plan) (c.in-Err-PlannedFault.is ∙ ap Err c.in-Err-PlannedFault.field-0-is) in
    subst IsLine line (Reads.ranges ((c.grammar_holds_both_ways.ensures.spelled c.requires.said.bytes c.args.line.now).0 c.requires.said.says))

pub returns-in-Ok : goal.returns-in-Ok
returns-in-Ok g c start turns t =
    let old = c.args.self.now.memory in
    let array = HasDone.array (TracedSince.done t) in
    let stands = HasDone.stands (TracedSince.done t) in
    traced-obeys start old c.tell.new.memory turns c.args.line.now c.tell.result (g.K.Sink.drain c.args.sink.now) (g.K.Sink.drain c.tell.new.sink) t (c.tell.ensures c.args.line.now turns array old stands (record {
      step = c.in-Ok.ensures.step turns array stands (Telling.can (TracedSince.telling t));
      lost = (λ e. c.in-Ok.ensures.lost.0 (ap Ok e), λ off. let e = c.in-Ok.ensures.lost.1 off in cc);
      licence = c.in-Ok.ensures.licence;
      notes = c.in-Ok.ensures.notes;
      works = c.in-Ok.ensures.works;
    }))

pub returns-in-Err-Nothing : goal.returns-in-Err-Nothing
returns-in-Err-Nothing g c start turns t =
    let old = c.args.self.now.memory in
    let sink = g.K.Sink.drain c.args.sink.now in
    let array = HasDone.array (TracedSince.done t) in
    let (line, same) = c.answer.ensures.beside Nothing (c.in-Err-Nothing.is ∙ ap Err c.in-Err-Nothing.field-0-is) in
    subst (λ (p : Picture). Obeys Done trace_grammar (TracedSince start p) (DiedSince start p) turns c.args.line.now sink sink) (sym same)
    (traced-obeys start old old turns c.args.line.now Done sink sink t (empty-done (MayTell old.chart.shape.entries turns) array c.args.line.now old sink line (HasDone.stands (TracedSince.done t))))

pub returns-in-Err-Power : goal.returns-in-Err-Power
returns-in-Err-Power g c start turns t =
    let old = c.args.self.now.memory in
    let new = c.obey_power.new.memory in
    let array = HasDone.array (TracedSince.done t) in
    let sink = g.K.Sink.drain c.args.sink.now in
    let then_sink = g.K.Sink.drain c.obey_power.new.sink in
    let (line, same) = c.answer.ensures.beside Power (c.in-Err-Power.is ∙ ap Err c.in-Err-Power.field-0-is) in
    traced-obeys start old new turns c.args.line.now c.obey_power.result sink then_sink t
    (subst (λ (l : Line). ObeysLine (MayTell old.chart.shape.entries turns) array l c.obey_power.result old new sink then_sink) (sym line)
    (subst (λ (p : Picture). ObeysLine (MayTell p.chart.shape.entries turns) array PowerLine c.obey_power.result p new sink then_sink) same
    (c.obey_power.ensures turns array (subst (λ (p : Picture). Stands p.chart array) (sym same) (HasDone.stands (TracedSince.done t))))))

pub returns-in-Err-PlannedFault : goal.returns-in-Err-PlannedFault
returns-in-Err-PlannedFault g c start turns t =
    let old = c.args.self.now.memory in
    let mid = c.answer.new.memory in
    let new = c.arm-reply.new.memory in
    let reply = c.arm-reply.result in
    let array = HasDone.array (TracedSince.done t) in
    let stands = HasDone.stands (TracedSince.done t) in
    let (line, same) = c.answer.ensures.beside (OfPlan c.in-Err-PlannedFault.plan) (c.in-Err-PlannedFault.is ∙ ap Err c.in-Err-PlannedFault.field-0-is) in
    let planned : LineAnswers (MayTell mid.chart.shape.entries turns) array (line_of_plan c.in-Err-PlannedFault.plan) reply mid new = record {
      step = c.arm-reply.ensures.step turns array (subst (λ (p : Picture). Stands p.chart array) (sym same) stands) (subst (λ (p : Picture). CanTell p.chart.shape.entries turns p.parts) (sym same) (Telling.can (TracedSince.telling t)));
      lost = c.arm-reply.ensures.lost;
      licence = c.arm-reply.ensures.licence;
      notes = c.arm-reply.ensures.notes;
      works = c.arm-reply.ensures.works;
    } in
    traced-obeys start old c.tell-in-Err-PlannedFault.new.memory turns c.args.line.now c.tell-in-Err-PlannedFault.result (g.K.Sink.drain c.args.sink.now) (g.K.Sink.drain c.tell-in-Err-PlannedFault.new.sink) t
    (c.tell-in-Err-PlannedFault.ensures c.args.line.now turns array old stands
    (subst (λ (l : Line). LineAnswers (MayTell old.chart.shape.entries turns) array l reply old new) (sym line)
    (subst (λ (p : Picture). LineAnswers (MayTell p.chart.shape.entries turns) array (line_of_plan c.in-Err-PlannedFault.plan) reply p new) same planned)))
