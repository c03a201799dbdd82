use Rattle.std.proofs.Common.{ℕ, ◌<◌, ap, sym, subst, ◌∙◌}
use Rattle.std.specs.Prelude.{Err}
use Rattle.envy_mirror.specs.Pair.{Pair}
use Rattle.envy_serve.specs.Obeys.{Obeys}
use Rattle.envy_serve.specs.declared.service.LineOutcome.TheVariants.{Done}
use Rattle.envy_trace.specs.Mirror.{ReadsMirror}
use Rattle.envy_trace.specs.declared.line.Line.TheVariants.{Power as PowerLine}
use Rattle.envy_trace.specs.declared.mirror_line.MirrorLine.{MirrorLine}
use Rattle.envy_trace.specs.declared.mirror_line.MirrorLine.TheVariants.{Array as OfArray}
use Rattle.envy_pair.specs.MirrorRun.{mirror_grammar}
use Rattle.envy_pair.specs.Serving.{FellSince, IsReady, MirroredSince, ObeysMirror, Serves}
use Rattle.envy_pair.specs.declared.answers.BoardRequest.TheVariants.{Nothing, Power}
use Rattle.envy_pair.proofs.Since.{obeys-since}
use Rattle.envy_pair.proofs.Telling.{empty-obeys}
use Rattle.envy_pair.proofs.mirror_service.MirrorServiceService.obey.Goals as goal

pub answer-requires-clause-ready : goal.answer-requires-clause-ready
answer-requires-clause-ready g c = (IsReady.array c.requires.ready, IsReady.mirrors c.requires.ready)

pub answer-requires-clause-side : goal.answer-requires-clause-side
answer-requires-clause-side g c = IsReady.within c.requires.ready

pub answer-requires-clause-ranges : goal.answer-requires-clause-ranges
answer-requires-clause-ranges g c = ReadsMirror.ranges ((c.mirror_grammar_holds_both_ways.ensures.spelled c.requires.said.bytes c.args.line.now).0 c.requires.said.says)

pub obey_power-requires : goal.obey_power-requires
obey_power-requires g c =
    let (line, same, stays) = c.answer.ensures.beside Power (c.in-Err-Power.is ∙ ap Err c.in-Err-Power.field-0-is) in
    subst (λ (n : ℕ). n < 2) (sym stays) (IsReady.within c.requires.ready)

pub returns-in-Ok : goal.returns-in-Ok
returns-in-Ok g c start turns t =
    let ranges = ReadsMirror.ranges ((c.mirror_grammar_holds_both_ways.ensures.spelled c.requires.said.bytes c.args.line.now).0 c.requires.said.says) in
    obeys-since start c.args.self.now.mirror c.tell.new.mirror c.args.self.now.side c.answer.new.side turns c.args.line.now c.tell.result (g.K.Sink.drain c.args.sink.now) (g.K.Sink.drain c.tell.new.sink) t
    (c.tell.ensures (MirroredSince.known t) c.args.line.now c.args.self.now.mirror c.args.self.now.side c.answer.new.side (IsReady.within c.requires.ready) ranges (MirroredSince.serves t) c.in-Ok.ensures.heard)

pub returns-in-Err-Nothing : goal.returns-in-Err-Nothing
returns-in-Err-Nothing g c start turns t =
    let old = c.args.self.now.mirror in
    let side = c.args.self.now.side in
    let sink = g.K.Sink.drain c.args.sink.now in
    let (line, same, stays) = c.answer.ensures.beside Nothing (c.in-Err-Nothing.is ∙ ap Err c.in-Err-Nothing.field-0-is) in
    subst (λ (n : ℕ). Obeys Done mirror_grammar (MirroredSince start c.answer.new.mirror n) (FellSince start c.answer.new.mirror) turns c.args.line.now sink sink) (sym stays)
    (subst (λ (p : Pair). Obeys Done mirror_grammar (MirroredSince start p side) (FellSince start p) turns c.args.line.now sink sink) (sym same)
    (obeys-since start old old side side turns c.args.line.now Done sink sink t (empty-obeys (MirroredSince.known t) c.args.line.now old side sink line (IsReady.within c.requires.ready) (MirroredSince.serves t))))

pub returns-in-Err-Power : goal.returns-in-Err-Power
returns-in-Err-Power g c start turns t =
    let old = c.args.self.now.mirror in
    let new = c.obey_power.new.mirror in
    let side = c.args.self.now.side in
    let chosen = c.answer.new.side in
    let known = MirroredSince.known t in
    let sink = g.K.Sink.drain c.args.sink.now in
    let then_sink = g.K.Sink.drain c.obey_power.new.sink in
    let (line, same, stays) = c.answer.ensures.beside Power (c.in-Err-Power.is ∙ ap Err c.in-Err-Power.field-0-is) in
    obeys-since start old new side chosen turns c.args.line.now c.obey_power.result sink then_sink t
    (subst (λ (l : MirrorLine). ObeysMirror known l c.obey_power.result old side new chosen sink then_sink) (sym line)
    (subst (λ (p : Pair). ObeysMirror known (OfArray PowerLine) c.obey_power.result p side new chosen sink then_sink) same
    (subst (λ (n : ℕ). ObeysMirror known (OfArray PowerLine) c.obey_power.result c.answer.new.mirror n new chosen sink then_sink) stays
    (c.obey_power.ensures known (subst (λ (p : Pair). Serves known p) (sym same) (MirroredSince.serves t))))))
