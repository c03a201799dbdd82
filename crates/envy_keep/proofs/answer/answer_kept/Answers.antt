use Rattle.std.proofs.Common.{◌≡◌, refl, sym, subst, ap, ◌∙◌}
use Rattle.std.specs.Prelude.{Ok, Err}
use Rattle.envy_trace.specs.declared.keep_line.KeepLine.{KeepLine}
use Rattle.envy_trace.specs.declared.keep_line.KeepLine.TheVariants.{Trace}
use Rattle.envy_trace.specs.declared.keep_reply.KeepReply.TheVariants.{Trace as TraceReply}
use Rattle.envy_keep.specs.Answers.{AnswersKeep}
use Rattle.envy_keep.proofs.answer.answer_kept.Goals as goal

pub returns-in-Ok-clause-answers : goal.returns-in-Ok-clause-answers
returns-in-Ok-clause-answers g c =
    let a = c.in-Ok.ensures in
    subst (λ (line : KeepLine). AnswersKeep line (TraceReply c.in-Ok.reply) c.args.memory.now c.answer.new.memory) (sym c.in-Trace.is)
    (c.in-Ok.reply, refl, record { step = a.step; lost = (λ e. a.lost.0 (ap Ok e), λ off. let e = a.lost.1 off in cc); licence = a.licence; notes = a.notes; works = a.works; rules = a.rules })

pub returns-in-Sync-clause-answers : goal.returns-in-Sync-clause-answers
returns-in-Sync-clause-answers g c = subst (λ (line : KeepLine). AnswersKeep line c.sync.result c.args.memory.now c.sync.new.memory) (sym c.in-Sync.is) c.sync.ensures

pub returns-in-Err-clause-beside : goal.returns-in-Err-clause-beside
returns-in-Err-clause-beside g c other e =
    let is : c.in-Err.beside ≡ other = (let same = e in cc) in
    let (line, stays) = c.answer.ensures.beside other (c.in-Err.is ∙ ap Err is) in
    (c.in-Trace.is ∙ ap Trace line, stays)
