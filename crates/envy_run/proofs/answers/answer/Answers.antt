use Rattle.std.proofs.Common.{[], ◌∷◌, refl, sym, subst}
use Rattle.envy_trace.specs.declared.line.Line.{Line}
use Rattle.envy_trace.specs.declared.line.Line.TheVariants.{Abort, Begin, Commit, Load, Look, Put, Store, Tick}
use Rattle.envy_run.specs.Answers.{AnswerLicence, Answered, AnswersTo}
use Rattle.envy_run.specs.Below.{FollowsRules, WorksOf}
use Rattle.envy_run.specs.Hits.{MayTell}
use Rattle.envy_run.specs.Tells.{Notes}
use Rattle.envy_run.proofs.Replying.{answers-may, lost-ok}
use Rattle.envy_run.proofs.answers.answer.Goals as goal

pub returns-in-Load-clause-step : goal.returns-in-Load-clause-step
returns-in-Load-clause-step g c earlier m stood can =
    subst (λ (line : Line). AnswersTo (MayTell c.args.memory.now.chart.shape.entries earlier) m line c.load.result c.load.new.memory.chart) (sym c.in-Load.is) (answers-may (MayTell c.args.memory.now.chart.shape.entries earlier) m (Load c.in-Load.address) c.load.result c.load.new.memory.chart (c.load.ensures.step m stood))

pub returns-in-Look-clause-step : goal.returns-in-Look-clause-step
returns-in-Look-clause-step g c earlier m stood can =
    subst (λ (line : Line). AnswersTo (MayTell c.args.memory.now.chart.shape.entries earlier) m line c.look.result c.args.memory.now.chart) (sym c.in-Look.is) (answers-may (MayTell c.args.memory.now.chart.shape.entries earlier) m (Look c.in-Look.address) c.look.result c.args.memory.now.chart (c.look.ensures.step m stood))

pub returns-in-Store-clause-step : goal.returns-in-Store-clause-step
returns-in-Store-clause-step g c earlier m stood can =
    subst (λ (line : Line). AnswersTo (MayTell c.args.memory.now.chart.shape.entries earlier) m line c.store.result c.store.new.memory.chart) (sym c.in-Store.is) (answers-may (MayTell c.args.memory.now.chart.shape.entries earlier) m (Store c.in-Store.address c.in-Store.word) c.store.result c.store.new.memory.chart (c.store.ensures.step m stood))

pub returns-in-Begin-clause-step : goal.returns-in-Begin-clause-step
returns-in-Begin-clause-step g c earlier m stood can =
    subst (λ (line : Line). AnswersTo (MayTell c.args.memory.now.chart.shape.entries earlier) m line c.begin.result c.begin.new.memory.chart) (sym c.in-Begin.is) (answers-may (MayTell c.args.memory.now.chart.shape.entries earlier) m Begin c.begin.result c.begin.new.memory.chart (c.begin.ensures.step m stood))

pub returns-in-Put-clause-step : goal.returns-in-Put-clause-step
returns-in-Put-clause-step g c earlier m stood can =
    subst (λ (line : Line). AnswersTo (MayTell c.args.memory.now.chart.shape.entries earlier) m line c.put.result c.put.new.memory.chart) (sym c.in-Put.is) (answers-may (MayTell c.args.memory.now.chart.shape.entries earlier) m (Put c.in-Put.slot c.in-Put.address c.in-Put.word) c.put.result c.put.new.memory.chart (c.put.ensures.step m stood))

pub returns-in-Commit-clause-step : goal.returns-in-Commit-clause-step
returns-in-Commit-clause-step g c earlier m stood can =
    subst (λ (line : Line). AnswersTo (MayTell c.args.memory.now.chart.shape.entries earlier) m line c.commit.result c.commit.new.memory.chart) (sym c.in-Commit.is) (answers-may (MayTell c.args.memory.now.chart.shape.entries earlier) m (Commit c.in-Commit.slot) c.commit.result c.commit.new.memory.chart (c.commit.ensures.step m stood))

pub returns-in-Abort-clause-step : goal.returns-in-Abort-clause-step
returns-in-Abort-clause-step g c earlier m stood can =
    subst (λ (line : Line). AnswersTo (MayTell c.args.memory.now.chart.shape.entries earlier) m line c.abort.result c.abort.new.memory.chart) (sym c.in-Abort.is) (answers-may (MayTell c.args.memory.now.chart.shape.entries earlier) m (Abort c.in-Abort.slot) c.abort.result c.abort.new.memory.chart (c.abort.ensures.step m stood))

pub returns-in-Tick-clause-step : goal.returns-in-Tick-clause-step
returns-in-Tick-clause-step g c earlier m stood can =
    subst (λ (line : Line). AnswersTo (MayTell c.args.memory.now.chart.shape.entries earlier) m line c.tick.result c.tick.new.memory.chart) (sym c.in-Tick.is) (answers-may (MayTell c.args.memory.now.chart.shape.entries earlier) m Tick c.tick.result c.tick.new.memory.chart (c.tick.ensures.step m stood))

pub returns-in-Load-clause-alone : goal.returns-in-Load-clause-alone
returns-in-Load-clause-alone g c m stood other = subst (λ (line : Line). Answered m line c.load.result c.load.new.memory.chart) (sym c.in-Load.is) (c.load.ensures.step m stood)

pub returns-in-Look-clause-alone : goal.returns-in-Look-clause-alone
returns-in-Look-clause-alone g c m stood other = subst (λ (line : Line). Answered m line c.look.result c.args.memory.now.chart) (sym c.in-Look.is) (c.look.ensures.step m stood)

pub returns-in-Store-clause-alone : goal.returns-in-Store-clause-alone
returns-in-Store-clause-alone g c m stood other = subst (λ (line : Line). Answered m line c.store.result c.store.new.memory.chart) (sym c.in-Store.is) (c.store.ensures.step m stood)

pub returns-in-Begin-clause-alone : goal.returns-in-Begin-clause-alone
returns-in-Begin-clause-alone g c m stood other = subst (λ (line : Line). Answered m line c.begin.result c.begin.new.memory.chart) (sym c.in-Begin.is) (c.begin.ensures.step m stood)

pub returns-in-Put-clause-alone : goal.returns-in-Put-clause-alone
returns-in-Put-clause-alone g c m stood other = subst (λ (line : Line). Answered m line c.put.result c.put.new.memory.chart) (sym c.in-Put.is) (c.put.ensures.step m stood)

pub returns-in-Commit-clause-alone : goal.returns-in-Commit-clause-alone
returns-in-Commit-clause-alone g c m stood other = subst (λ (line : Line). Answered m line c.commit.result c.commit.new.memory.chart) (sym c.in-Commit.is) (c.commit.ensures.step m stood)

pub returns-in-Abort-clause-alone : goal.returns-in-Abort-clause-alone
returns-in-Abort-clause-alone g c m stood other = subst (λ (line : Line). Answered m line c.abort.result c.abort.new.memory.chart) (sym c.in-Abort.is) (c.abort.ensures.step m stood)

pub returns-in-Tick-clause-alone : goal.returns-in-Tick-clause-alone
returns-in-Tick-clause-alone g c m stood other = subst (λ (line : Line). Answered m line c.tick.result c.tick.new.memory.chart) (sym c.in-Tick.is) (c.tick.ensures.step m stood)

pub returns-in-Load-clause-lost : goal.returns-in-Load-clause-lost
returns-in-Load-clause-lost g c = lost-ok c.load.result c.load.new.memory.chart c.load.ensures.lost

pub returns-in-Load-clause-licence : goal.returns-in-Load-clause-licence
returns-in-Load-clause-licence g c = subst (λ (line : Line). AnswerLicence line c.load.result c.args.memory.now.chart c.load.new.memory.chart) (sym c.in-Load.is) c.load.ensures.licence

pub returns-in-Load-clause-notes : goal.returns-in-Load-clause-notes
returns-in-Load-clause-notes g c = subst (λ (line : Line). Notes line (c.load.result ∷ []) c.args.memory.now c.load.new.memory) (sym c.in-Load.is) c.load.ensures.notes

pub returns-in-Load-clause-works : goal.returns-in-Load-clause-works
returns-in-Load-clause-works g c = subst (λ (line : Line). WorksOf line c.args.memory.now.chart c.load.new.memory.chart) (sym c.in-Load.is) c.load.ensures.works

pub returns-in-Load-clause-rules : goal.returns-in-Load-clause-rules
returns-in-Load-clause-rules g c = subst (λ (line : Line). FollowsRules line c.load.result c.args.memory.now c.load.new.memory) (sym c.in-Load.is) c.load.ensures.rules

pub returns-in-Look-clause-lost : goal.returns-in-Look-clause-lost
returns-in-Look-clause-lost g c = lost-ok c.look.result c.args.memory.now.chart c.look.ensures.lost

pub returns-in-Look-clause-licence : goal.returns-in-Look-clause-licence
returns-in-Look-clause-licence g c = subst (λ (line : Line). AnswerLicence line c.look.result c.args.memory.now.chart c.args.memory.now.chart) (sym c.in-Look.is) c.look.ensures.licence

pub returns-in-Look-clause-notes : goal.returns-in-Look-clause-notes
returns-in-Look-clause-notes g c = subst (λ (line : Line). Notes line (c.look.result ∷ []) c.args.memory.now c.args.memory.now) (sym c.in-Look.is) c.look.ensures.notes

pub returns-in-Look-clause-works : goal.returns-in-Look-clause-works
returns-in-Look-clause-works g c = subst (λ (line : Line). WorksOf line c.args.memory.now.chart c.args.memory.now.chart) (sym c.in-Look.is) refl

pub returns-in-Look-clause-rules : goal.returns-in-Look-clause-rules
returns-in-Look-clause-rules g c = subst (λ (line : Line). FollowsRules line c.look.result c.args.memory.now c.args.memory.now) (sym c.in-Look.is) refl

pub returns-in-Store-clause-lost : goal.returns-in-Store-clause-lost
returns-in-Store-clause-lost g c = lost-ok c.store.result c.store.new.memory.chart c.store.ensures.lost

pub returns-in-Store-clause-licence : goal.returns-in-Store-clause-licence
returns-in-Store-clause-licence g c = subst (λ (line : Line). AnswerLicence line c.store.result c.args.memory.now.chart c.store.new.memory.chart) (sym c.in-Store.is) c.store.ensures.licence

pub returns-in-Store-clause-notes : goal.returns-in-Store-clause-notes
returns-in-Store-clause-notes g c = subst (λ (line : Line). Notes line (c.store.result ∷ []) c.args.memory.now c.store.new.memory) (sym c.in-Store.is) c.store.ensures.notes

pub returns-in-Store-clause-works : goal.returns-in-Store-clause-works
returns-in-Store-clause-works g c = subst (λ (line : Line). WorksOf line c.args.memory.now.chart c.store.new.memory.chart) (sym c.in-Store.is) c.store.ensures.works

pub returns-in-Store-clause-rules : goal.returns-in-Store-clause-rules
returns-in-Store-clause-rules g c = subst (λ (line : Line). FollowsRules line c.store.result c.args.memory.now c.store.new.memory) (sym c.in-Store.is) c.store.ensures.rules

pub returns-in-Begin-clause-lost : goal.returns-in-Begin-clause-lost
returns-in-Begin-clause-lost g c = lost-ok c.begin.result c.begin.new.memory.chart c.begin.ensures.lost

pub returns-in-Begin-clause-licence : goal.returns-in-Begin-clause-licence
returns-in-Begin-clause-licence g c = subst (λ (line : Line). AnswerLicence line c.begin.result c.args.memory.now.chart c.begin.new.memory.chart) (sym c.in-Begin.is) c.begin.ensures.licence

pub returns-in-Begin-clause-notes : goal.returns-in-Begin-clause-notes
returns-in-Begin-clause-notes g c = subst (λ (line : Line). Notes line (c.begin.result ∷ []) c.args.memory.now c.begin.new.memory) (sym c.in-Begin.is) c.begin.ensures.notes

pub returns-in-Begin-clause-works : goal.returns-in-Begin-clause-works
returns-in-Begin-clause-works g c = subst (λ (line : Line). WorksOf line c.args.memory.now.chart c.begin.new.memory.chart) (sym c.in-Begin.is) c.begin.ensures.works

pub returns-in-Begin-clause-rules : goal.returns-in-Begin-clause-rules
returns-in-Begin-clause-rules g c = subst (λ (line : Line). FollowsRules line c.begin.result c.args.memory.now c.begin.new.memory) (sym c.in-Begin.is) c.begin.ensures.rules

pub returns-in-Put-clause-lost : goal.returns-in-Put-clause-lost
returns-in-Put-clause-lost g c = lost-ok c.put.result c.put.new.memory.chart c.put.ensures.lost

pub returns-in-Put-clause-licence : goal.returns-in-Put-clause-licence
returns-in-Put-clause-licence g c = subst (λ (line : Line). AnswerLicence line c.put.result c.args.memory.now.chart c.put.new.memory.chart) (sym c.in-Put.is) c.put.ensures.licence

pub returns-in-Put-clause-notes : goal.returns-in-Put-clause-notes
returns-in-Put-clause-notes g c = subst (λ (line : Line). Notes line (c.put.result ∷ []) c.args.memory.now c.put.new.memory) (sym c.in-Put.is) c.put.ensures.notes

pub returns-in-Put-clause-works : goal.returns-in-Put-clause-works
returns-in-Put-clause-works g c = subst (λ (line : Line). WorksOf line c.args.memory.now.chart c.put.new.memory.chart) (sym c.in-Put.is) c.put.ensures.works

pub returns-in-Put-clause-rules : goal.returns-in-Put-clause-rules
returns-in-Put-clause-rules g c = subst (λ (line : Line). FollowsRules line c.put.result c.args.memory.now c.put.new.memory) (sym c.in-Put.is) c.put.ensures.rules

pub returns-in-Commit-clause-lost : goal.returns-in-Commit-clause-lost
returns-in-Commit-clause-lost g c = lost-ok c.commit.result c.commit.new.memory.chart c.commit.ensures.lost

pub returns-in-Commit-clause-licence : goal.returns-in-Commit-clause-licence
returns-in-Commit-clause-licence g c = subst (λ (line : Line). AnswerLicence line c.commit.result c.args.memory.now.chart c.commit.new.memory.chart) (sym c.in-Commit.is) c.commit.ensures.licence

pub returns-in-Commit-clause-notes : goal.returns-in-Commit-clause-notes
returns-in-Commit-clause-notes g c = subst (λ (line : Line). Notes line (c.commit.result ∷ []) c.args.memory.now c.commit.new.memory) (sym c.in-Commit.is) c.commit.ensures.notes

pub returns-in-Commit-clause-works : goal.returns-in-Commit-clause-works
returns-in-Commit-clause-works g c = subst (λ (line : Line). WorksOf line c.args.memory.now.chart c.commit.new.memory.chart) (sym c.in-Commit.is) c.commit.ensures.works

pub returns-in-Commit-clause-rules : goal.returns-in-Commit-clause-rules
returns-in-Commit-clause-rules g c = subst (λ (line : Line). FollowsRules line c.commit.result c.args.memory.now c.commit.new.memory) (sym c.in-Commit.is) c.commit.ensures.rules

pub returns-in-Abort-clause-lost : goal.returns-in-Abort-clause-lost
returns-in-Abort-clause-lost g c = lost-ok c.abort.result c.abort.new.memory.chart c.abort.ensures.lost

pub returns-in-Abort-clause-licence : goal.returns-in-Abort-clause-licence
returns-in-Abort-clause-licence g c = subst (λ (line : Line). AnswerLicence line c.abort.result c.args.memory.now.chart c.abort.new.memory.chart) (sym c.in-Abort.is) c.abort.ensures.licence

pub returns-in-Abort-clause-notes : goal.returns-in-Abort-clause-notes
returns-in-Abort-clause-notes g c = subst (λ (line : Line). Notes line (c.abort.result ∷ []) c.args.memory.now c.abort.new.memory) (sym c.in-Abort.is) c.abort.ensures.notes

pub returns-in-Abort-clause-works : goal.returns-in-Abort-clause-works
returns-in-Abort-clause-works g c = subst (λ (line : Line). WorksOf line c.args.memory.now.chart c.abort.new.memory.chart) (sym c.in-Abort.is) c.abort.ensures.works

pub returns-in-Abort-clause-rules : goal.returns-in-Abort-clause-rules
returns-in-Abort-clause-rules g c = subst (λ (line : Line). FollowsRules line c.abort.result c.args.memory.now c.abort.new.memory) (sym c.in-Abort.is) c.abort.ensures.rules

pub returns-in-Tick-clause-lost : goal.returns-in-Tick-clause-lost
returns-in-Tick-clause-lost g c = lost-ok c.tick.result c.tick.new.memory.chart c.tick.ensures.lost

pub returns-in-Tick-clause-licence : goal.returns-in-Tick-clause-licence
returns-in-Tick-clause-licence g c = subst (λ (line : Line). AnswerLicence line c.tick.result c.args.memory.now.chart c.tick.new.memory.chart) (sym c.in-Tick.is) c.tick.ensures.licence

pub returns-in-Tick-clause-notes : goal.returns-in-Tick-clause-notes
returns-in-Tick-clause-notes g c = subst (λ (line : Line). Notes line (c.tick.result ∷ []) c.args.memory.now c.tick.new.memory) (sym c.in-Tick.is) c.tick.ensures.notes

pub returns-in-Tick-clause-works : goal.returns-in-Tick-clause-works
returns-in-Tick-clause-works g c = subst (λ (line : Line). WorksOf line c.args.memory.now.chart c.tick.new.memory.chart) (sym c.in-Tick.is) c.tick.ensures.works

pub returns-in-Tick-clause-rules : goal.returns-in-Tick-clause-rules
returns-in-Tick-clause-rules g c = subst (λ (line : Line). FollowsRules line c.tick.result c.args.memory.now c.tick.new.memory) (sym c.in-Tick.is) c.tick.ensures.rules
