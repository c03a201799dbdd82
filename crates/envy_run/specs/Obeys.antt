-- What doing one line does to the board and to what is written, from a board that stood for the array m.
use Rattle.std.specs.Prelude.{◌≡◌, ◌⊎◌, ◌↔◌, false, List, [], ◌∷◌}
use Rattle.envy_base.specs.Shape.{version_of}
use Rattle.envy_array.specs.Array.{Array}
use Rattle.envy_map.specs.Codes.{the_magic}
use Rattle.envy_map.specs.Fields.{Chart}
use Rattle.envy_io.specs.Streams.{Drain}
use Rattle.envy_soundness.specs.Sound.{IsSound}
use Rattle.envy_meaning.specs.Stands.{Stands}
use Rattle.envy_soundness.specs.Words.{durable}
use Rattle.envy_trace.specs.declared.line.Line.{Line}
use Rattle.envy_trace.specs.declared.reply.Reply.{Reply}
use Rattle.envy_trace.specs.declared.reply.Reply.TheVariants.{Lost}
use Rattle.envy_serve.specs.declared.service.LineOutcome.{LineOutcome}
use Rattle.envy_serve.specs.declared.service.LineOutcome.TheVariants.{Done, WriteFault, Dead}
use Rattle.envy_memory.specs.Picture.{Picture}
use Rattle.envy_run.specs.Answers.{AnswerLicence, AnswersTo}
use Rattle.envy_run.specs.Below.{WorksOf}
use Rattle.envy_run.specs.Licence.{Licence}
use Rattle.envy_run.specs.Spending.{Spends, programs_of, erases_of}
use Rattle.envy_run.specs.Tells.{Notes}
use Rattle.envy_array.specs.declared.counts.Counts.{Counts}
use Rattle.envy_run.specs.Turns.{Does, FailsIn, before_restart, trace_grammar, is_power, plan_of, is_lost, is_fault}
use Rattle.envy_serve.specs.Streams.{Written, FrontWritten}
use Rattle.envy_serve.specs.Turns.{texts, one_if, count_of}

-- the counts that license a line with these replies
abbrev pub Licensed : Line → List Reply → Chart → Chart → Type 0
Licensed line replies old new = Licence (one_if (is_power line)) (plan_of line) (count_of is_lost replies) (count_of is_fault replies) old new

-- the line was answered by a call that power was on for
pub record LineAnswers (May : Counts → Type 0) (m : Array) (line : Line) (reply : Reply) (old new : Picture) : Type 0 where
  pub step : AnswersTo May m line reply new.chart
  pub lost : (reply ≡ Lost) ↔ (new.chart.on ≡ false)
  pub licence : AnswerLicence line reply old.chart new.chart
  pub notes : Notes line (reply ∷ []) old new
  pub works : WorksOf line old.chart new.chart

-- the line was done, and the board stands for what it left
pub record LineDone (May : Counts → Type 0) (m : Array) (line : Line) (replies : List Reply) (left : Array) (old new : Picture) : Type 0 where
  pub does : Does May m line replies left
  pub stands : Stands new.chart left
  pub licensed : Licensed line replies old.chart new.chart
  pub spent : Spends (programs_of old.chart.shape.rows line) (erases_of line) old.chart new.chart
  pub notes : Notes line replies old new

-- power doesn't return: a restart would find the line done or not done
pub record LineDead (m : Array) (line : Line) (old new : Chart) : Type 0 where
  pub off : new.on ≡ false
  pub magic : new.fields.magic ≡ the_magic
  pub version : new.fields.version ≡ version_of new.shape
  pub sound : IsSound new
  pub dead : new.lives ≡ 0
  pub found : (left : Array) × FailsIn m line left × (durable new ≡ left.words)
  pub licensed : Licensed line (before_restart line) old new
  pub spent : Spends (programs_of old.shape.rows line) (erases_of line) old new

abbrev pub ObeysLine : (Counts → Type 0) → Array → Line → LineOutcome → Picture → Picture → Drain → Drain → Type 0
ObeysLine May m line Done old new sink then_sink = (replies : List Reply) × (left : Array) × LineDone May m line replies left old new × Written (texts trace_grammar replies) sink then_sink
ObeysLine May m line WriteFault old new sink then_sink = (replies : List Reply) × (left : Array) × LineDone May m line replies left old new × FrontWritten (texts trace_grammar replies) sink then_sink
ObeysLine May m line Dead old new sink then_sink = LineDead m line old.chart new.chart × (Written (texts trace_grammar (before_restart line)) sink then_sink ⊎ FrontWritten (texts trace_grammar (before_restart line)) sink then_sink)
