-- What answering a line of a kept memory's trace does, power being on at entry.
use Rattle.std.specs.Prelude.{◌≡◌, ◌⊎◌, ◌↔◌, ℕ, false, List, [], ◌∷◌}
use Rattle.envy_base.specs.State.{SyncNote}
use Rattle.envy_array.specs.Array.{Array}
use Rattle.envy_disk.specs.Disk.{with_sync}
use Rattle.envy_synced.specs.Disk.{IsSynced}
use Rattle.envy_meaning.specs.Stands.{Stands}
use Rattle.envy_map.specs.Fields.{failed}
use Rattle.envy_memory.specs.Picture.{Picture}
use Rattle.envy_trace.specs.declared.line.Line.{Line}
use Rattle.envy_trace.specs.declared.reply.Reply.{Reply}
use Rattle.envy_trace.specs.declared.reply.Reply.TheVariants.{Lost}
use Rattle.envy_trace.specs.declared.keep_line.KeepLine.{KeepLine}
use Rattle.envy_trace.specs.declared.keep_line.KeepLine.TheVariants.{Trace, Sync}
use Rattle.envy_trace.specs.declared.keep_reply.KeepReply.{KeepReply}
use Rattle.envy_trace.specs.declared.keep_reply.KeepReply.TheVariants.{Trace as TraceReply, Synced}
use Rattle.envy_run.specs.Answers.{AnswerLicence, AnswersTo}
use Rattle.envy_run.specs.Below.{FollowsRules, WorksOf}
use Rattle.envy_run.specs.Hits.{MayTell}
use Rattle.envy_run.specs.Tells.{CanTell, Notes}
use Rattle.envy_run.specs.Turns.{TraceTurn}

-- a line of one array is answered
pub record TraceAnswers (line : Line) (reply : Reply) (old new : Picture) : Type 0 where
  pub step : (earlier : List TraceTurn) (m : Array) → Stands old.chart m → CanTell old.chart.shape.entries earlier old.parts → AnswersTo (MayTell old.chart.shape.entries earlier) m line reply new.chart
  pub lost : (reply ≡ Lost) ↔ (new.chart.on ≡ false)
  pub licence : AnswerLicence line reply old.chart new.chart
  pub notes : Notes line (reply ∷ []) old new
  pub works : WorksOf line old.chart new.chart
  pub rules : FollowsRules line reply old new

-- A sync succeeded: what it brought to the disk is what the board holds, and nothing else changed. Or it failed,
-- and power is off.
abbrev pub SyncsTo : KeepReply → Picture → Picture → Type 0
SyncsTo reply old new =
    ((reply ≡ Synced) × IsSynced new.chart × (sync : SyncNote) × (new ≡ record old { chart = with_sync old.chart sync }))
    ⊎ ((reply ≡ TraceReply Lost) × (new ≡ record old { chart = failed old.chart }))

abbrev pub AnswersKeep : KeepLine → KeepReply → Picture → Picture → Type 0
AnswersKeep (Trace line) reply old new = (said : Reply) × (reply ≡ TraceReply said) × TraceAnswers line said old new
AnswersKeep Sync reply old new = SyncsTo reply old new
