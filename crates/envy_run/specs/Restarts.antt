-- What a failure of power and its return do to a board and to what is written.
use Rattle.std.specs.Prelude.{◌≡◌, ◌⊎◌, ℕ, Bool, true, false, [], ◌∷◌, None, Result, IsOk, IsErr}
use Rattle.envy_io.specs.declared.source.Failed.{Failed}
use Rattle.envy_io.specs.Streams.{Drain}
use Rattle.envy_soundness.specs.Sound.{IsSound}
use Rattle.envy_meaning.specs.Stands.{Stands}
use Rattle.envy_soundness.specs.Words.{durable}
use Rattle.envy_memory.specs.Calls.{fresh}
use Rattle.envy_memory.specs.Picture.{Picture}
use Rattle.envy_table.specs.Hits.{page_at}
use Rattle.envy_trace.specs.declared.reply.Reply.TheVariants.{Restarted}
use Rattle.envy_serve.specs.declared.service.LineOutcome.{LineOutcome}
use Rattle.envy_serve.specs.declared.service.LineOutcome.TheVariants.{Done, WriteFault, Dead}
use Rattle.envy_run.specs.Licence.{Licence}
use Rattle.envy_run.specs.Tells.{CountsStay}
use Rattle.envy_run.specs.Turns.{trace_grammar}
use Rattle.envy_serve.specs.Streams.{Written, FrontWritten}
use Rattle.envy_serve.specs.Turns.{texts}

-- power is off, and a restart would find what it would have found
pub record IsStillOff (old new : Picture) : Type 0 where
  pub off : new.chart.on ≡ false
  pub shape : new.chart.shape ≡ old.chart.shape
  pub magic : new.chart.fields.magic ≡ old.chart.fields.magic
  pub version : new.chart.fields.version ≡ old.chart.fields.version
  pub sound : IsSound old.chart → IsSound new.chart
  pub durable : durable new.chart ≡ durable old.chart
  pub licence : Licence 0 [] 0 0 old.chart new.chart
  pub counts : CountsStay old new

-- power is back, the board stands for what it would have been found with, and the cache is empty
pub record IsBack (old new : Picture) : Type 0 where
  pub stands : Stands new.chart (fresh old.chart.shape.shadows (durable old.chart))
  pub licence : Licence 0 [] 0 0 old.chart new.chart
  pub counts : CountsStay old new
  pub vacant : (i : ℕ) → page_at new.parts.cache.entries i ≡ None

abbrev pub Restarts : Bool → Picture → Picture → Type 0
Restarts true old new = IsBack old new
Restarts false old new = IsStillOff old new × (new.chart.lives ≡ 0)

-- After a failure of power, whose own reply was written or not: power is asked for, and its return
-- is told. Nothing more is written after a write that failed.
abbrev pub Recovers : Result Unit Failed → LineOutcome → Picture → Picture → Drain → Drain → Type 0
Recovers wrote Done old new sink then_sink = IsOk wrote × IsBack old new × Written (texts trace_grammar (Restarted ∷ [])) sink then_sink
Recovers wrote WriteFault old new sink then_sink = IsBack old new × ((IsErr wrote × (then_sink ≡ sink)) ⊎ (IsOk wrote × FrontWritten (texts trace_grammar (Restarted ∷ [])) sink then_sink))
Recovers wrote Dead old new sink then_sink = IsStillOff old new × (new.chart.lives ≡ 0) × (then_sink ≡ sink)
