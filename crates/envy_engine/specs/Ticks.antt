-- What a tick does, by the first rule that applies.
use Rattle.std.specs.Prelude.{◌≡◌, ◌≢◌, ◌⊎◌, ℕ, ◌+◌, ◌<◌, ◌≤◌, [], ◌∷◌, length, sum, None, Some, slice_get, slice_index, slice_set}
use Rattle.envy_base.specs.Counting.{up, Tally}
use Rattle.envy_base.specs.declared.fields.Job.TheVariants.{Idle as IdleJob, Copy}
use Rattle.envy_frames.specs.declared.held.Held.{Held}
use Rattle.envy_map.specs.Fields.{Chart, with_fields}
use Rattle.envy_map.specs.Writes.{with_job}
use Rattle.envy_policy.specs.declared.choice.Choice.{Choice}
use Rattle.envy_policy.specs.declared.choice.Choice.TheVariants.{Free, Clean}
use Rattle.envy_policy.specs.History.{claimed, cleaned}
use Rattle.envy_victims.specs.Choosing.{ChoiceFor}
use Rattle.envy_engine.specs.Cleaning.{BeginsClean}
use Rattle.envy_engine.specs.Counts.{Tallies}
use Rattle.envy_engine.specs.Flushing.{FlushesOldest}
use Rattle.envy_engine.specs.Steps.{CountsNone, TicksJob, Begins, TicksStage, StopsJob}
use Rattle.envy_engine.specs.declared.parts.Parts.{Parts}
use Rattle.envy_wear.specs.Swaps.{IsDue}
use Rattle.envy_wear.specs.declared.swap.Swap.{Swap}
use Rattle.envy_engine.specs.declared.did.Did.{Did}
use Rattle.envy_engine.specs.declared.did.Did.TheVariants.{Idle, Flushed, Began}

-- the third rule, by the choice for the oldest held page: it is flushed, or a cleaning begins
abbrev pub TicksChoice : Choice → Did → Chart → Parts → Chart → Parts → Type 0
TicksChoice (Free k) did old was new now = (did ≡ Flushed) × FlushesOldest old was new now × CountsNone was now × (now.swaps ≡ was.swaps)
TicksChoice (Clean k aside) did old was new now =
    (did ≡ Began) × Begins k old new × (now.chooser ≡ cleaned was.chooser k) × (now.flushes ≡ was.flushes) × (now.frames ≡ was.frames) × CountsNone was now × (now.swaps ≡ was.swaps) × BeginsClean k aside old was new now

pub record TicksFlush (did : Did) (old : Chart) (was : Parts) (new : Chart) (now : Parts) : Type 0 where
  pub oldest : Held
  pub first : slice_get was.frames.held 0 ≡ Some oldest
  pub choice : Choice
  pub chosen : ChoiceFor was.chooser was.space oldest.home oldest.page choice
  pub does : TicksChoice choice did old was new now
  pub stages : now.stages ≡ was.stages

-- no swap is due
abbrev pub IsNoneDue : ℕ → Chart → ℕ → Type 0
IsNoneDue limit c since = (s : Swap) → IsDue c.shape c.fields limit since s → ⊥

-- the fourth rule: a swap begins, without moves, and erases are counted anew: nothing else changes
pub record TicksSwap (limit : ℕ) (did : Did) (old : Chart) (was : Parts) (new : Chart) (now : Parts) : Type 0 where
  pub began : did ≡ Began
  pub swap : Swap
  pub due : IsDue old.shape old.fields limit was.reloc.since swap
  pub fields : new ≡ with_fields old (with_job (Some (Copy (slice_index old.fields.positions swap.worn))) old.fields)
  pub parts : now ≡ record was { stages = swap.young ∷ swap.worn ∷ []; swaps = up was.swaps; reloc = record was.reloc { moves = []; aside = None; mark = 0; since = 0 } }

-- nothing is done
abbrev pub TicksNone : ℕ → Did → Chart → Parts → Chart → Parts → Type 0
TicksNone limit did old was new now = IsNoneDue limit old was.reloc.since × (did ≡ Idle) × (now ≡ was) × (new ≡ old)

-- the rules in their order: what a tick that answers did
abbrev pub TicksBy : ℕ → ℕ → Did → Chart → Parts → Chart → Parts → Type 0
TicksBy limit mark did old was new now =
    ((old.fields.job ≢ Some IdleJob) × TicksJob did old was new now)
    ⊎ ((old.fields.job ≡ Some IdleJob) × (((0 < length was.stages) × TicksStage did old was new now)
    ⊎ ((was.stages ≡ []) × (((mark ≤ length was.frames.held) × TicksFlush did old was new now)
    ⊎ ((length was.frames.held < mark) × (TicksSwap limit did old was new now ⊎ TicksNone limit did old was new now))))))

-- a flush failed: the row was claimed, and the page is held as before
pub record StopsFlush (old : Chart) (was : Parts) (new : Chart) (now : Parts) : Type 0 where
  pub oldest : Held
  pub first : slice_get was.frames.held 0 ≡ Some oldest
  pub position : ℕ
  pub chosen : ChoiceFor was.chooser was.space oldest.home oldest.page (Free position)
  pub fills : new.fields.fills ≡ slice_set old.fields.fills (slice_index old.fields.positions position) (slice_index old.fields.fills (slice_index old.fields.positions position) + 1)
  pub places : new.fields.places ≡ old.fields.places
  pub job : new.fields.job ≡ old.fields.job
  pub chooser : now.chooser ≡ claimed was.chooser position oldest.page
  pub flushes : now.flushes ≡ up was.flushes
  pub frames : now.frames ≡ was.frames
  pub stages : now.stages ≡ was.stages
  pub swaps : now.swaps ≡ was.swaps
  pub none : CountsNone was now

-- what a tick that a bad operation ended did
abbrev pub TicksBad : ℕ → Chart → Parts → Chart → Parts → Type 0
TicksBad mark old was new now =
    ((old.fields.job ≢ Some IdleJob) × StopsJob old was new now)
    ⊎ ((old.fields.job ≡ Some IdleJob) × (was.stages ≡ []) × (mark ≤ length was.frames.held) × StopsFlush old was new now)

-- what a tick counts: the erases since the last swap begin anew where a swap began
pub record CountsTick (old : Chart) (was : Parts) (new : Chart) (now : Parts) : Type 0 where
  pub tallies : Tallies old was new now
  pub since : ((now.swaps ≡ was.swaps) × Tally (sum old.erases) was.reloc.since (sum new.erases) now.reloc.since) ⊎ ((now.swaps ≡ up was.swaps) × (now.reloc.since ≡ 0))
