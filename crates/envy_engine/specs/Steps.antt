-- Steps of a job and of the stages that are left of a swap.
use Rattle.std.specs.Prelude.{◌≡◌, ◌≢◌, ◌⊎◌, ℕ, zero, suc, [], drop, Some, slice_get, slice_index}
use Rattle.envy_base.specs.declared.fields.Job.TheVariants.{Idle as IdleJob, Copy, Erase}
use Rattle.envy_map.specs.Fields.{Chart, with_fields}
use Rattle.envy_map.specs.Writes.{with_job}
use Rattle.envy_reloc.specs.Phases.{Does, Spoils}
use Rattle.envy_reloc.specs.declared.step.Phase.{Phase}
use Rattle.envy_reloc.specs.declared.step.Phase.TheVariants.{Moved as MovedPhase, Copied as CopiedPhase, Switched as SwitchedPhase, Placed as PlacedPhase, Erased as ErasedPhase}
use Rattle.envy_engine.specs.declared.parts.Parts.{Parts}
use Rattle.envy_engine.specs.declared.did.Did.{Did}
use Rattle.envy_engine.specs.declared.did.Did.TheVariants.{Began, Moved, Copied, Switched, Placed, Erased}

abbrev pub did_of : Phase → Did
did_of MovedPhase = Moved
did_of CopiedPhase = Copied
did_of SwitchedPhase = Switched
did_of PlacedPhase = Placed
did_of ErasedPhase = Erased

-- flushes, heats, turns, frames and swaps are as before
pub record Idles (was now : Parts) : Type 0 where
  pub flushes : now.flushes ≡ was.flushes
  pub swaps : now.swaps ≡ was.swaps
  pub chooser : now.chooser ≡ was.chooser
  pub frames : now.frames ≡ was.frames

-- nothing is programmed or erased by a relocation
pub record CountsNone (was now : Parts) : Type 0 where
  pub copied : now.reloc.copied ≡ was.reloc.copied
  pub moved : now.reloc.moved ≡ was.reloc.moved
  pub erased : now.reloc.erased ≡ was.reloc.erased

-- the first rule: a step of the job
pub record TicksJob (did : Did) (old : Chart) (was : Parts) (new : Chart) (now : Parts) : Type 0 where
  pub phase : Phase
  pub named : did ≡ did_of phase
  pub does : Does old was.reloc phase new now.reloc
  pub idles : Idles was now
  pub stages : now.stages ≡ was.stages

-- the job becomes the relocation of position k
abbrev pub Begins : ℕ → Chart → Chart → Type 0
Begins k old new = new.fields.job ≡ Some (Copy (slice_index old.fields.positions k))

-- the second rule: the next stage of a swap begins, without moves
pub record TicksStage (did : Did) (old : Chart) (was : Parts) (new : Chart) (now : Parts) : Type 0 where
  pub began : did ≡ Began
  pub position : ℕ
  pub next : slice_get was.stages 0 ≡ Some position
  pub begins : Begins position old new
  pub fields : new ≡ with_fields old (with_job (Some (Copy (slice_index old.fields.positions position))) old.fields)
  pub rest : now.stages ≡ drop 1 was.stages
  pub moves : now.reloc.moves ≡ []
  pub none : CountsNone was now
  pub idles : Idles was now

-- a step failed: the spare is to be erased, and but for a failed erase the moves and the stages are dropped
pub record StopsJob (old : Chart) (was : Parts) (new : Chart) (now : Parts) : Type 0 where
  pub job : new.fields.job ≡ Some Erase
  pub idles : Idles was now
  pub kept : old.fields.job ≡ Some Erase → now.stages ≡ was.stages
  pub dropped : old.fields.job ≢ Some Erase → (now.stages ≡ []) × (now.reloc.moves ≡ [])
  pub spoils : Spoils old was.reloc new now.reloc

-- one step: of the job, or where none runs the next stage begins
abbrev pub StepsOnce : Chart → Parts → Chart → Parts → Type 0
StepsOnce old was new now =
    (did : Did) × (((old.fields.job ≢ Some IdleJob) × TicksJob did old was new now) ⊎ ((old.fields.job ≡ Some IdleJob) × TicksStage did old was new now))

-- n steps, one after another
abbrev pub StepsBy : ℕ → Chart → Parts → Chart → Parts → Type 0
StepsBy zero old was new now = (new ≡ old) × (now ≡ was)
StepsBy (suc n) old was new now = (mid : Chart) × (between : Parts) × StepsBy n old was mid between × StepsOnce mid between new now

-- steps until no job runs and no stage is left
pub record Finishes (old : Chart) (was : Parts) (new : Chart) (now : Parts) : Type 0 where
  pub steps : ℕ
  pub made : StepsBy steps old was new now
  pub job : new.fields.job ≡ Some IdleJob
  pub stages : now.stages ≡ []

-- steps, and then one that was bad
pub record StopsStep (old : Chart) (was : Parts) (new : Chart) (now : Parts) : Type 0 where
  pub steps : ℕ
  pub mid : Chart
  pub between : Parts
  pub made : StepsBy steps old was mid between
  pub running : mid.fields.job ≢ Some IdleJob
  pub stops : StopsJob mid between new now
