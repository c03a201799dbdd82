-- What is served of the memory in a file.
use Rattle.std.specs.Prelude.{◌≡◌, ◌⊎◌, ℕ, Bool, false, IsTrue, List, Ok}
use Rattle.envy_args.specs.declared.keep.KeepOptions.{KeepOptions}
use Rattle.envy_array.specs.Array.{Array}
use Rattle.envy_begun.specs.declared.file_contents.FileContents.{FileContents}
use Rattle.envy_begun.specs.declared.file_contents.FileContents.TheVariants.{Written}
use Rattle.envy_begun.specs.declared.open_fault.OpenFault.{OpenFault}
use Rattle.envy_begun.specs.Beginning.{HasOperationsOf}
use Rattle.envy_begun.specs.Left.{Leaves, Stays}
use Rattle.envy_begun.specs.Plans.{BeginsAs, BeginsOn, ComesLater, Plans}
use Rattle.envy_begun.specs.Unserved.{Causes, place_for, status_for, why_for}
use Rattle.envy_meaning.specs.Stands.{Stands}
use Rattle.envy_memory.specs.Formats.{IsStarted}
use Rattle.envy_memory.specs.Picture.{Picture}
use Rattle.envy_policy.specs.Setup.{checked}
use Rattle.envy_policy.specs.declared.setup.Setup.{Setup}
use Rattle.envy_serve.specs.Streams.{Streams}
use Rattle.envy_synced.specs.Disk.{IsCompact}
use Rattle.envy_keep.specs.Ending.{KeepsServed}
use Rattle.envy_keep.specs.Playing.{ShowsMemory}

-- what the program says at the end
pub record Told : Type 0 where
  pub status : ℕ
  pub why : ℕ
  pub lines : ℕ
  pub taken : ℕ
  -- the byte at which a damaged file breaks off
  pub place : ℕ

abbrev pub told : ℕ → ℕ → ℕ → ℕ → ℕ → Told
told status why lines taken place = record { status = status; why = why; lines = lines; taken = taken; place = place }

-- A trace was served over the memory in the file. It began on the board that the operations of the file make, taken up, or
-- on a fresh one. It was made by the setup of the options: with their policy, limit and mark, and its parts agree with its
-- board. Where the options ask for that, the journal with which it began is no longer than a snapshot, and else it has the
-- operations that it had.
pub record IsServed (options : KeepOptions) (file : List ℕ) (end : Told) (left_since : ℕ → List ℕ → Type 0) (now : ℕ) (io : Streams) : Type 0 where
  pub setup : Setup
  pub holding : FileContents
  pub array : Array
  pub plans : Plans holding options file setup
  pub checks : checked setup ≡ Ok tt
  pub begins : BeginsAs holding file setup array
  pub memory : Picture
  pub board : BeginsOn holding file memory.chart
  pub stands : Stands memory.chart array
  pub starts : IsStarted setup memory
  pub shows : ShowsMemory memory
  pub compacted : holding ≡ Written → IsTrue options.compact → IsCompact memory.chart
  pub same : holding ≡ Written → options.compact ≡ false → HasOperationsOf file memory.chart
  pub served : KeepsServed array memory setup.shape end.status end.why end.lines end.taken left_since now io

-- What a crash leaves of a file that isn't served: it as it was; or, where a memory was to begin in it, what is left by what
-- it held.
abbrev pub LeavesUnserved : {D : Type 0} → (D → ℕ → List ℕ → Type 0) → (D → ℕ) → KeepOptions → List ℕ → OpenFault → D → Type 0
LeavesUnserved left_since moment options file fault device =
    Leaves left_since moment device (λ c. c ≡ file)
    ⊎ ((setup : Setup) × (holding : FileContents) × Plans holding options file setup × Leaves left_since moment device (Stays holding fault setup.shape file))

-- nothing was read or written on the streams
pub record IsUnserved {D : Type 0} (seen : D → List ℕ) (has_failed : D → Bool) (left_since : D → ℕ → List ℕ → Type 0) (moment : D → ℕ) (options : KeepOptions) (file : List ℕ) (old new : D) (end : Told) (io : Streams) : Type 0 where
  pub fault : OpenFault
  pub says : end ≡ told (status_for fault) (why_for fault) 0 0 (place_for fault)
  pub causes : Causes seen has_failed options file old new fault
  pub later : ComesLater options file fault
  pub left : LeavesUnserved left_since moment options file fault new
  pub source : io.feed ≡ io.from
  pub sink : io.sink ≡ io.to
