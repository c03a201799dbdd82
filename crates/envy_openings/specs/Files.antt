-- What opening answers over a file that holds these bytes.
use Rattle.std.specs.Prelude.{◌≡◌, ◌≢◌, ◌⊎◌, ℕ, false, List, Some, Ok}
use Rattle.envy_args.specs.declared.keep.KeepOptions.{KeepOptions}
use Rattle.envy_array.specs.Array.{Array}
use Rattle.envy_base.specs.declared.shape.ShapeFault.TheVariants.{Reserves}
use Rattle.envy_begun.specs.Beginning.{HasBegun, HasOperationsOf}
use Rattle.envy_begun.specs.Plans.{BeginsAs, BeginsOn, IsPlanned, Plans}
use Rattle.envy_begun.specs.Unserved.{Refuses}
use Rattle.envy_begun.specs.declared.file_contents.FileContents.{FileContents}
use Rattle.envy_begun.specs.declared.file_contents.FileContents.TheVariants.{Written}
use Rattle.envy_begun.specs.declared.open_fault.OpenFault.{OpenFault}
use Rattle.envy_begun.specs.declared.open_fault.OpenFault.TheVariants as open_fault
use Rattle.envy_calls.specs.Making.{ForSetup, IsNoSetup}
use Rattle.envy_calls.specs.Setups.{setup_of}
use Rattle.envy_calls.specs.declared.code.Code.{Code}
use Rattle.envy_calls.specs.declared.code.Code.TheVariants.{NoMemory, Off, OtherShape, Setup}
use Rattle.envy_calls.specs.declared.setup.EnvySetup.{EnvySetup}
use Rattle.envy_memory.specs.Picture.{Picture}
use Rattle.envy_policy.specs.Setup.{checked}
use Rattle.envy_policy.specs.declared.setup.Setup.{Setup as OfSetup}
use Rattle.envy_policy.specs.declared.setup.SetupFault.TheVariants.{Shape as OfShape}
use Rattle.envy_places.specs.Codes.{number_of_place}
use Rattle.envy_places.specs.declared.code.PlaceCode.{PlaceCode}
use Rattle.envy_places.specs.declared.code.PlaceCode.TheVariants.{Of, NoJournal, OtherVersion, Damaged}
use Rattle.envy_places.specs.declared.place.MemoryPlace.{MemoryPlace}
use Rattle.envy_places.specs.declared.place.MemoryPlace.TheVariants.{File}
use Rattle.envy_openings.specs.Opening.{Opens}

-- a setup as options that name all sizes
abbrev pub options_of : OfSetup → KeepOptions
options_of setup = record {
  sizes = record {
    segments = Some setup.shape.segments;
    rows = Some setup.shape.rows;
    pages = Some setup.shape.pages;
    shadows = Some setup.shape.shadows;
    frames = Some setup.shape.frames;
    entries = Some setup.shape.entries;
  };
  policy = setup.policy;
  limit = setup.limit;
  mark = Some setup.mark;
  compact = false;
}

-- A memory began in a file. By what the file holds (no journal yet; one in which nothing was done; one that was written)
-- it stands for zeros, or for the words as which the file opens. All of it is on the disk; a journal that was written has
-- the operations there that it had, and isn't compacted. Its board is the one that the operations of the file make, taken
-- up, or a fresh one.
pub record Opened (given : EnvySetup) (file : List ℕ) (p : Picture) : Type 0 where
  pub setup : OfSetup
  pub is : setup_of given ≡ Some setup
  pub checks : checked setup ≡ Ok tt
  pub holding : FileContents
  pub plans : Plans holding (options_of setup) file setup
  pub array : Array
  pub begins : BeginsAs holding file setup array
  pub begun : HasBegun setup array p
  pub board : BeginsOn holding file p.chart
  pub same : holding ≡ Written → HasOperationsOf file p.chart

-- Why none began by a setup that breaks no rule: what the file holds; or, where that is no reason, memory ran out, or the
-- file failed or is at the end of its range
abbrev pub RefusesFile : KeepOptions → List ℕ → OpenFault → Type 0
RefusesFile options file open_fault.Memory = IsPlanned options file
RefusesFile options file open_fault.NotMade = IsPlanned options file
RefusesFile options file (open_fault.Failed held) = IsPlanned options file
RefusesFile options file why = Refuses options file why

-- the answer where no memory began in a file
abbrev pub code_of_fault : OpenFault → PlaceCode
code_of_fault (open_fault.Setup fault) = Of (Setup fault)
code_of_fault open_fault.NoJournal = NoJournal
code_of_fault open_fault.OtherVersion = OtherVersion
code_of_fault (open_fault.Damaged place) = Damaged
code_of_fault open_fault.OtherSizes = Of OtherShape
code_of_fault (open_fault.Options fault) = Of (Setup fault)
code_of_fault open_fault.Memory = Of NoMemory
code_of_fault open_fault.NotMade = Of Off
code_of_fault (open_fault.Failed held) = Of Off

-- Why none was opened: there is no setup; or it has reserves, for which a file has no room yet; or with the setup, no
-- memory began in the file.
abbrev pub RefusesOpen : EnvySetup → List ℕ → PlaceCode → Type 0
RefusesOpen given file code =
    ((why : Code) × (code ≡ Of why) × IsNoSetup given why)
    ⊎ (((code ≡ Of (Setup (OfShape Reserves))) × ForSetup given (λ setup. setup.shape.reserves ≢ 0))
    ⊎ ((why : OpenFault) × (code ≡ code_of_fault why) × ForSetup given (λ setup. RefusesFile (options_of setup) file why)))

-- by the number of the answer
abbrev pub DoesOpen : {R F S : Type 0} → EnvySetup → List ℕ → MemoryPlace R F S → MemoryPlace R F S → ℕ → Type 0
DoesOpen given file old new answer = (code : PlaceCode) × (answer ≡ number_of_place code) × Opens File Of (Opened given file) (RefusesOpen given file) old new code
