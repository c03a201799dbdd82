-- What a crash leaves of a file in which no memory began.
use Rattle.std.specs.Prelude.{◌≡◌, ◌⊎◌, ℕ, ◌≤◌, List, [], slice_index}
use Rattle.envy_array.specs.Array.{zeros}
use Rattle.envy_base.specs.State.{State}
use Rattle.envy_base.specs.declared.shape.Shape.{Shape}
use Rattle.envy_begun.specs.Opens.{OpensAs}
use Rattle.envy_begun.specs.declared.file_contents.FileContents.{FileContents}
use Rattle.envy_begun.specs.declared.file_contents.FileContents.TheVariants.{Unmade, Blank, Written}
use Rattle.envy_begun.specs.declared.open_fault.OpenFault.{OpenFault}
use Rattle.envy_begun.specs.declared.open_fault.OpenFault.TheVariants.{Failed, Memory, NotMade}
use Rattle.envy_journal.specs.Content.{content_of, holds}
use Rattle.envy_journal.specs.Head.{HasHead, IsUnmade, StandsFor}
use Rattle.envy_journal.specs.Reading.{operations, IsUnbroken}
use Rattle.envy_soundness.specs.Sound.{IsSound}
use Rattle.envy_soundness.specs.Words.{durable}
use Rattle.envy_map.specs.Codes.{the_magic}
use Rattle.envy_map.specs.Fields.{chart, map_fields}

-- each file that a crash has left since some moment is such a one
pub record Leaves {D : Type 0} (left_since : D → ℕ → List ℕ → Type 0) (moment : D → ℕ) (device : D) (Such : List ℕ → Type 0) : Type 0 where
  pub since : ℕ
  pub before : since ≤ moment device
  pub each : (file : List ℕ) → left_since device since file → ∥ Such file ∥₁

-- a journal of these sizes that makes the same map and the same flash as the file that was there
pub record OpensAlike (sh : Shape) (was file : List ℕ) : Type 0 where
  pub head : HasHead sh file
  pub fields : map_fields sh (holds sh (operations file)).sram ≡ map_fields sh (holds sh (operations was)).sram
  pub flash : (holds sh (operations file)).flash ≡ (holds sh (operations was)).flash
  pub ends : IsUnbroken file

-- A journal of a board of these sizes. A board on which its operations are done anew is formatted and sound, and a restart
-- finds these words on it: `OpensAs`, in any version of the sizes.
pub record HasWords (sh : Shape) (words file : List ℕ) : Type 0 where
  pub head : HasHead sh file
  pub finds : (s : State) → s.shape ≡ sh → content_of s ≡ holds s.shape (operations file) → durable (chart s) ≡ words
  pub magic : (s : State) → s.shape ≡ sh → content_of s ≡ holds s.shape (operations file) → (chart s).fields.magic ≡ the_magic
  pub sound : (s : State) → s.shape ≡ sh → content_of s ≡ holds s.shape (operations file) → IsSound (chart s)
  pub ends : IsUnbroken file

-- whatever words the file that was there opens as are found in this one
abbrev pub KeepsWords : Shape → List ℕ → List ℕ → Type 0
KeepsWords sh was file = (words : List ℕ) → OpensAs sh words was → HasWords sh words file

-- a journal of a board of these sizes on which no memory was formatted
pub record IsUnformatted (sh : Shape) (file : List ℕ) : Type 0 where
  pub head : HasHead sh file
  pub magic : slice_index (holds sh (operations file)).sram 0 ≡ 0
  pub ends : IsUnbroken file

-- zeros, as a restart finds them
abbrev pub OpensAsZeros : Shape → List ℕ → Type 0
OpensAsZeros sh file = OpensAs sh (zeros sh.pages sh.shadows).words file

-- what is left of a journal in which nothing was done: that; or, where the file failed while the memory was formatted or
-- brought to the disk, also zeros, or a memory that isn't formatted; where the file is refused it is left as it was
abbrev pub StaysNew : OpenFault → Shape → List ℕ → List ℕ → Type 0
StaysNew (Failed held) sh was file = StandsFor sh [] file ⊎ (OpensAsZeros sh file ⊎ IsUnformatted sh file)
StaysNew Memory sh was file = (file ≡ was) ⊎ StandsFor sh [] file
StaysNew NotMade sh was file = (file ≡ was) ⊎ StandsFor sh [] file
StaysNew other sh was file = file ≡ was

-- what is left of a journal with operations: one alike; or, where the file failed, one in which the same words are found;
-- where the file is refused it is left as it was
abbrev pub StaysWritten : OpenFault → Shape → List ℕ → List ℕ → Type 0
StaysWritten (Failed held) sh was file = OpensAlike sh was file ⊎ KeepsWords sh was file
StaysWritten Memory sh was file = (file ≡ was) ⊎ OpensAlike sh was file
StaysWritten NotMade sh was file = (file ≡ was) ⊎ OpensAlike sh was file
StaysWritten other sh was file = file ≡ was

-- what is left of a file, by what it held
abbrev pub Stays : FileContents → OpenFault → Shape → List ℕ → List ℕ → Type 0
Stays Unmade open_fault sh was file = IsUnmade file ⊎ StaysNew open_fault sh [] file
Stays Blank open_fault sh was file = StaysNew open_fault sh was file
Stays Written open_fault sh was file = StaysWritten open_fault sh was file
