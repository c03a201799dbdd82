-- What a file holds, and with which array a memory in it begins.
use Rattle.std.specs.Prelude.{◌≡◌, ◌≢◌, ⊤, ℕ, List, [], Ok}
use Rattle.envy_args.specs.declared.keep.KeepOptions.{KeepOptions}
use Rattle.envy_args.specs.Keep.{new_shape, setup_over}
use Rattle.envy_array.specs.Array.{Array, zeros}
use Rattle.envy_base.specs.State.{State}
use Rattle.envy_base.specs.declared.shape.Shape.{Shape}
use Rattle.envy_journal.specs.Content.{content_of, holds}
use Rattle.envy_journal.specs.Head.{HasHead, IsUnmade}
use Rattle.envy_journal.specs.Reading.{operations, IsUnbroken}
use Rattle.envy_map.specs.Fields.{Chart}
use Rattle.envy_memory.specs.Attaching.{IsTakenUp}
use Rattle.envy_memory.specs.Calls.{fresh}
use Rattle.envy_memory.specs.Formats.{IsFresh}
use Rattle.envy_policy.specs.Setup.{checked}
use Rattle.envy_policy.specs.declared.setup.Setup.{Setup}
use Rattle.envy_begun.specs.declared.file_contents.FileContents.{FileContents}
use Rattle.envy_begun.specs.declared.file_contents.FileContents.TheVariants.{Unmade, Blank, Written}
use Rattle.envy_begun.specs.declared.open_fault.OpenFault.{OpenFault}
use Rattle.envy_begun.specs.declared.open_fault.OpenFault.TheVariants.{Memory, NotMade, Failed}
use Rattle.envy_begun.specs.Opens.{OpensAs}
use Rattle.envy_begun.specs.Unserved.{IsOver}
use Rattle.envy_synced.specs.Disk.{IsLast, IsSynced, Reopens}

-- a board on which the operations of a file were done
pub record IsOpened (sh : Shape) (file : List ℕ) (s : State) : Type 0 where
  pub head : HasHead sh file
  pub shape : s.shape ≡ sh
  pub content : content_of s ≡ holds sh (operations file)
  pub ends : IsUnbroken file

-- a journal whose sizes the options leave, with the setup over them
pub record IsFound (options : KeepOptions) (file : List ℕ) (setup : Setup) : Type 0 where
  pub made : IsUnmade file → ⊥
  pub over : IsOver options setup.shape file
  pub is : setup ≡ setup_over options setup.shape

-- the setup of a memory in a file that holds these bytes
abbrev pub Plans : FileContents → KeepOptions → List ℕ → Setup → Type 0
Plans Unmade options file setup = IsUnmade file × (setup ≡ setup_over options (new_shape options))
Plans Blank options file setup = IsFound options file setup × (operations file ≡ [])
Plans Written options file setup = IsFound options file setup × (operations file ≢ [])

-- a memory can be planned: the bytes of the file and the options are no reason to refuse one
abbrev pub IsPlanned : KeepOptions → List ℕ → Type 0
IsPlanned options file = (setup : Setup) × (holding : FileContents) × Plans holding options file setup × (checked setup ≡ Ok tt)

-- want of memory and a failure of the file are told only where one can be planned
abbrev pub ComesLater : KeepOptions → List ℕ → OpenFault → Type 0
ComesLater options file Memory = IsPlanned options file
ComesLater options file NotMade = IsPlanned options file
ComesLater options file (Failed held) = IsPlanned options file
ComesLater options file other = ⊤

-- The array with which a memory in a file begins: zeros where the file is no journal yet, or one in which nothing was done;
-- else the words as which it opens, with no transaction open.
abbrev pub BeginsAs : FileContents → List ℕ → Setup → Array → Type 0
BeginsAs Written file setup array = (words : List ℕ) × OpensAs setup.shape words file × (array ≡ fresh setup.shape.shadows words)
BeginsAs other file setup array = array ≡ zeros setup.shape.pages setup.shape.shadows

-- how such a board comes about from the one that was on the disk then
abbrev pub ComesFrom : FileContents → List ℕ → Chart → Chart → Type 0
ComesFrom Written file was board = Reopens was file × IsTakenUp was board
ComesFrom other file was board = (was ≡ board) × IsFresh board

-- The board with which a memory in a file begins. What its last sync brought to the disk is the board that the operations
-- of the file make: its sizes, its map and its flash. That board was taken up: the transactions that were open were undone, then
-- the job was settled, and flash is as it was. Where nothing was done in the file the board is a fresh one, and on the disk.
pub record BeginsOn (holding : FileContents) (file : List ℕ) (board : Chart) : Type 0 where
  pub was : Chart
  pub synced : IsSynced was
  pub last : IsLast was board
  pub comes : ComesFrom holding file was board
