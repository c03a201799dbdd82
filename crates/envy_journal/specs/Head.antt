-- The head of a journal, and what a file that begins with one stands for.
use Rattle.std.specs.Prelude.{◌≡◌, ◌≢◌, ◌⊎◌, ℕ, ◌<◌, IsTrue, List, [], ◌∷◌, ◌++◌, length, take, slice_index, slice_index_or}
use Rattle.envy_base.specs.declared.shape.Shape.{Shape}
use Rattle.envy_journal.specs.declared.operation.Operation.{Operation}
use Rattle.envy_journal.specs.Log.{Begins}
use Rattle.envy_journal.specs.Reading.{operations, number_bytes, IsUnbroken}
use Rattle.envy_journal.specs.Version.{mark, version, older_version, is_known}

-- the mark, a version and the sizes: 33 bytes
abbrev pub head_bytes : ℕ → Shape → List ℕ
head_bytes v sh =
    mark ++ v ∷ number_bytes sh.segments ++ number_bytes sh.rows ++ number_bytes sh.pages
    ++ number_bytes sh.shadows ++ number_bytes sh.frames ++ number_bytes sh.entries

-- a head has six sizes: the other two are 0
abbrev pub HasSixSizes : Shape → Type 0
HasSixSizes sh = (sh.reserves ≡ 0) × (sh.sums ≡ 0)

-- the version that a file's head says
abbrev pub version_of : List ℕ → ℕ
version_of file = slice_index_or file 8 0

-- the file begins with a head of a version that is known, with these sizes
pub record HasHead (sh : Shape) (file : List ℕ) : Type 0 where
  pub known : IsTrue (is_known (version_of file))
  pub begins : Begins (head_bytes (version_of file) sh) file

-- a journal of a board of this shape, with these operations
pub record StandsFor (sh : Shape) (done : List Operation) (file : List ℕ) : Type 0 where
  pub head : HasHead sh file
  pub reads : operations file ≡ done
  pub ends : IsUnbroken file

-- a file in which no journal is made yet is empty
abbrev pub IsUnmade : List ℕ → Type 0
IsUnmade file = file ≡ []

-- before a journal is made, or once it is made, without operations
abbrev pub IsNewOrUnmade : Shape → List ℕ → Type 0
IsNewOrUnmade sh file = IsUnmade file ⊎ StandsFor sh [] file

-- the bytes don't begin as a journal does
abbrev pub HasNoJournal : List ℕ → Type 0
HasNoJournal file = (length file < 33) ⊎ (take 8 file ≢ mark)

-- a journal of a version that isn't known here
pub record IsOtherVersion (file : List ℕ) : Type 0 where
  pub marked : take 8 file ≡ mark
  pub other : slice_index file 8 ≢ version
  pub older : slice_index file 8 ≢ older_version
