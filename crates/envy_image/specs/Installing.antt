-- What installing an image does to a board.
use Rattle.std.specs.Prelude.{◌≡◌, ◌⊎◌, ℕ, ◌+◌, ◌-◌, ◌*◌, ◌/◌, ◌^◌, ◌<◌, ◌≤◌, min, max, false, IsTrue, List, length, take, ◌++◌, slice_index, Result, Ok, Err}
use Rattle.envy_base.specs.Counting.{Rose, up}
use Rattle.envy_base.specs.Map.{words_of}
use Rattle.envy_base.specs.State.{State, IsOnes, IsPage, row_of}
use Rattle.envy_base.specs.declared.board.Off.{Off}
use Rattle.envy_base.specs.declared.board.Trouble.{Trouble}
use Rattle.envy_base.specs.declared.shape.Shape.{Shape}
use Rattle.envy_io.specs.Streams.{Feed}
use Rattle.envy_io.specs.Taking.{Taking}
use Rattle.envy_image.specs.declared.installation.InFault.{InFault}
use Rattle.envy_image.specs.declared.installation.InFault.TheVariants.{Short, Upset, Failed, Spent}
use Rattle.envy_image.specs.declared.reader.Stop.{Stop}
use Rattle.envy_image.specs.declared.reader.Stop.TheVariants.{Short as StopShort, Failed as StopFailed, Spent as StopSpent}
use Rattle.envy_image.specs.Image.{head_of, body_of, rows_bytes, words_bytes}
use Rattle.envy_image.specs.Reading.{Consumes, Ends, Stops}
use Rattle.envy_base.specs.declared.page.TheConstants.{PAGE_WORDS}

-- the head that was read last has this shape
pub record HasReadHead (sh : Shape) (now : Taking) (feed : Feed) : Type 0 where
  pub old : Taking
  pub from : Feed
  pub head : Consumes old from (head_of sh) now feed

-- how many bytes stand behind the head
abbrev pub body_size : Shape → ℕ
body_size sh = 256 * (sh.segments * sh.rows) + 8 * words_of sh

-- a count after n more: it stops at the top
unfoldable pub count_after : ℕ → ℕ → ℕ
count_after n count = max count (min (count + n) (2 ^ 64 - 1))

-- power is on, nothing failed, and only flash, SRAM and the counts of programs and erases changed
pub record Goes (old new : State) : Type 0 where
  pub on : IsTrue old.on
  pub same : new ≡ record old { flash = new.flash; sram = new.sram; begun = new.begun; erases = new.erases }

-- power failed, or a flash operation did
abbrev pub IsUpset : State → State → Type 0
IsUpset old new =
    ((new.on ≡ false) × Rose old.cuts new.cuts × (new.bads ≡ old.bads))
    ⊎ (IsTrue new.on × (new.cuts ≡ old.cuts) × Rose old.bads new.bads)

-- power was on, and it or a flash operation failed
pub record Upsets (old new : State) : Type 0 where
  pub on : IsTrue old.on
  pub failed : IsUpset old new
  pub cuts : old.cuts ≤ new.cuts
  pub bads : old.bads ≤ new.bads
  pub same : new ≡ record old { flash = new.flash; sram = new.sram; begun = new.begun; erases = new.erases; on = new.on; cuts = new.cuts; bads = new.bads }

-- The board holds what the bytes behind the head say. Each row was programmed once, each segment erased once.
pub record Installed (old : State) (was : Taking) (from : Feed) (new : State) (now : Taking) (to : Feed) : Type 0 where
  pub goes : Goes old new
  pub bytes : Consumes was from (body_of new.flash new.sram) now to
  pub begun : new.begun ≡ count_after (old.shape.segments * old.shape.rows) old.begun
  pub erases : (e : ℕ) → e < old.shape.segments → slice_index new.erases e ≡ up (slice_index old.erases e)

-- the bytes behind the head stop before their end
pub record StopsInBody (stop : Stop) (size : ℕ) (old : State) (was : Taking) (from : Feed) (new : State) (now : Taking) (to : Feed) : Type 0 where
  pub goes : Goes old new
  pub bytes : List ℕ
  pub few : length bytes < size
  pub ends : Ends was from bytes now to
  pub stops : Stops stop now from to

-- the board failed, and so many bytes or fewer were read
pub record FailsInBody (size : ℕ) (old : State) (was : Taking) (from : Feed) (new : State) (now : Taking) (to : Feed) : Type 0 where
  pub upset : Upsets old new
  pub bytes : List ℕ
  pub few : length bytes ≤ size
  pub read : Consumes was from bytes now to

-- what stopped the installing of a part of so many bytes
abbrev pub StopsAs : InFault → ℕ → State → Taking → Feed → State → Taking → Feed → Type 0
StopsAs Short size old was from new now to = StopsInBody StopShort size old was from new now to
StopsAs Failed size old was from new now to = StopsInBody StopFailed size old was from new now to
StopsAs Spent size old was from new now to = StopsInBody StopSpent size old was from new now to
StopsAs Upset size old was from new now to = FailsInBody size old was from new now to

abbrev pub Installs : State → Taking → Feed → Result Unit InFault → State → Taking → Feed → Type 0
Installs old was from (Ok done) new now to = Installed old was from new now to
Installs old was from (Err fault) new now to = StopsAs fault (body_size old.shape) old was from new now to

-- The parts of it.

-- no more was taken than may be
pub record IsWithin (t : Taking) : Type 0 where
  pub within : t.taken ≤ t.cap
  pub below : IsTrue t.ended → t.taken < t.cap

-- the first segments are erased, each once
pub record Blanked (n : ℕ) (old new : State) : Type 0 where
  pub on : IsTrue old.on
  pub same : new ≡ record old { flash = new.flash; erases = new.erases }
  pub long : length new.flash ≡ length old.flash
  pub blank : (q : ℕ) → q < length old.flash → q / old.shape.rows < n → IsOnes (row_of new q)
  pub segments : length new.erases ≡ length old.erases
  pub once : (e : ℕ) → e < n → slice_index new.erases e ≡ up (slice_index old.erases e)
  pub others : (e : ℕ) → n ≤ e → slice_index new.erases e ≡ slice_index old.erases e

abbrev pub Blanks : State → Result Unit Trouble → State → Type 0
Blanks old (Ok done) new = Blanked old.shape.segments old new
Blanks old (Err trouble) new = Upsets old new

-- a page is read, or the bytes stop before its end
abbrev pub ReadsPage : Taking → Feed → Result (List ℕ) Stop → Taking → Feed → Type 0
ReadsPage old from (Ok page) new to = IsPage page × Consumes old from (words_bytes page) new to
ReadsPage old from (Err stop) new to =
    (bytes : List ℕ) × (length bytes < 256) × Ends old from bytes new to × Stops stop new from to

-- the first rows are programmed with what the bytes say
pub record Programmed (n : ℕ) (old : State) (was : Taking) (from : Feed) (new : State) (now : Taking) (to : Feed) : Type 0 where
  pub on : IsTrue old.on
  pub same : new ≡ record old { flash = new.flash; begun = new.begun }
  pub long : length new.flash ≡ length old.flash
  pub others : (q : ℕ) → n ≤ q → row_of new q ≡ row_of old q
  pub begun : new.begun ≡ count_after n old.begun
  pub bytes : Consumes was from (rows_bytes (take n new.flash)) now to
  pub size : length (rows_bytes (take n new.flash)) ≡ 256 * n

abbrev pub ProgramsRows : State → Taking → Feed → Result Unit InFault → State → Taking → Feed → Type 0
ProgramsRows old was from (Ok done) new now to = Programmed (length old.flash) old was from new now to
ProgramsRows old was from (Err fault) new now to = StopsAs fault (256 * length old.flash) old was from new now to

-- the first words of SRAM are what the bytes say
pub record Filled (n : ℕ) (old : State) (was : Taking) (from : Feed) (new : State) (now : Taking) (to : Feed) : Type 0 where
  pub on : IsTrue old.on
  pub same : new ≡ record old { sram = new.sram }
  pub long : length new.sram ≡ length old.sram
  pub bytes : Consumes was from (words_bytes (take n new.sram)) now to
  pub size : length (words_bytes (take n new.sram)) ≡ 8 * n

-- the words from one on are these
pub record HasPut (first : ℕ) (words : List ℕ) (old new : State) : Type 0 where
  pub on : IsTrue old.on
  pub same : new ≡ record old { sram = new.sram }
  pub long : length new.sram ≡ length old.sram
  pub words_are : take (first + length words) new.sram ≡ take first old.sram ++ words

abbrev pub PutsWords : ℕ → List ℕ → State → Result Unit Off → State → Type 0
PutsWords first words old (Ok done) new = HasPut first words old new
PutsWords first words old (Err off) new = Upsets old new

-- 32 words from one on are what the bytes say
abbrev pub FillsPiece : ℕ → State → Taking → Feed → Result Unit InFault → State → Taking → Feed → Type 0
FillsPiece first old was from (Ok done) new now to =
    (words : List ℕ) × (length words ≡ PAGE_WORDS) × HasPut first words old new × Consumes was from (words_bytes words) now to
FillsPiece first old was from (Err fault) new now to = StopsAs fault 256 old was from new now to

abbrev pub FillsFirst : ℕ → State → Taking → Feed → Result Unit InFault → State → Taking → Feed → Type 0
FillsFirst n old was from (Ok done) new now to = Filled n old was from new now to
FillsFirst n old was from (Err fault) new now to = StopsAs fault (8 * length old.sram) old was from new now to

abbrev pub FillsWords : State → Taking → Feed → Result Unit InFault → State → Taking → Feed → Type 0
FillsWords old was from result new now to = FillsFirst (length old.sram) old was from result new now to
