-- What reading bytes of an image does.
use Rattle.std.specs.Prelude.{◌≡◌, ◌≢◌, ◌⊎◌, ℕ, ◌<◌, Bool, true, false, IsTrue, List, [], ◌++◌, length, Result, Ok, Err}
use Rattle.envy_base.specs.declared.shape.Shape.{Shape}
use Rattle.envy_base.specs.declared.shape.ShapeFault.{ShapeFault}
use Rattle.envy_base.specs.declared.shape.ShapeFault.TheVariants.{Reserves}
use Rattle.envy_base.specs.Shape.{checked, version_of}
use Rattle.envy_io.specs.Streams.{Feed, Rises}
use Rattle.envy_io.specs.Taking.{Taking}
use Rattle.envy_io.specs.Fetching.{Draws}
use Rattle.envy_image.specs.declared.reader.HeadFault.{HeadFault}
use Rattle.envy_image.specs.declared.reader.HeadFault.TheVariants.{Short, Mark, Shape as BadShape, Failed, Spent}
use Rattle.envy_image.specs.declared.reader.Stop.{Stop}
use Rattle.envy_image.specs.declared.reader.Stop.TheVariants.{Short as StopShort, Failed as StopFailed, Spent as StopSpent}
use Rattle.envy_image.specs.Image.{mark_of, head_of, head_with, word_bytes, numbers_bytes, numbers_of, numbers_size, FitNumbers}

-- These bytes came next. Nothing was taken beyond them where nothing was held before.
pub record Consumes (old : Taking) (from : Feed) (bytes : List ℕ) (new : Taking) (to : Feed) : Type 0 where
  pub got : List ℕ
  pub draws : Draws old from got new to
  pub all : old.held ++ got ≡ bytes ++ new.held
  pub nothing_over : old.held ≡ [] → new.held ≡ []

-- why the bytes stopped: the source's end was met, it failed, or as many were taken as may be
abbrev pub Stops : Stop → Taking → Feed → Feed → Type 0
Stops StopShort new from to = IsTrue new.ended
Stops StopFailed new from to = (new.ended ≡ false) × (new.taken < new.cap) × Rises from.faults to.faults
Stops StopSpent new from to = (new.ended ≡ false) × (new.taken ≡ new.cap)

-- the bytes that came are these, and no more, and they are used up
pub record Ends (old : Taking) (from : Feed) (bytes : List ℕ) (new : Taking) (to : Feed) : Type 0 where
  pub got : List ℕ
  pub draws : Draws old from got new to
  pub all : old.held ++ got ≡ bytes
  pub used : new.held ≡ []

-- the bytes of a slice are read, or stop before it is full
abbrev pub ReadsBytes : Taking → Feed → Result Unit Stop → List ℕ → Taking → Feed → Type 0
ReadsBytes old from (Ok done) into new to = Consumes old from into new to
ReadsBytes old from (Err stop) into new to =
    (bytes : List ℕ) × (length bytes < length into) × Ends old from bytes new to × Stops stop new from to

-- a word is read, or the bytes stop before its end
abbrev pub ReadsWord : Taking → Feed → Result ℕ Stop → Taking → Feed → Type 0
ReadsWord old from (Ok w) new to = Consumes old from (word_bytes w) new to
ReadsWord old from (Err stop) new to =
    (bytes : List ℕ) × (length bytes < 8) × Ends old from bytes new to × Stops stop new from to

-- a shape's numbers are read, and those that aren't named are 0; or the bytes stop before their end
abbrev pub ReadsShape : Bool → Taking → Feed → Result Shape Stop → Taking → Feed → Type 0
ReadsShape extended old from (Ok sh) new to =
    Consumes old from (numbers_bytes (numbers_of extended sh)) new to × FitNumbers sh
    × (extended ≡ false → (sh.reserves ≡ 0) × (sh.sums ≡ 0))
ReadsShape extended old from (Err stop) new to =
    (bytes : List ℕ) × (length bytes < numbers_size extended) × Ends old from bytes new to × Stops stop new from to

-- the bytes stop within the head of an image
abbrev pub EndsInHead : Stop → Taking → Feed → Taking → Feed → Type 0
EndsInHead stop old from new to =
    (bytes : List ℕ) × Ends old from bytes new to × Stops stop new from to
    × ((length bytes < 8) ⊎ ((extended : Bool) × (rest : List ℕ) × (bytes ≡ mark_of extended ++ rest) × (length rest < numbers_size extended)))

-- the head of no board's image: its shape doesn't check, or it is extended without reserves and sums
abbrev pub IsMisshapen : List ℕ → ShapeFault → Type 0
IsMisshapen bytes fault =
    (sh : Shape) × FitNumbers sh
    × (((bytes ≡ head_of sh) × (checked sh ≡ Err fault)) ⊎ ((bytes ≡ head_with true sh) × (version_of sh ≡ 2) × (fault ≡ Reserves)))

-- The head of an image is read: 8 bytes that are a mark, and the numbers behind it, of a shape which checks.
abbrev pub ReadsHead : Taking → Feed → Result Shape HeadFault → Taking → Feed → Type 0
ReadsHead old from (Ok sh) new to = Consumes old from (head_of sh) new to × (checked sh ≡ Ok tt) × FitNumbers sh
ReadsHead old from (Err Mark) new to =
    (first : List ℕ) × (length first ≡ 8) × ((extended : Bool) → first ≢ mark_of extended) × Consumes old from first new to
ReadsHead old from (Err (BadShape fault)) new to =
    (bytes : List ℕ) × Consumes old from bytes new to × IsMisshapen bytes fault
ReadsHead old from (Err Short) new to = EndsInHead StopShort old from new to
ReadsHead old from (Err Failed) new to = EndsInHead StopFailed old from new to
ReadsHead old from (Err Spent) new to = EndsInHead StopSpent old from new to

-- its mark is read, or the head isn't
abbrev pub ReadsMark : Taking → Feed → Result Bool HeadFault → Taking → Feed → Type 0
ReadsMark old from (Ok extended) new to = Consumes old from (mark_of extended) new to
ReadsMark old from (Err fault) new to = ReadsHead old from (Err fault) new to
