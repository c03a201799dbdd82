-- What `Lines` means, and what a call of `next_line` takes and answers.
use Rattle.std.specs.Prelude.{◌≡◌, ◌⊎◌, ℕ, ◌+◌, ◌<◌, ◌≤◌, Bool, false, IsTrue, List, [], ◌∷◌, ◌++◌, length, take}
use Rattle.std.specs.List.{AllByRecursion}
use Rattle.envy_io.specs.declared.lines.Next.{Next}
use Rattle.envy_io.specs.declared.lines.Next.TheVariants.{Line, End, Long, Failed, Spent}
use Rattle.envy_io.specs.Streams.{Feed, Rises, IsDry, with_front}
use Rattle.envy_io.specs.Lines.{NoNewline, newline, lines_of, spelled}

-- what `Lines` means
pub record Taking : Type 0 where
  -- how many bytes may be taken from the source in all
  pub cap : ℕ
  -- how many were taken
  pub taken : ℕ
  -- those that were taken and that no line has given yet
  pub held : List ℕ
  -- whether the source's end was met
  pub ended : Bool

-- no line is whole in these bytes, and the line that they begin may still have 120 bytes or fewer
pub record IsOpen (bytes : List ℕ) : Type 0 where
  pub unbroken : NoNewline bytes
  pub short : length bytes ≤ 120

-- the source is to be asked: no line is whole, its end wasn't met, and more bytes may be taken
pub record Wants (t : Taking) : Type 0 where
  pub line : IsOpen t.held
  pub going : t.ended ≡ false
  pub below : t.taken < t.cap

-- What a call takes from the source: the bytes `got`, which are the next that the source had.
pub record Takes (old : Taking) (from : Feed) (got : List ℕ) (new : Taking) (to : Feed) : Type 0 where
  pub cap : new.cap ≡ old.cap
  pub taken : new.taken ≡ old.taken + length got
  pub within : new.taken ≤ new.cap
  pub left : from.left ≡ with_front got to.left
  pub faults : from.faults ≤ to.faults
  -- once the end was met nothing is taken
  pub ended : IsTrue old.ended → IsTrue new.ended × (got ≡ [])
  -- where the end is met nothing is left, and the cap isn't reached
  pub dry : (IsTrue old.ended → IsDry from.left) → IsTrue new.ended → IsDry to.left
  pub below : IsTrue new.ended → new.taken < new.cap
  -- where anything was taken, the last piece of it, of at most 128 bytes, was asked for while no line was whole
  pub needed : (got ≡ []) ⊎ ((before piece : List ℕ) × (got ≡ before ++ piece) × IsOpen (old.held ++ before) × (length piece ≤ 128))

-- The line stood whole in front of all bytes, and what is held now stood behind it.
pub record IsWhole (all line : List ℕ) (new : Taking) : Type 0 where
  pub split : all ≡ line ++ newline ∷ new.held

-- The line is all bytes up to the source's end, without a newline.
pub record IsLast (all line : List ℕ) (new : Taking) : Type 0 where
  pub ended : IsTrue new.ended
  pub all_bytes : all ≡ line
  pub some : 0 < length line
  pub none_held : new.held ≡ []

-- no line was given, and all bytes are held
pub record Keeps (all line : List ℕ) (new : Taking) : Type 0 where
  pub none : line ≡ []
  pub held : new.held ≡ all

-- What an answer says of all bytes, those held before the call and then those taken in it.
abbrev pub Answers : Next → List ℕ → List ℕ → Taking → Feed → Feed → Type 0
Answers Line all line new from to = NoNewline line × (length line ≤ 120) × (IsWhole all line new ⊎ IsLast all line new)
Answers End all line new from to = Keeps all line new × (all ≡ []) × IsTrue new.ended
Answers Long all line new from to = Keeps all line new × (121 ≤ length all) × NoNewline (take 121 all)
Answers Failed all line new from to = Keeps all line new × Wants new × Rises from.faults to.faults
Answers Spent all line new from to = Keeps all line new × IsOpen all × (new.ended ≡ false) × (new.taken ≡ new.cap)

-- Of these bytes, taken in calls one after another, these lines were given, and the rest is held. After a last
-- line without a newline nothing is held, and the lines are all that there are.
pub record HasGiven (bytes : List ℕ) (lines : List (List ℕ)) (t : Taking) : Type 0 where
  pub each : AllByRecursion NoNewline lines
  pub split : (bytes ≡ spelled lines ++ t.held) ⊎ (IsTrue t.ended × (t.held ≡ []) × (lines_of bytes ≡ lines))

-- What an answer says of all lines of the bytes taken so far: the lines given before the call, and the next.
abbrev pub Reads : Next → List ℕ → List (List ℕ) → List ℕ → Taking → Type 0
Reads Line bytes lines line new = HasGiven bytes (lines ++ line ∷ []) new
Reads End bytes lines line new = HasGiven bytes lines new × (lines_of bytes ≡ lines)
Reads Long bytes lines line new =
    HasGiven bytes lines new × ((long : List ℕ) × (more : List (List ℕ)) × (lines_of bytes ≡ lines ++ long ∷ more) × (120 < length long))
Reads Failed bytes lines line new = HasGiven bytes lines new × (bytes ≡ spelled lines ++ new.held) × NoNewline new.held
Reads Spent bytes lines line new = HasGiven bytes lines new × (bytes ≡ spelled lines ++ new.held) × NoNewline new.held

-- One call of `next_line`.
pub record NextLine (old : Taking) (from : Feed) (answer : Next) (line : List ℕ) (new : Taking) (to : Feed) : Type 0 where
  -- the bytes that it took
  pub got : List ℕ
  pub takes : Takes old from got new to
  pub answers : Answers answer (old.held ++ got) line new from to
  -- the lines given are the lines of the bytes taken, in whatever pieces these came
  pub reads : (bytes : List ℕ) (lines : List (List ℕ)) → HasGiven bytes lines old → Reads answer (bytes ++ got) lines line new
