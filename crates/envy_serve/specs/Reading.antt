-- How far a trace was read: the lines of the bytes taken from a source, behind those that stood before the trace.
use Rattle.std.specs.Prelude.{◌≡◌, ◌⊎◌, ℕ, ◌+◌, ◌<◌, ◌≤◌, IsTrue, List, [], ◌∷◌, ◌++◌, map, length, Result, Ok, Err}
use Rattle.std.specs.List.{AllByRecursion}
use Rattle.envy_io.specs.Lines.{NoNewline, lines_of, spelled}
use Rattle.envy_io.specs.Streams.{Feed, Rises, IsDry, with_front}
use Rattle.envy_io.specs.Taking.{Taking, HasGiven}
use Rattle.envy_trace.specs.declared.fault.LineFault.{LineFault}
use Rattle.envy_serve.specs.declared.next_line.NoLine.{NoLine}
use Rattle.envy_serve.specs.declared.next_line.NoLine.TheVariants.{Finished, Refused, Failed, Spent}

-- the bytes taken from the source, behind those skipped, gave these pieces, each of which said its line
pub record HasRead {Line : Type 0} (reads : List ℕ → Result Line LineFault) (skipped : ℕ) (from feed : Feed) (reader : Taking) (lines : List Line) : Type 0 where
  pub bytes : List ℕ
  pub pieces : List (List ℕ)
  pub source : from.left ≡ with_front bytes feed.left
  pub faults : from.faults ≤ feed.faults
  pub dry : IsTrue reader.ended → IsDry feed.left
  pub given : HasGiven bytes pieces reader
  pub count : skipped + length bytes ≡ reader.taken
  pub says : map reads pieces ≡ map Ok lines

-- the source was read to its end, which more bytes could have been taken from, and these are all its lines
pub record ReadAll {Line : Type 0} (reads : List ℕ → Result Line LineFault) (skipped : ℕ) (from feed : Feed) (reader : Taking) (lines : List Line) : Type 0 where
  pub read : HasRead reads skipped from feed reader lines
  pub ended : IsTrue reader.ended
  pub below : reader.taken < reader.cap
  pub all_lines : lines_of read.bytes ≡ read.pieces

-- these are all whole lines among the bytes taken
pub record ReadBetween {Line : Type 0} (reads : List ℕ → Result Line LineFault) (skipped : ℕ) (from feed : Feed) (reader : Taking) (lines : List Line) : Type 0 where
  pub read : HasRead reads skipped from feed reader lines
  pub rest : read.bytes ≡ spelled read.pieces ++ reader.held
  pub open_rest : NoNewline reader.held
  pub short_rest : length reader.held ≤ 120

-- The line behind these pieces is met: a newline stands behind it, or the source's end, or it has more than 120 bytes
-- already.
abbrev pub IsMet : List ℕ → List (List ℕ) → List ℕ → Taking → Type 0
IsMet bytes pieces piece reader =
    ((rest : List ℕ) × (bytes ≡ spelled (pieces ++ piece ∷ []) ++ rest))
    ⊎ ((IsTrue reader.ended × (lines_of bytes ≡ pieces ++ piece ∷ []))
    ⊎ ((120 < length piece) × (rest : List ℕ) × (bytes ≡ spelled pieces ++ (piece ++ rest))))

-- the line after these is refused
pub record ReadStuck {Line : Type 0} (fault : LineFault) (reads : List ℕ → Result Line LineFault) (skipped : ℕ) (from feed : Feed) (reader : Taking) (lines : List Line) : Type 0 where
  pub bytes : List ℕ
  pub pieces : List (List ℕ)
  pub piece : List ℕ
  pub source : from.left ≡ with_front bytes feed.left
  pub dry : IsTrue reader.ended → IsDry feed.left
  pub count : skipped + length bytes ≡ reader.taken
  pub each : AllByRecursion NoNewline (pieces ++ piece ∷ [])
  pub met : IsMet bytes pieces piece reader
  pub says : map reads pieces ≡ map Ok lines
  pub refused : reads piece ≡ Err fault

-- why no line comes after these
abbrev pub Stopped : {Line : Type 0} → NoLine → (List ℕ → Result Line LineFault) → ℕ → Feed → Feed → Taking → List Line → Type 0
Stopped Finished reads skipped from feed reader lines = ReadAll reads skipped from feed reader lines
Stopped (Refused fault) reads skipped from feed reader lines = ReadStuck fault reads skipped from feed reader lines
Stopped Failed reads skipped from feed reader lines = ReadBetween reads skipped from feed reader lines × Rises from.faults feed.faults × (reader.taken < reader.cap)
Stopped Spent reads skipped from feed reader lines = ReadBetween reads skipped from feed reader lines × (reader.taken ≡ reader.cap)

-- a line comes after these, or none
abbrev pub Fetches : {Line : Type 0} → Result Line NoLine → (List ℕ → Result Line LineFault) → ℕ → Feed → Feed → Taking → List Line → Type 0
Fetches (Ok line) reads skipped from feed reader lines = HasRead reads skipped from feed reader (lines ++ line ∷ [])
Fetches (Err stop) reads skipped from feed reader lines = Stopped stop reads skipped from feed reader lines
