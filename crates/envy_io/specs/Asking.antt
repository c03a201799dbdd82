-- What the parts of a call of `next_line` do.
use Rattle.std.specs.Prelude.{◌≡◌, ◌⊎◌, ℕ, ◌+◌, ◌<◌, ◌≤◌, IsTrue, List, ◌∷◌, ◌++◌, length, take, drop}
use Rattle.envy_io.specs.declared.lines.Front.{Front}
use Rattle.envy_io.specs.declared.lines.Front.TheVariants.{Line, Long, Open}
use Rattle.envy_io.specs.Streams.{Feed, IsDry, with_front}
use Rattle.envy_io.specs.Lines.{NoNewline, newline}
use Rattle.envy_io.specs.Taking.{Taking, IsOpen, Takes}

-- what bytes begin with: a whole line of this length, a line that is too long, or less than a line
abbrev pub BeginsWith : List ℕ → Front → Type 0
BeginsWith bytes (Line n) =
    (n ≤ 120) × NoNewline (take n bytes) × (bytes ≡ take n bytes ++ newline ∷ drop (n + 1) bytes)
BeginsWith bytes Long = (121 ≤ length bytes) × NoNewline (take 121 bytes)
BeginsWith bytes Open = IsOpen bytes

-- the source was asked once, and gave this piece
pub record Asks (old : Taking) (from : Feed) (piece : List ℕ) (new : Taking) (to : Feed) : Type 0 where
  pub cap : new.cap ≡ old.cap
  pub taken : new.taken ≡ old.taken + length piece
  pub within : new.taken ≤ new.cap
  pub held : new.held ≡ old.held ++ piece
  pub few : length piece ≤ 128
  pub left : from.left ≡ with_front piece to.left
  pub faults : from.faults ≤ to.faults
  pub goes : IsTrue new.ended ⊎ (0 < length piece)
  pub dry : IsTrue new.ended → IsDry to.left
  pub below : IsTrue new.ended → new.taken < new.cap

-- what was taken is held behind what was held
pub record Gathers (old : Taking) (from : Feed) (new : Taking) (to : Feed) : Type 0 where
  pub got : List ℕ
  pub takes : Takes old from got new to
  pub held : new.held ≡ old.held ++ got
