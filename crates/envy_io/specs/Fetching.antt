-- What a call of `next_bytes` takes and answers: so many bytes of a source, whatever lines they are.
use Rattle.std.specs.Prelude.{◌≡◌, ◌⊎◌, ℕ, ◌+◌, ◌<◌, ◌≤◌, min, false, IsTrue, List, [], ◌++◌, length, take, drop, Result, Ok, Err}
use Rattle.envy_io.specs.declared.source.Failed.{Failed as NoBytes}
use Rattle.envy_io.specs.declared.lines.read_outcome.ReadOutcome.{ReadOutcome}
use Rattle.envy_io.specs.declared.lines.read_outcome.ReadOutcome.TheVariants.{Whole, Short, Failed, Spent}
use Rattle.envy_io.specs.Streams.{Feed, Rises, IsDry, with_front}
use Rattle.envy_io.specs.Taking.{Taking}

-- What a call takes from the source: the bytes `got`, which are the next that the source had.
pub record Draws (old : Taking) (from : Feed) (got : List ℕ) (new : Taking) (to : Feed) : Type 0 where
  pub cap : new.cap ≡ old.cap
  pub taken : new.taken ≡ old.taken + length got
  pub within : new.taken ≤ new.cap
  pub left : from.left ≡ with_front got to.left
  pub faults : from.faults ≤ to.faults
  -- once the end was met nothing is taken
  pub ended : IsTrue old.ended → IsTrue new.ended × (got ≡ [])
  -- where the end is met nothing is left, and the cap isn't reached
  pub dry : (IsTrue old.ended → IsDry from.left) → IsTrue new.ended → IsDry to.left
  pub below : IsTrue new.ended → new.taken < new.cap

-- fewer bytes than asked came, and they are used up
pub record FallsShort (all into : List ℕ) (new : Taking) : Type 0 where
  pub few : length all < length into
  pub used : new.held ≡ []

-- What an answer says of all bytes, those held before the call and then those taken in it. Without `Whole` the
-- slice is seen by its length alone.
abbrev pub Fetches : ReadOutcome → List ℕ → List ℕ → Taking → Feed → Feed → Type 0
Fetches Whole all into new from to = all ≡ into ++ new.held
Fetches Short all into new from to = FallsShort all into new × IsTrue new.ended
Fetches Failed all into new from to =
    FallsShort all into new × (new.ended ≡ false) × (new.taken < new.cap) × Rises from.faults to.faults
Fetches Spent all into new from to = FallsShort all into new × (new.ended ≡ false) × (new.taken ≡ new.cap)

-- One call of `next_bytes`.
pub record NextBytes (old : Taking) (from : Feed) (answer : ReadOutcome) (into : List ℕ) (new : Taking) (to : Feed) : Type 0 where
  -- the bytes that it took
  pub got : List ℕ
  pub draws : Draws old from got new to
  pub fetches : Fetches answer (old.held ++ got) into new from to
  -- the source was asked for no more than was missing
  pub no_more : (got ≡ []) ⊎ (length (old.held ++ got) ≤ length into)

-- the source isn't asked: so many bytes are held, or its end was met, or no more may be taken
abbrev pub IsIdle : Taking → ℕ → Type 0
IsIdle t n = (n ≤ length t.held) ⊎ (IsTrue t.ended ⊎ (t.taken ≡ t.cap))

-- the first bytes of the slice are those that were held, as many as it has room for
pub record HasFront (old : Taking) (into : List ℕ) (count : ℕ) (new : Taking) : Type 0 where
  pub least : count ≡ min (length old.held) (length into)
  pub front : take count into ≡ take count old.held
  pub same : new ≡ record old { held = drop count old.held }
  pub within : new.taken ≤ new.cap
  pub below : IsTrue new.ended → new.taken < new.cap

-- the source may be asked, and no byte is held
pub record MayPull (t : Taking) : Type 0 where
  pub none : t.held ≡ []
  pub going : t.ended ≡ false
  pub below : t.taken < t.cap

-- one asking of the source for what is missing behind the first bytes of the slice
abbrev pub Pulls : Taking → Feed → List ℕ → ℕ → Result ℕ NoBytes → List ℕ → Taking → Feed → Type 0
Pulls old from before count (Ok more) after new to =
    (piece : List ℕ) × (length piece ≡ more) × (count + more ≤ length before) × (take (count + more) after ≡ take count before ++ piece) × (new.held ≡ []) × Draws old from piece new to × (IsTrue new.ended ⊎ (0 < more))
Pulls old from before count (Err failed) after new to = (new ≡ old) × (to.left ≡ from.left) × Rises from.faults to.faults
