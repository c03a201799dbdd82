-- What lines of counters have told.
use Rattle.std.specs.Prelude.{◌≡◌, ℕ, ◌+◌, ◌-◌, ◌^◌, ◌<◌, ◌≤◌, Bool, true, false, List, [], ◌∷◌, Option, None, Some, if◌then◌else◌, min, sum}
use Rattle.envy_array.specs.declared.counts.Counts.{Counts}
use Rattle.envy_map.specs.Fields.{Chart}
use Rattle.envy_trace.specs.declared.line.Line.{Line}
use Rattle.envy_trace.specs.declared.line.Line.TheVariants.{Empty}
use Rattle.envy_trace.specs.declared.reply.Reply.{Reply}
use Rattle.envy_trace.specs.declared.reply.Reply.TheVariants.{Stat as StatLine}
use Rattle.envy_run.specs.Turns.{TraceTurn}

-- what a counter shows of a number: it stops at the top
abbrev pub counter : ℕ → ℕ
counter n = min n (2 ^ 64 - 1)

-- the counters that replies tell
abbrev pub told_in : List Reply → Option Counts
told_in [] = None
told_in (StatLine counts ∷ replies) = Some counts
told_in (reply ∷ replies) = told_in replies

abbrev pub or_else : Option Counts → Option Counts → Option Counts
or_else None before = before
or_else (Some counts) before = Some counts

-- those of the last line of counters
abbrev pub last_told : List TraceTurn → Option Counts
last_told [] = None
last_told (turn ∷ earlier) = or_else (told_in turn.replies) (last_told earlier)

abbrev pub is_empty : Line → Bool
is_empty Empty = true
is_empty line = false

-- those of a line of counters behind which no line was done but empty ones
abbrev pub just_told : List TraceTurn → Option Counts
just_told [] = None
just_told (turn ∷ earlier) = if is_empty turn.line then just_told earlier else told_in turn.replies

-- no counter fell
pub record NoneFell (old new : Counts) : Type 0 where
  pub hits : old.hits ≤ new.hits
  pub misses : old.misses ≤ new.misses
  pub flushes : old.flushes ≤ new.flushes
  pub copies : old.copies ≤ new.copies
  pub moves : old.moves ≤ new.moves
  pub erases : old.erases ≤ new.erases
  pub swaps : old.swaps ≤ new.swaps

-- a count that isn't at the top
abbrev pub IsLow : ℕ → Type 0
IsLow n = n < 2 ^ 64 - 1

-- The counters add up to what the board counts. Each program that began is a flush, a copy or a move, but for so many
-- that began earlier, in installing an image. Where power never failed, each segment was erased once in formatting or
-- installing, and the other erases are those of the counters.
pub record AddsUp (earlier : ℕ) (counts : Counts) (now : Chart) : Type 0 where
  pub programs : IsLow counts.flushes → IsLow counts.copies → IsLow counts.moves → IsLow now.begun → counts.flushes + counts.copies + counts.moves + earlier ≡ now.begun
  pub erases : now.cuts ≡ 0 → IsLow counts.erases → IsLow (sum now.erases) → counts.erases + now.shape.segments ≡ sum now.erases
