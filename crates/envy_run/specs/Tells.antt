-- What a memory can tell of the lines that it did: its cache and its counters, from line to line.
use Rattle.std.specs.Prelude.{◌≡◌, ℕ, ◌%◌, ◌==◌, ◌<◌, ◌≤◌, true, List, [], ◌∷◌, length, Option, None, Some, IfSome, if◌then◌else◌, sum}
use Rattle.envy_base.specs.Counting.{up}
use Rattle.envy_engine.specs.Counts.{Tallies}
use Rattle.envy_engine.specs.declared.parts.Parts.{Parts}
use Rattle.envy_memory.specs.Picture.{Picture, counts_of}
use Rattle.envy_table.specs.Entries.{Entry, Translations, is_hit}
use Rattle.envy_table.specs.Hits.{page_at}
use Rattle.envy_trace.specs.declared.line.Line.{Line}
use Rattle.envy_trace.specs.declared.reply.Reply.{Reply}
use Rattle.envy_run.specs.Counters.{NoneFell, counter, is_empty, just_told, last_told, told_in}
use Rattle.envy_run.specs.Hits.{accessed, hits_in, is_restarted, misses_in}
use Rattle.envy_run.specs.Turns.{TraceTurn}

-- the page of entry i after an access or none
abbrev pub placed : ℕ → ℕ → Option ℕ → Option ℕ → Option ℕ
placed entries i None before = before
placed entries i (Some page) before = if i == page % entries then Some page else before

-- the page that was accessed last at entry i, since power last came
abbrev pub last_in : ℕ → ℕ → List TraceTurn → Option ℕ
last_in entries i [] = None
last_in entries i (turn ∷ earlier) = if is_restarted turn.replies then None else placed entries i (accessed turn.line turn.replies) (last_in entries i earlier)

-- the two counters after an access or none
abbrev pub hits_after : Option ℕ → List Entry → ℕ → ℕ
hits_after None entries n = n
hits_after (Some page) entries n = if is_hit entries page then up n else n

abbrev pub misses_after : Option ℕ → List Entry → ℕ → ℕ
misses_after None entries n = n
misses_after (Some page) entries n = if is_hit entries page then n else up n

-- what a line does to the cache: its access is counted, and a restart empties it
pub record Translates (line : Line) (replies : List Reply) (old new : Translations) : Type 0 where
  pub size : length new.entries ≡ length old.entries
  pub pages : (i : ℕ) → page_at new.entries i ≡ (if is_restarted replies then None else placed (length old.entries) i (accessed line replies) (page_at old.entries i))
  pub hits : new.hits ≡ hits_after (accessed line replies) old.entries old.hits
  pub misses : new.misses ≡ misses_after (accessed line replies) old.entries old.misses

-- what a line does to all that is counted; what it tells are the counters, and an empty line changes nothing
pub record Notes (line : Line) (replies : List Reply) (old new : Picture) : Type 0 where
  pub cache : Translates line replies old.parts.cache new.parts.cache
  pub tallies : Tallies old.chart old.parts new.chart new.parts
  pub swaps : old.parts.swaps ≤ new.parts.swaps
  pub tells : IfSome (told_in replies) (λ told. told ≡ counts_of new.parts)
  pub empty : is_empty line ≡ true → new ≡ old

-- the pages of the entries and the two counters are those of the turns
pub record Tracks (entries : ℕ) (turns : List TraceTurn) (cache : Translations) : Type 0 where
  pub some : 0 < entries
  pub size : length cache.entries ≡ entries
  pub pages : (i : ℕ) → i < entries → page_at cache.entries i ≡ last_in entries i turns
  pub hits : cache.hits ≡ counter (hits_in entries turns)
  pub misses : cache.misses ≡ counter (misses_in entries turns)

-- it may tell its counters after these turns
pub record CanTell (entries : ℕ) (turns : List TraceTurn) (parts : Parts) : Type 0 where
  pub tracks : Tracks entries turns parts.cache
  pub never_fell : IfSome (last_told turns) (λ before. NoneFell before (counts_of parts))

-- and what it told last adds up with what it has counted since it began
pub record Telling (first : Picture) (turns : List TraceTurn) (p : Picture) : Type 0 where
  pub can : CanTell p.chart.shape.entries turns p.parts
  pub last : IfSome (just_told turns) (λ told. told ≡ counts_of p.parts)
  pub tallies : Tallies first.chart first.parts p.chart p.parts

-- the counters stay
pub record CountsStay (old new : Picture) : Type 0 where
  pub size : length new.parts.cache.entries ≡ length old.parts.cache.entries
  pub counts : counts_of new.parts ≡ counts_of old.parts
  pub begun : new.chart.begun ≡ old.chart.begun
  pub erases : sum new.chart.erases ≡ sum old.chart.erases
