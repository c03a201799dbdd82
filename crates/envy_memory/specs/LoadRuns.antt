-- Runs of words that are loaded: so many at an address and behind it.
use Rattle.std.specs.Prelude.{◌≡◌, ◌≢◌, ℕ, zero, suc, ◌+◌, ◌/◌, ◌<◌, List, length, slice_index, Result, Ok, Err}
use Rattle.envy_array.specs.Array.{Array}
use Rattle.envy_array.specs.Step.{Load, Word, Range}
use Rattle.envy_map.specs.Fields.{Chart}
use Rattle.envy_meaning.specs.Stands.{Steps}
use Rattle.envy_soundness.specs.Words.{live}
use Rattle.envy_table.specs.Entries.{Translations}
use Rattle.envy_table.specs.Hits.{Accesses}
use Rattle.envy_memory.specs.Runs.{last_of}
use Rattle.envy_memory.specs.declared.faults.LoadFault.{LoadFault}
use Rattle.envy_memory.specs.declared.faults.LoadFault.TheVariants.{Off as LoadOff, Range as LoadRange}
use Rattle.envy_base.specs.declared.page.TheConstants.{PAGE_WORDS}

-- one access to each of so many pages, from page p upward
abbrev pub Crosses : ℕ → ℕ → Translations → Translations → Type 0
Crosses zero p old new = new ≡ old
Crosses (suc k) p old new = (mid : Translations) × Crosses k p old mid × Accesses (p + k) mid new

-- these are the words that loads read, each at its address
abbrev pub AreLive : Chart → ℕ → List ℕ → Type 0
AreLive c a words = (i : ℕ) → i < length words → slice_index words i ≡ slice_index (live c) (a + i)

-- Each word is that which a load of it answers. Refused, the last word's load would be refused too.
abbrev pub LoadsRun : Array → ℕ → List ℕ → Result Unit LoadFault → Chart → Type 0
LoadsRun m a words (Ok done) new = (i : ℕ) → i < length words → Steps m (Load (a + i)) (Word (slice_index words i)) new
LoadsRun m a words (Err LoadRange) new = Steps m (Load (last_of a (length words))) Range new
LoadsRun m a words (Err LoadOff) new = ⊥

-- the words of the run that lie on the page are those that loads read, and the others are as before
pub record FillsPage (page : ℕ) (c : Chart) (a : ℕ) (old new : List ℕ) : Type 0 where
  pub long : length new ≡ length old
  pub on : (i : ℕ) → i < length old → (a + i) / PAGE_WORDS ≡ page → slice_index new i ≡ slice_index (live c) (a + i)
  pub off : (i : ℕ) → (a + i) / PAGE_WORDS ≢ page → slice_index new i ≡ slice_index old i
