-- The plain array: words, and 64 slots of which each is closed, or open with a list of saved words.
use Rattle.std.specs.Prelude.{◌≡◌, ◌≢◌, ℕ, ◌*◌, ◌/◌, ◌≤◌, ◌==◌, Bool, true, false, IsTrue, List, [], ◌∷◌, length, replicate, Option, None, Some, is_some, slice_set, slice_index, slice_index_or, count_by, position, AllPairs, if◌then◌else◌}
use Rattle.std.specs.List.{list_any, range_with_len}
use Rattle.envy_base.specs.declared.page.TheConstants.{PAGE_WORDS}

-- pairs of an address and the word that stood there before
abbrev pub Saved : Type 0
Saved = List (ℕ × ℕ)

pub record Array : Type 0 where
  pub words : List ℕ
  pub slots : List (Option Saved)
  -- how many pages may have an owner
  pub shadows : ℕ

abbrev pub page_of : ℕ → ℕ
page_of a = a / PAGE_WORDS

abbrev pub pages : Array → ℕ
pages m = length m.words / PAGE_WORDS

abbrev pub slot_of : Array → ℕ → Option Saved
slot_of m t = slice_index_or m.slots t None

-- whether the list has an address of the page
abbrev pub saves_in : ℕ → Saved → Bool
saves_in p saved = list_any (λ (e : ℕ × ℕ). e.0 / PAGE_WORDS == p) saved

abbrev pub owns : ℕ → Option Saved → Bool
owns p None = false
owns p (Some saved) = saves_in p saved

-- the slot whose list has an address of the page
abbrev pub owner : Array → ℕ → Option ℕ
owner m p = position (owns p) m.slots

-- how many pages have an owner
abbrev pub owned : Array → ℕ
owned m = count_by (λ p. is_some (owner m p)) (range_with_len 0 (pages m))

abbrev pub is_closed : Option Saved → Bool
is_closed None = true
is_closed (Some saved) = false

-- the saved words put back
abbrev pub put_back : Saved → List ℕ → List ℕ
put_back [] words = words
put_back (saved ∷ rest) words = put_back rest (slice_set words saved.0 saved.1)

abbrev pub undo_all : List (Option Saved) → List ℕ → List ℕ
undo_all [] words = words
undo_all (None ∷ slots) words = undo_all slots words
undo_all (Some saved ∷ slots) words = undo_all slots (put_back saved words)

-- the words with those saved by every open slot put back
abbrev pub undone : Array → List ℕ
undone m = undo_all m.slots m.words

abbrev pub with_slot : Array → ℕ → Option Saved → Array
with_slot m t slot = record m { slots = slice_set m.slots t slot }

abbrev pub stored : Array → ℕ → ℕ → Array
stored m a w = record m { words = slice_set m.words a w }

-- the address joins the list with its word, unless it stands there
abbrev pub saving : ℕ → ℕ → Saved → Saved
saving a before saved = if list_any (λ (e : ℕ × ℕ). e.0 == a) saved then saved else (a, before) ∷ saved

-- slot t, whose list this is, stores a word
abbrev pub put : Array → ℕ → Saved → ℕ → ℕ → Array
put m t saved a w = with_slot (stored m a w) t (Some (saving a (slice_index m.words a) saved))

-- slot t, whose list this is, takes back what it stored
abbrev pub aborted : Array → ℕ → Saved → Array
aborted m t saved = with_slot (record m { words = put_back saved m.words }) t None

-- after a failure of power: all slots closed, their words put back
abbrev pub restarted : Array → Array
restarted m = record m { words = undone m; slots = replicate 64 None }

-- an array of zeros, with no slot open
abbrev pub zeros : ℕ → ℕ → Array
zeros pages shadows = record { words = replicate (PAGE_WORDS * pages) 0; slots = replicate 64 None; shadows = shadows }

-- whole pages and 64 slots; no address saved twice, no page owned twice, and no more owned than may be
pub record IsArray (m : Array) : Type 0 where
  pub whole : length m.words ≡ PAGE_WORDS * pages m
  pub slots : length m.slots ≡ 64
  pub once : (t : ℕ) (saved : Saved) → slot_of m t ≡ Some saved → AllPairs (λ (d e : ℕ × ℕ). d.0 ≢ e.0) saved
  pub apart : (t u p : ℕ) → IsTrue (owns p (slot_of m t)) → IsTrue (owns p (slot_of m u)) → t ≡ u
  pub few : owned m ≤ m.shadows
