-- The array that the fields of a plain machine stand for.
use Rattle.std.specs.Prelude.{◌≡◌, ◌≢◌, ℕ, ◌*◌, ◌<◌, ◌≤◌, ◌==◌, Bool, false, IsTrue, List, [], ◌∷◌, ◌++◌, length, map, Option, None, Some, All, AllPairs, slice_index_or, sum_by, unwrap_or, if◌then◌else◌}
use Rattle.std.specs.List.{range_with_len}
use Rattle.envy_array.specs.Array.{Array, Saved, pages, owner, owned, IsArray}
use Rattle.envy_plain.specs.declared.saved_word.SavedWord.{SavedWord}
use Rattle.envy_base.specs.declared.page.TheConstants.{PAGE_WORDS}

-- the pairs of slot t in the list of all slots, the newest first
abbrev pub saved_by : ℕ → List SavedWord → Saved
saved_by t [] = []
saved_by t (saved ∷ rest) = saved_by t rest ++ (if saved.slot == t then (saved.address, saved.before) ∷ [] else [])

abbrev pub slot_in : List Bool → List SavedWord → ℕ → Option Saved
slot_in active saved t = if slice_index_or active t false then Some (saved_by t saved) else None

unfoldable pub slots_in : List Bool → List SavedWord → List (Option Saved)
slots_in active saved = map (slot_in active saved) (range_with_len 0 64)

abbrev pub array_in : List ℕ → List Bool → List SavedWord → ℕ → Array
array_in words active saved shadows = record { words = words; slots = slots_in active saved; shadows = shadows }

-- how many words all slots have saved
abbrev pub saved_words : Array → ℕ
saved_words m = sum_by (λ slot. length (unwrap_or slot [])) m.slots

-- what holds of the fields: they stand for an array; each saved word is of an open slot, has an address in
-- range and stands once; the owners of the pages are kept, with how many pages are owned; there is room
-- for as many words as the pages that may be owned have
pub record IsPlain (words : List ℕ) (active : List Bool) (saved : List SavedWord) (owners : List (Option ℕ)) (count shadows room : ℕ) : Type 0 where
  pub array : IsArray (array_in words active saved shadows)
  pub slots : length active ≡ 64
  pub open_slots : All (λ e. IsTrue (slice_index_or active e.slot false)) saved
  pub in_range : All (λ e. e.address < length words) saved
  pub once : AllPairs (λ d e. d.address ≢ e.address) saved
  pub table : owners ≡ map (owner (array_in words active saved shadows)) (range_with_len 0 (pages (array_in words active saved shadows)))
  pub counted : count ≡ owned (array_in words active saved shadows)
  pub enough : PAGE_WORDS * shadows ≤ room
