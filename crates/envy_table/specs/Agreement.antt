-- When a cache agrees with the page table.
use Rattle.std.specs.Prelude.{◌≡◌, ℕ, ◌<◌, List, Option, None, Some, slice_index_or}
use Rattle.envy_base.specs.declared.fields.Place.{Place}
use Rattle.envy_table.specs.Entries.{Entry, entry, entry_of}

-- Each entry that holds a page is the one that the page uses; the page is one of so many, and its place is the table's.
pub record AreCurrent (pages : ℕ) (places : List (Option Place)) (entries : List Entry) : Type 0 where
  pub own : (i p : ℕ) (x : Place) → entry entries i ≡ Some (p, x) → entry_of entries p ≡ i
  pub below : (i p : ℕ) (x : Place) → entry entries i ≡ Some (p, x) → p < pages
  pub current : (i p : ℕ) (x : Place) → entry entries i ≡ Some (p, x) → slice_index_or places p None ≡ Some x
