-- What a cache of the page table holds, and how an access to a page changes it.
use Rattle.std.specs.Prelude.{ℕ, ◌%◌, ◌==◌, Bool, false, List, length, replicate, Option, None, Some, if◌then◌else◌, slice_index_or, slice_set}
use Rattle.envy_base.specs.declared.fields.Place.{Place}
use Rattle.envy_base.specs.Counting.{up}

-- none, or a page and the place that is kept for it
abbrev pub Entry : Type 0
Entry = Option (ℕ × Place)

pub record Translations : Type 0 where
  pub entries : List Entry
  pub hits : ℕ
  pub misses : ℕ

-- the number of the one entry that a page uses
abbrev pub entry_of : List Entry → ℕ → ℕ
entry_of entries p = p % length entries

abbrev pub entry : List Entry → ℕ → Entry
entry entries i = slice_index_or entries i None

abbrev pub holds : Entry → ℕ → Bool
holds None p = false
holds (Some kept) p = kept.0 == p

-- an access to the page is a hit where its entry holds it
abbrev pub is_hit : List Entry → ℕ → Bool
is_hit entries p = holds (entry entries (entry_of entries p)) p

-- one access more, which is a hit or a miss
abbrev pub counted : Translations → ℕ → Translations
counted t p = if is_hit t.entries p then record t { hits = up t.hits } else record t { misses = up t.misses }

-- the page's entry becomes the page and this place
abbrev pub filled : List Entry → ℕ → Place → List Entry
filled entries p x = slice_set entries (entry_of entries p) (Some (p, x))

-- the same, but only where the page's entry holds it
abbrev pub retargeted : List Entry → ℕ → Place → List Entry
retargeted entries p x = if is_hit entries p then filled entries p x else entries

-- so many entries, none of which holds a page
abbrev pub vacant : ℕ → List Entry
vacant n = replicate n None
