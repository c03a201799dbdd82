-- Which pages the entries of a cache hold, and what a call does to them and to the counts. Only the page of an
-- entry decides whether an access is a hit, never the place that is kept for it.
use Rattle.std.specs.Prelude.{◌≡◌, ℕ, ◌==◌, List, length, Option, None, Some, if◌then◌else◌}
use Rattle.envy_base.specs.Counting.{up}
use Rattle.envy_table.specs.Entries.{Entry, Translations, entry, entry_of, is_hit}

-- the page that an entry holds
abbrev pub page_in : Entry → Option ℕ
page_in None = None
page_in (Some kept) = Some kept.0

abbrev pub page_at : List Entry → ℕ → Option ℕ
page_at entries i = page_in (entry entries i)

-- one access to page p: a hit where its entry held it, and its entry holds it now
pub record Accesses (p : ℕ) (old new : Translations) : Type 0 where
  pub size : length new.entries ≡ length old.entries
  pub pages : (i : ℕ) → page_at new.entries i ≡ (if i == entry_of old.entries p then Some p else page_at old.entries i)
  pub hits : new.hits ≡ (if is_hit old.entries p then up old.hits else old.hits)
  pub misses : new.misses ≡ (if is_hit old.entries p then old.misses else up old.misses)

-- the same pages are held, and no access was counted
pub record Rests (old new : Translations) : Type 0 where
  pub size : length new.entries ≡ length old.entries
  pub pages : (i : ℕ) → page_at new.entries i ≡ page_at old.entries i
  pub hits : new.hits ≡ old.hits
  pub misses : new.misses ≡ old.misses

-- no page is held any more, and no access was counted
pub record Empties (old new : Translations) : Type 0 where
  pub size : length new.entries ≡ length old.entries
  pub pages : (i : ℕ) → page_at new.entries i ≡ None
  pub hits : new.hits ≡ old.hits
  pub misses : new.misses ≡ old.misses
