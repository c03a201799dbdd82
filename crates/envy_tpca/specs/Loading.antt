-- Loads of a memory that rests.
use Rattle.std.specs.Prelude.{◌≡◌, ℕ, ◌+◌, ◌-◌, ◌^◌, ◌<◌, ◌≤◌}
use Rattle.envy_memory.specs.Picture.{Picture}
use Rattle.envy_table.specs.Entries.{Translations}

-- so many accesses were counted
pub record Accessed (n : ℕ) (old new : Translations) : Type 0 where
  pub hits : old.hits ≤ new.hits
  pub misses : old.misses ≤ new.misses
  pub sum : new.hits < 2 ^ 64 - 1 → new.misses < 2 ^ 64 - 1 → old.hits + old.misses + n ≡ new.hits + new.misses

-- so many loads: the cache alone changed
pub record Loaded (n : ℕ) (old new : Picture) : Type 0 where
  pub same : new ≡ record old { parts = record old.parts { cache = new.parts.cache } }
  pub accessed : Accessed n old.parts.cache new.parts.cache

-- where power never failed, so many accesses were counted
abbrev pub CountsUncut : ℕ → Picture → Picture → Type 0
CountsUncut n old new = old.chart.cuts < 2 ^ 64 - 1 → new.chart.cuts ≡ old.chart.cuts → Accessed n old.parts.cache new.parts.cache
