-- Two maps in two ranges of one memory.
use Rattle.std.specs.Prelude.{◌≡◌, ◌⊎◌, ℕ, ◌≤◌, false, List, length}
use Rattle.envy_array.specs.Words.{Sheet}
use Rattle.envy_btree.specs.Index.{IsIndex}
use Rattle.envy_range.specs.Ranges.{inside}

-- 640 words from here on stand for some map
abbrev pub HasMap : ℕ → Sheet → Type 0
HasMap first s = (es : List (ℕ × ℕ)) × IsIndex (inside first 640 s.words) es

-- one map is from word 64 on, one from word 704 on
abbrev pub IsMap : ℕ → Type 0
IsMap first = (first ≡ 64) ⊎ (first ≡ 704)

-- No transaction is open, and both are maps.
pub record HasBoth (s : Sheet) : Type 0 where
  pub shut : s.started ≡ false
  pub long : length s.words ≡ 2048
  pub room : 32 ≤ s.room
  pub front : HasMap 64 s
  pub rear : HasMap 704 s
