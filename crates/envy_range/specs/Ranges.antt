-- The words of a range of a memory, as a memory of their own.
use Rattle.std.specs.Prelude.{◌≡◌, ◌⊎◌, ℕ, ◌+◌, ◌-◌, ◌/◌, ◌≤◌, nat_lt, false, List, ◌∷◌, ◌++◌, length, map, take, drop, if◌then◌else◌}
use Rattle.envy_array.specs.Words.{Sheet}
use Rattle.envy_base.specs.declared.page.TheConstants.{PAGE_WORDS}

-- the words of the range of so many words from `first` on, and all other words
unfoldable pub inside : ℕ → ℕ → List ℕ → List ℕ
inside first count ws = take count (drop first ws)

unfoldable pub outside : ℕ → ℕ → List ℕ → List ℕ
outside first count ws = take first ws ++ drop (first + count) ws

-- The number that a page has in the range. Pages beside it have numbers after its last, so they use up room, and none of
-- them is taken for one of its own.
unfoldable pub page_in : ℕ → ℕ → ℕ → ℕ
page_in first count p = if nat_lt p (first / PAGE_WORDS) then count / PAGE_WORDS + p else p - first / PAGE_WORDS

-- What a view of a range tells of the words below: those outside are the words beside it. Its further numbers tell where the
-- range lies, and how many words there are below.
abbrev pub within : ℕ → ℕ → Sheet → Sheet
within first count s = record {
  words = inside first count s.words;
  kept = inside first count s.kept;
  started = s.started;
  pages = map (page_in first count) s.pages;
  room = s.room;
  on = s.on;
  cuts = s.cuts;
  bads = s.bads;
  work = s.work;
  price = s.price;
  fixed = first ∷ count ∷ length s.words ∷ s.fixed;
  notes = s.notes;
  beside = outside first count s.words ++ s.beside;
  kept_beside = outside first count s.kept ++ s.kept_beside;
}

-- no word is in both ranges
abbrev pub IsApart : ℕ → ℕ → ℕ → ℕ → Type 0
IsApart first count other size = (first + count ≤ other) ⊎ (other + size ≤ first)

-- What stays outside a range: how many words there are, what is kept of them, and the words themselves, of which the kept ones
-- are left without power.
pub record Stays (first count : ℕ) (old new : Sheet) : Type 0 where
  pub long : length new.words ≡ length old.words
  pub kept : outside first count new.kept ≡ outside first count old.kept
  pub words : (outside first count new.words ≡ outside first count old.words) ⊎ ((new.on ≡ false) × (outside first count new.words ≡ outside first count old.kept))
