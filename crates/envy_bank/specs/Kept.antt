-- Rows that are kept as pages, of which those that are marked stand for erased rows. Rows behind the last page
-- that was needed yet have none.
use Rattle.std.specs.Prelude.{◌≡◌, ℕ, ◌<◌, ◌≤◌, Bool, true, false, List, [], ◌∷◌, length, slice_index_or}
use Rattle.envy_base.specs.State.{ones}

-- a marked row is erased, whatever the page holds
abbrev pub kept_row : Bool → List ℕ → List ℕ
kept_row true page = ones
kept_row false page = page

-- the rows of marks and pages
abbrev pub kept_rows : List Bool → List (List ℕ) → List (List ℕ)
kept_rows [] pages = []
kept_rows (mark ∷ marks) [] = ones ∷ kept_rows marks []
kept_rows (mark ∷ marks) (page ∷ pages) = kept_row mark page ∷ kept_rows marks pages

-- there is no page without a row, and a row without a page is marked
pub record ArePaged (marks : List Bool) (pages : List (List ℕ)) : Type 0 where
  pub fits : length pages ≤ length marks
  pub beyond : (q : ℕ) → length pages ≤ q → q < length marks → slice_index_or marks q false ≡ true

-- the rows from `first` on up to the one before `end` are erased, and the others are as before
pub record ErasesRange (first end : ℕ) (old new : List (List ℕ)) : Type 0 where
  pub long : length new ≡ length old
  pub before : (q : ℕ) → q < first → slice_index_or new q [] ≡ slice_index_or old q []
  pub inside : (q : ℕ) → first ≤ q → q < end → slice_index_or new q [] ≡ ones
  pub behind : (q : ℕ) → end ≤ q → slice_index_or new q [] ≡ slice_index_or old q []

-- so are their marks set, and the others are as before
pub record MarksRange (first end : ℕ) (old new : List Bool) : Type 0 where
  pub long : length new ≡ length old
  pub before : (q : ℕ) → q < first → slice_index_or new q false ≡ slice_index_or old q false
  pub inside : (q : ℕ) → first ≤ q → q < end → slice_index_or new q false ≡ true
  pub behind : (q : ℕ) → end ≤ q → slice_index_or new q false ≡ slice_index_or old q false
