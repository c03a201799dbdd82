-- How a pool follows the place or the undo of a page.
use Rattle.std.specs.Prelude.{◌≡◌, ◌≢◌, ℕ, ◌+◌, ◌*◌, ◌/◌, ◌<◌, ◌==◌, true, length, Some, if◌then◌else◌}
use Rattle.envy_base.specs.declared.fields.Place.TheVariants.{Row}
use Rattle.envy_base.specs.declared.shape.Shape.{Shape}
use Rattle.envy_map.specs.Fields.{Fields, place, undo}
use Rattle.envy_soundness.specs.PageRows.{page_kept_in}
use Rattle.envy_soundness.specs.Sound.{Names, owned_by}
use Rattle.envy_soundness.specs.Words.{kept_by}
use Rattle.envy_space.specs.Pool.{Pool, PoolAgrees}

-- how many kept rows of segment s page p names
abbrev pub rows_of_page : Shape → Fields → ℕ → ℕ → ℕ
rows_of_page sh f p s = page_kept_in sh f.slots (undo f p) (place f p) s

-- 1 for the segment that row q lies in, and 0 for the others
abbrev pub lies_in : Shape → ℕ → ℕ → ℕ
lies_in sh q s = if q / sh.rows == s then 1 else 0

-- The pool agrees with the map f. From f to g the place and the undo of page p have changed, and nothing
-- else that a pool knows.
pub record ChangesPage (sh : Shape) (f g : Fields) (p : ℕ) (pool : Pool) : Type 0 where
  pub agrees : PoolAgrees sh f pool
  pub page : p < sh.pages
  pub slots : g.slots ≡ f.slots
  pub fills : g.fills ≡ f.fills
  pub positions : g.positions ≡ f.positions
  pub places : (r : ℕ) → r ≢ p → place g r ≡ place f r
  pub undos : (r : ℕ) → r ≢ p → undo g r ≡ undo f r

-- the page names as many rows of each segment as before
abbrev pub NamesAsMany : Shape → Fields → Fields → ℕ → Type 0
NamesAsMany sh f g p = (s : ℕ) → rows_of_page sh g p s ≡ rows_of_page sh f p s

-- the page names row q besides
pub record NamesOneMore (sh : Shape) (f g : Fields) (p q : ℕ) : Type 0 where
  pub range : q < sh.segments * sh.rows
  pub more : (s : ℕ) → rows_of_page sh g p s ≡ rows_of_page sh f p s + lies_in sh q s

-- the page names row q where it named row r
pub record NamesInPlace (sh : Shape) (f g : Fields) (p r q : ℕ) : Type 0 where
  pub range : q < sh.segments * sh.rows
  pub old_range : r < sh.segments * sh.rows
  -- the rows that it named before and names still
  pub others : ℕ → ℕ
  pub before : (s : ℕ) → rows_of_page sh f p s ≡ others s + lies_in sh r s
  pub after : (s : ℕ) → rows_of_page sh g p s ≡ others s + lies_in sh q s

-- the pool agrees with the map f, where page p stands in no row, and may come to row q, which it doesn't name
pub record Rowed (sh : Shape) (f : Fields) (pool : Pool) (p q : ℕ) : Type 0 where
  pub agrees : PoolAgrees sh f pool
  pub page : p < sh.pages
  pub room : p < length f.places
  pub range : q < sh.segments * sh.rows
  pub elsewhere : (r : ℕ) → place f p ≢ Some (Row r)
  pub fresh : Names f p q → ⊥

-- the pool agrees with the map f, where page p stands in row q, which its active undo doesn't name
pub record Leaving (sh : Shape) (f : Fields) (pool : Pool) (p q : ℕ) : Type 0 where
  pub agrees : PoolAgrees sh f pool
  pub page : p < sh.pages
  pub room : p < length f.places
  pub range : q < sh.segments * sh.rows
  pub here : place f p ≡ Some (Row q)
  pub apart : owned_by f.slots (undo f p) ≡ true → kept_by f.slots (undo f p) (place f p) ≢ Some (Row q)
