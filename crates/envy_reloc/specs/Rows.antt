-- Which rows a relocation takes next.
use Rattle.std.specs.Prelude.{◌≡◌, ◌≢◌, ℕ, ◌/◌, ◌<◌, ◌≤◌, List, Option, None, Some, slice_index}
use Rattle.envy_base.specs.declared.shape.Shape.{Shape}
use Rattle.envy_map.specs.Fields.{Fields}
use Rattle.envy_soundness.specs.Sound.{Names, IsKept}
use Rattle.envy_reloc.specs.declared.row_copy.Left.{Left}
use Rattle.envy_reloc.specs.Plan.{HasCopy}

-- row q is kept, and the spare, n rows of which are filled, has no copy of it
pub record IsLeft (f : Fields) (n q : ℕ) : Type 0 where
  pub kept : IsKept f q
  pub uncopied : (i : ℕ) → i < n → slice_index f.origins i ≢ q

-- the lowest such row of segment v
pub record IsLowestLeft (sh : Shape) (f : Fields) (v n q : ℕ) : Type 0 where
  pub segment : q / sh.rows ≡ v
  pub left : IsLeft f n q
  pub lowest : (r : ℕ) → r / sh.rows ≡ v → r < q → IsLeft f n r → ⊥

-- each kept row of segment v has a copy
abbrev pub AreAllCopied : Shape → Fields → ℕ → ℕ → Type 0
AreAllCopied sh f v n = (p q : ℕ) → Names f p q → q / sh.rows ≡ v → HasCopy f.origins n q

-- the lowest kept row of segment v from the mark upward, with the page that keeps it, or none
abbrev pub NextKept : Shape → Fields → ℕ → ℕ → Option Left → Type 0
NextKept sh f v mark (Some left) =
    (left.row / sh.rows ≡ v) × (mark ≤ left.row) × IsKept f left.row × (slice_index f.backs left.row ≡ left.page) × (left.page < sh.pages)
    × ((p q : ℕ) → Names f p q → q / sh.rows ≡ v → mark ≤ q → left.row ≤ q)
NextKept sh f v mark None = (p q : ℕ) → Names f p q → q / sh.rows ≡ v → q < mark

-- the segment at position k has a free row, and isn't v
pub record HasRoom (sh : Shape) (fills positions : List ℕ) (v k : ℕ) : Type 0 where
  pub other : slice_index positions k ≢ v
  pub room : slice_index fills (slice_index positions k) < sh.rows

-- the lowest such position from first to last
pub record IsLowestRoom (sh : Shape) (fills positions : List ℕ) (v first last k : ℕ) : Type 0 where
  pub above : first ≤ k
  pub below : k ≤ last
  pub has : HasRoom sh fills positions v k
  pub lowest : (j : ℕ) → first ≤ j → j < k → HasRoom sh fills positions v j → ⊥

-- the neighbour has such a position, or there is none
abbrev pub Rooms : Shape → List ℕ → List ℕ → ℕ → ℕ → ℕ → Option ℕ → Type 0
Rooms sh fills positions v first last (Some k) = IsLowestRoom sh fills positions v first last k
Rooms sh fills positions v first last None = (j : ℕ) → first ≤ j → j ≤ last → HasRoom sh fills positions v j → ⊥
