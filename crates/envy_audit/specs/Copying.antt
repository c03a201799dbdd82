-- What an audit asks of the spare of a switch, part by part.
use Rattle.std.specs.Prelude.{◌≡◌, ℕ, ◌+◌, ◌*◌, ◌/◌, ◌<◌, [], slice_index, slice_index_or}
use Rattle.envy_map.specs.Fields.{Chart}
use Rattle.envy_soundness.specs.Sound.{Names, IsKept}

-- the first origins are rows of the segment and differ from each other
pub record OriginsStand (c : Chart) (v fill : ℕ) : Type 0 where
  pub rows : (i : ℕ) → i < fill → slice_index c.fields.origins i / c.shape.rows ≡ v
  pub differ : (i j : ℕ) → i < fill → j < fill → slice_index c.fields.origins i ≡ slice_index c.fields.origins j → i ≡ j

-- every kept row of the segment is one of the first origins
abbrev pub KeptAreCopied : Chart → ℕ → ℕ → Type 0
KeptAreCopied c v fill =
    (p q : ℕ) → Names c.fields p q → q / c.shape.rows ≡ v → (i : ℕ) × (i < fill) × (slice_index c.fields.origins i ≡ q)

-- a row of the spare that was copied from a kept row is a copy of it
abbrev pub CopiesAreSame : Chart → ℕ → ℕ → Type 0
CopiesAreSame c e fill =
    (i : ℕ) → i < fill → IsKept c.fields (slice_index c.fields.origins i)
    → (slice_index_or c.flash (e * c.shape.rows + i) [] ≡ slice_index_or c.flash (slice_index c.fields.origins i) [])
    × (slice_index c.fields.backs (e * c.shape.rows + i) ≡ slice_index c.fields.backs (slice_index c.fields.origins i))

-- of a row of the spare and the row that it was copied from no more than one is kept
abbrev pub IsKeptOnce : Chart → ℕ → Type 0
IsKeptOnce c e =
    (i : ℕ) → i < c.shape.rows → IsKept c.fields (e * c.shape.rows + i) → IsKept c.fields (slice_index c.fields.origins i) → ⊥
