-- How a segment whose erase fails is retired to a position in reserve.
use Rattle.std.specs.Prelude.{◌≡◌, ℕ, ◌<◌, ◌≤◌, List, Option, Some, None, slice_index}
use Rattle.envy_base.specs.Shape.{all_positions_of, positions_of}
use Rattle.envy_base.specs.declared.shape.Shape.{Shape}
use Rattle.envy_map.specs.Fields.{Chart, with_fields}
use Rattle.envy_map.specs.Writes.{with_fill, with_position}
use Rattle.envy_soundness.specs.Sound.{IsSpare}
use Rattle.envy_space.specs.Pool.{Pool, with_filled, with_segment_at}

-- position k is in reserve, and no row of its segment has been claimed
pub record IsFresh (sh : Shape) (fills positions : List ℕ) (k : ℕ) : Type 0 where
  pub reserved : positions_of sh ≤ k
  pub below : k < all_positions_of sh
  pub empty : slice_index fills (slice_index positions k) ≡ 0

-- the lowest fresh position, or none where no position is fresh
abbrev pub LowestFresh : Shape → List ℕ → List ℕ → Option ℕ → Type 0
LowestFresh sh fills positions (Some k) = IsFresh sh fills positions k × ((j : ℕ) → IsFresh sh fills positions j → k ≤ j)
LowestFresh sh fills positions None = (k : ℕ) → IsFresh sh fills positions k → ⊥

-- the spare e, with no free row, stands at position k, and the segment that stood there is the spare
pub record RetiresTo (old : Chart) (old_pool : Pool) (k e : ℕ) (new : Chart) (new_pool : Pool) : Type 0 where
  pub spare : IsSpare old.shape old.fields.positions e
  pub fields : new ≡ with_fields old (with_position k e (with_fill e old.shape.rows old.fields))
  pub pool : new_pool ≡ with_segment_at k e (with_filled e old.shape.rows old_pool)
  pub freed : IsSpare new.shape new.fields.positions (slice_index old.fields.positions k)
