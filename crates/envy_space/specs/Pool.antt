-- The pool of erased rows, and when its numbers are the map's.
use Rattle.std.specs.Prelude.{◌≡◌, ◌≢◌, ℕ, ◌+◌, ◌-◌, ◌*◌, ◌/◌, ◌%◌, ◌<◌, ◌≤◌, List, [], length, replicate, sum_by, Option, None, Some, slice_index, slice_index_or, slice_set}
use Rattle.std.specs.List.{range_with_len}
use Rattle.envy_base.specs.declared.shape.Shape.{Shape}
use Rattle.envy_base.specs.declared.fields.Place.{Place}
use Rattle.envy_base.specs.declared.fields.Place.TheVariants.{Row}
use Rattle.envy_base.specs.declared.fields.Slot.{Slot}
use Rattle.envy_base.specs.declared.fields.Undo.{Undo}
use Rattle.envy_base.specs.Shape.{IsShape, all_positions_of}
use Rattle.envy_base.specs.State.{ones}
use Rattle.envy_map.specs.Fields.{Fields, Chart, with_fields, place, undo}
use Rattle.envy_map.specs.Writes.{with_back, with_fill, with_position}
use Rattle.envy_soundness.specs.RowKinds.{kept_in}
use Rattle.envy_soundness.specs.PageRows.{page_kept_in}
use Rattle.envy_soundness.specs.Sound.{Names, IsSpare}
use Rattle.envy_space.specs.Order.{IsOrder}
use Rattle.envy_space.specs.Winners.{flag}

-- what a client sees of a `Space`: of each segment its fill and how many of its rows are kept, and the
-- segment at each position
pub record Pool : Type 0 where
  pub shape : Shape
  pub fills : List ℕ
  pub kept : List ℕ
  pub positions : List ℕ

pub record IsPool (p : Pool) : Type 0 where
  pub shape : IsShape p.shape
  pub fills_long : length p.fills ≡ p.shape.segments
  pub kept_long : length p.kept ≡ p.shape.segments
  pub positions_long : length p.positions ≡ all_positions_of p.shape
  pub fills_fit : (s : ℕ) → slice_index p.fills s ≤ p.shape.rows
  pub kept_fit : (s : ℕ) → slice_index p.kept s ≤ slice_index p.fills s
  pub positions_fit : (k : ℕ) → k < all_positions_of p.shape → slice_index p.positions k < p.shape.segments
  pub apart : (i j : ℕ) → i < all_positions_of p.shape → j < all_positions_of p.shape → slice_index p.positions i ≡ slice_index p.positions j → i ≡ j

-- the free and the dead rows of segment s, and of the segment at position k
abbrev pub free_rows : Pool → ℕ → ℕ
free_rows p s = p.shape.rows - slice_index p.fills s

abbrev pub dead_rows : Pool → ℕ → ℕ
dead_rows p s = slice_index p.fills s - slice_index p.kept s

abbrev pub free_at : Pool → ℕ → ℕ
free_at p k = free_rows p (slice_index p.positions k)

abbrev pub dead_at : Pool → ℕ → ℕ
dead_at p k = dead_rows p (slice_index p.positions k)

abbrev pub usable_at : Pool → ℕ → ℕ
usable_at p k = free_at p k + dead_at p k

-- the free rows at the positions from first to last
abbrev pub free_between : Pool → ℕ → ℕ → ℕ
free_between p first last = sum_by (free_at p) (range_with_len first (last + 1 - first))

-- that of an empty formatted board
abbrev pub empty_pool : Shape → Pool
empty_pool sh = record {
  shape = sh;
  fills = replicate sh.segments 0;
  kept = replicate sh.segments 0;
  positions = range_with_len 0 (all_positions_of sh);
}

abbrev pub with_filled : ℕ → ℕ → Pool → Pool
with_filled s n p = record p { fills = slice_set p.fills s n }

abbrev pub with_kept : ℕ → ℕ → Pool → Pool
with_kept s n p = record p { kept = slice_set p.kept s n }

-- after a note that row q is kept, or that it is dead
abbrev pub noted_kept : ℕ → Pool → Pool
noted_kept q p = with_kept (q / p.shape.rows) (slice_index p.kept (q / p.shape.rows) + 1) p

abbrev pub noted_dead : ℕ → Pool → Pool
noted_dead q p = with_kept (q / p.shape.rows) (slice_index p.kept (q / p.shape.rows) - 1) p

abbrev pub with_segment_at : ℕ → ℕ → Pool → Pool
with_segment_at k s p = record p { positions = slice_set p.positions k s }

-- segment s stands at position k, the segment of that position where s stood, and each other stays
pub record StandsAt (k s : ℕ) (old new : Pool) : Type 0 where
  pub is_pool : IsPool new
  pub shape : new.shape ≡ old.shape
  pub fills : new.fills ≡ old.fills
  pub kept : new.kept ≡ old.kept
  pub here : slice_index new.positions k ≡ s
  pub others : (j : ℕ) → j < all_positions_of old.shape → j ≢ k → slice_index old.positions j ≢ s → slice_index new.positions j ≡ slice_index old.positions j
  pub there : (j : ℕ) → j < all_positions_of old.shape → slice_index old.positions j ≡ s → slice_index new.positions j ≡ slice_index old.positions k

-- how many kept rows of segment s the first n pages name
abbrev pub kept_in_first : Shape → Fields → ℕ → ℕ → ℕ
kept_in_first sh f n s = sum_by (λ p. page_kept_in sh f.slots (undo f p) (place f p) s) (range_with_len 0 n)

-- the pool has counted the kept rows that the first n pages name
pub record HasCounted (sh : Shape) (f : Fields) (n : ℕ) (p : Pool) : Type 0 where
  pub long : length p.kept ≡ sh.segments
  pub counted : (s : ℕ) → s < sh.segments → slice_index p.kept s ≡ kept_in_first sh f n s

-- the row that a restart reads a page in, where loads don't read it there
abbrev pub IsShadow : Option Place → Option Place → Option ℕ → Type 0
IsShadow now back (Some q) = (back ≡ Some (Row q)) × (now ≢ Some (Row q))
IsShadow now back None = (q : ℕ) → back ≡ Some (Row q) → now ≡ Some (Row q)

-- the pool's numbers are those of a map with these parts
pub record IsPoolOf (sh : Shape) (slots : List (Option Slot)) (undos : List (Option Undo)) (places : List (Option Place)) (map_fills map_positions : List ℕ) (p : Pool) : Type 0 where
  pub shape : p.shape ≡ sh
  pub fills : p.fills ≡ map_fills
  pub positions : p.positions ≡ map_positions
  pub long : length p.kept ≡ sh.segments
  pub kept : (s : ℕ) → s < sh.segments → slice_index p.kept s ≡ kept_in sh slots undos places s

abbrev pub PoolAgrees : Shape → Fields → Pool → Type 0
PoolAgrees sh f p = IsPoolOf sh f.slots f.undos f.places f.fills f.positions p

-- row q of segment s, the one at its fill of before, was claimed for page p: nothing else changed
pub record Claims (old : Chart) (s p q : ℕ) (new : Chart) : Type 0 where
  pub row : q ≡ s * old.shape.rows + slice_index old.fields.fills s
  pub fields : new ≡ with_fields old (with_fill s (slice_index old.fields.fills s + 1) (with_back q p old.fields))

-- the row is the segment's, claimed for the page, named by none and erased
pub record Claimed (c : Chart) (s p q : ℕ) : Type 0 where
  pub range : q < c.shape.segments * c.shape.rows
  pub segment : q / c.shape.rows ≡ s
  pub filled : q % c.shape.rows < slice_index c.fields.fills (q / c.shape.rows)
  pub claimed : slice_index c.fields.backs q ≡ p
  pub unnamed : (r : ℕ) → Names c.fields r q → ⊥
  pub erased : slice_index_or c.flash q [] ≡ ones

-- the spare e stands at position k in place of the segment there, which is the spare then
pub record Replaces (old : Chart) (old_pool : Pool) (k e : ℕ) (new : Chart) (new_pool : Pool) : Type 0 where
  pub spare : IsSpare old.shape old.fields.positions e
  pub fields : new ≡ with_fields old (with_position k e old.fields)
  pub pool : new_pool ≡ with_segment_at k e old_pool
  pub freed : IsSpare new.shape new.fields.positions (slice_index old.fields.positions k)

-- What is kept of a space: the dead rows of each segment in the order of their positions, the spare last, and
-- in that order which have free rows, and which have dead ones.
pub record IsSpace (sh : Shape) (fills kept order dead has_free has_dead : List ℕ) : Type 0 where
  pub shape : IsShape sh
  pub fills_long : length fills ≡ sh.segments
  pub kept_long : length kept ≡ sh.segments
  pub order_long : length order ≡ sh.segments
  pub dead_long : length dead ≡ sh.segments
  pub fills_fit : (s : ℕ) → slice_index fills s ≤ sh.rows
  pub kept_fit : (s : ℕ) → slice_index kept s ≤ slice_index fills s
  pub ordered : IsOrder order
  pub scores : (k : ℕ) → k < sh.segments → slice_index dead k ≡ slice_index fills (slice_index order k) - slice_index kept (slice_index order k)
  pub has_free_long : length has_free ≡ sh.segments
  pub has_dead_long : length has_dead ≡ sh.segments
  pub free_flags : (k : ℕ) → k < sh.segments → slice_index has_free k ≡ flag (sh.rows - slice_index fills (slice_index order k))
  pub dead_flags : (k : ℕ) → k < sh.segments → slice_index has_dead k ≡ flag (slice_index fills (slice_index order k) - slice_index kept (slice_index order k))
