-- The fields after a write of one word.
use Rattle.std.proofs.Common.{◌≡◌, inl, inr, ℕ, ◌+◌, ◌-◌, ◌*◌, ◌/◌, ◌^◌, ◌<◌, ◌≤◌, List, length, set, refl, arith}
use Rattle.std.proofs.lemmas.List.{map-set, get_or-set_same, get_or-set_other}
use Rattle.std.specs.Prelude.{slice_index}
use Rattle.envy_base.specs.declared.shape.Shape.{Shape}
use Rattle.envy_base.specs.Map.{slots_at, wear_at, fill_at, position_at, table_at, undo_at, back_at, origin_at, frames_at, words_of}
use Rattle.envy_base.specs.Shape.{IsShape, all_positions_of}
use Rattle.envy_map.specs.Codes.{job_of, slot_of, place_of, undo_of, with_half}
use Rattle.envy_map.specs.Fields.{map_fields, region, packed}
use Rattle.envy_map.specs.Writes.{with_magic, with_version, with_size, with_reserves, with_sums, with_wear, with_fill, with_position, with_places_clear, with_undos_clear, with_back, with_origin}
use Rattle.envy_map.proofs.Regions.{region_other, region_here, packed-other, packed-set, packed-clear}

-- words 0 to 71 give the same fields
record SameHead (xs ys : List ℕ) : Type 0 where
  magic : slice_index ys 0 ≡ slice_index xs 0
  version : slice_index ys 1 ≡ slice_index xs 1
  sizes : region ys 2 3 ≡ region xs 2 3
  job : slice_index ys 5 ≡ slice_index xs 5
  reserves : slice_index ys 6 ≡ slice_index xs 6
  sums : slice_index ys 7 ≡ slice_index xs 7
  slots : region ys slots_at 64 ≡ region xs slots_at 64

-- the words from 72 to the table give the same fields
record SameSegments (sh : Shape) (xs ys : List ℕ) : Type 0 where
  wears : region ys wear_at sh.segments ≡ region xs wear_at sh.segments
  fills : region ys (fill_at sh) sh.segments ≡ region xs (fill_at sh) sh.segments
  positions : region ys (position_at sh) (all_positions_of sh) ≡ region xs (position_at sh) (all_positions_of sh)

-- the words from the table on give the same fields
record SamePages (sh : Shape) (xs ys : List ℕ) : Type 0 where
  places : packed ys (table_at sh) sh.pages ≡ packed xs (table_at sh) sh.pages
  undos : packed ys (undo_at sh) sh.pages ≡ packed xs (undo_at sh) sh.pages
  backs : region ys (back_at sh) (sh.segments * sh.rows) ≡ region xs (back_at sh) (sh.segments * sh.rows)
  origins : region ys (origin_at sh) sh.rows ≡ region xs (origin_at sh) sh.rows
  frames : region ys (frames_at sh) (32 * sh.frames) ≡ region xs (frames_at sh) (32 * sh.frames)

head-above : (xs : List ℕ) (w v : ℕ) → 72 ≤ w → SameHead xs (set xs w v)
head-above xs w v above = record {
  magic = get_or-set_other xs w 0 v 0 (omega arith);
  version = get_or-set_other xs w 1 v 0 (omega arith);
  sizes = region_other xs 2 3 w v (inr (omega arith));
  job = get_or-set_other xs w 5 v 0 (omega arith);
  reserves = get_or-set_other xs w 6 v 0 (omega arith);
  sums = get_or-set_other xs w 7 v 0 (omega arith);
  slots = region_other xs slots_at 64 w v (inr (omega arith));
}

segments-below : (sh : Shape) (xs : List ℕ) (w v : ℕ) → w < 72 → SameSegments sh xs (set xs w v)
segments-below sh xs w v below = record {
  wears = region_other xs wear_at sh.segments w v (inl (omega arith));
  fills = region_other xs (fill_at sh) sh.segments w v (inl (omega arith));
  positions = region_other xs (position_at sh) (all_positions_of sh) w v (inl (omega arith));
}

segments-above : (sh : Shape) (xs : List ℕ) (w v : ℕ) → IsShape sh → table_at sh ≤ w → SameSegments sh xs (set xs w v)
segments-above sh xs w v shape above = record {
  wears = region_other xs wear_at sh.segments w v (inr (omega arith));
  fills = region_other xs (fill_at sh) sh.segments w v (inr (omega arith));
  positions = region_other xs (position_at sh) (all_positions_of sh) w v (inr (omega arith));
}

pages-below : (sh : Shape) (xs : List ℕ) (w v : ℕ) → w < table_at sh → SamePages sh xs (set xs w v)
pages-below sh xs w v below = record {
  places = packed-other xs (table_at sh) sh.pages w v (inl (omega arith));
  undos = packed-other xs (undo_at sh) sh.pages w v (inl (omega arith));
  backs = region_other xs (back_at sh) (sh.segments * sh.rows) w v (inl (omega arith));
  origins = region_other xs (origin_at sh) sh.rows w v (inl (omega arith));
  frames = region_other xs (frames_at sh) (32 * sh.frames) w v (inl (omega arith));
}

pub fields-magic : (sh : Shape) (xs : List ℕ) (v : ℕ) → IsShape sh → length xs ≡ words_of sh → map_fields sh (set xs 0 v) ≡ with_magic v (map_fields sh xs)
unfolding map_fields
fields-magic sh xs v shape long =
    let w : ℕ = 0 in
    let segments = segments-below sh xs w v (omega arith) in
    let pages = pages-below sh xs w v (omega arith) in
    let version : slice_index (set xs w v) 1 ≡ slice_index xs 1 = get_or-set_other xs w 1 v 0 (omega arith) in
    let sizes : region (set xs w v) 2 3 ≡ region xs 2 3 = region_other xs 2 3 w v (inl (omega arith)) in
    let job : slice_index (set xs w v) 5 ≡ slice_index xs 5 = get_or-set_other xs w 5 v 0 (omega arith) in
    let slots : region (set xs w v) slots_at 64 ≡ region xs slots_at 64 = region_other xs slots_at 64 w v (inl (omega arith)) in
    let magic : slice_index (set xs w v) 0 ≡ v = get_or-set_same xs 0 v 0 (omega arith) in
    let reserves : slice_index (set xs w v) 6 ≡ slice_index xs 6 = get_or-set_other xs w 6 v 0 (omega arith) in
    let sums : slice_index (set xs w v) 7 ≡ slice_index xs 7 = get_or-set_other xs w 7 v 0 (omega arith) in
    rw (version, sizes, job, slots, reserves, sums, segments.wears, segments.fills, segments.positions, pages.places, pages.undos, pages.backs, pages.origins, pages.frames, magic) refl

pub fields-version : (sh : Shape) (xs : List ℕ) (v : ℕ) → IsShape sh → length xs ≡ words_of sh → map_fields sh (set xs 1 v) ≡ with_version v (map_fields sh xs)
unfolding map_fields
fields-version sh xs v shape long =
    let w : ℕ = 1 in
    let segments = segments-below sh xs w v (omega arith) in
    let pages = pages-below sh xs w v (omega arith) in
    let magic : slice_index (set xs w v) 0 ≡ slice_index xs 0 = get_or-set_other xs w 0 v 0 (omega arith) in
    let sizes : region (set xs w v) 2 3 ≡ region xs 2 3 = region_other xs 2 3 w v (inl (omega arith)) in
    let job : slice_index (set xs w v) 5 ≡ slice_index xs 5 = get_or-set_other xs w 5 v 0 (omega arith) in
    let slots : region (set xs w v) slots_at 64 ≡ region xs slots_at 64 = region_other xs slots_at 64 w v (inl (omega arith)) in
    let version : slice_index (set xs w v) 1 ≡ v = get_or-set_same xs 1 v 0 (omega arith) in
    let reserves : slice_index (set xs w v) 6 ≡ slice_index xs 6 = get_or-set_other xs w 6 v 0 (omega arith) in
    let sums : slice_index (set xs w v) 7 ≡ slice_index xs 7 = get_or-set_other xs w 7 v 0 (omega arith) in
    rw (magic, sizes, job, slots, reserves, sums, segments.wears, segments.fills, segments.positions, pages.places, pages.undos, pages.backs, pages.origins, pages.frames, version) refl

pub fields-reserves : (sh : Shape) (xs : List ℕ) (v : ℕ) → IsShape sh → length xs ≡ words_of sh → map_fields sh (set xs 6 v) ≡ with_reserves v (map_fields sh xs)
unfolding map_fields
fields-reserves sh xs v shape long =
    let w : ℕ = 6 in
    let segments = segments-below sh xs w v (omega arith) in
    let pages = pages-below sh xs w v (omega arith) in
    let magic : slice_index (set xs w v) 0 ≡ slice_index xs 0 = get_or-set_other xs w 0 v 0 (omega arith) in
    let version : slice_index (set xs w v) 1 ≡ slice_index xs 1 = get_or-set_other xs w 1 v 0 (omega arith) in
    let sizes : region (set xs w v) 2 3 ≡ region xs 2 3 = region_other xs 2 3 w v (inr (omega arith)) in
    let job : slice_index (set xs w v) 5 ≡ slice_index xs 5 = get_or-set_other xs w 5 v 0 (omega arith) in
    let slots : region (set xs w v) slots_at 64 ≡ region xs slots_at 64 = region_other xs slots_at 64 w v (inl (omega arith)) in
    let sums : slice_index (set xs w v) 7 ≡ slice_index xs 7 = get_or-set_other xs w 7 v 0 (omega arith) in
    let reserves : slice_index (set xs w v) 6 ≡ v = get_or-set_same xs 6 v 0 (omega arith) in
    rw (magic, sizes, job, slots, reserves, sums, segments.wears, segments.fills, segments.positions, pages.places, pages.undos, pages.backs, pages.origins, pages.frames, version) refl

pub fields-sums : (sh : Shape) (xs : List ℕ) (v : ℕ) → IsShape sh → length xs ≡ words_of sh → map_fields sh (set xs 7 v) ≡ with_sums v (map_fields sh xs)
unfolding map_fields
fields-sums sh xs v shape long =
    let w : ℕ = 7 in
    let segments = segments-below sh xs w v (omega arith) in
    let pages = pages-below sh xs w v (omega arith) in
    let magic : slice_index (set xs w v) 0 ≡ slice_index xs 0 = get_or-set_other xs w 0 v 0 (omega arith) in
    let version : slice_index (set xs w v) 1 ≡ slice_index xs 1 = get_or-set_other xs w 1 v 0 (omega arith) in
    let sizes : region (set xs w v) 2 3 ≡ region xs 2 3 = region_other xs 2 3 w v (inr (omega arith)) in
    let job : slice_index (set xs w v) 5 ≡ slice_index xs 5 = get_or-set_other xs w 5 v 0 (omega arith) in
    let slots : region (set xs w v) slots_at 64 ≡ region xs slots_at 64 = region_other xs slots_at 64 w v (inl (omega arith)) in
    let reserves : slice_index (set xs w v) 6 ≡ slice_index xs 6 = get_or-set_other xs w 6 v 0 (omega arith) in
    let sums : slice_index (set xs w v) 7 ≡ v = get_or-set_same xs 7 v 0 (omega arith) in
    rw (magic, sizes, job, slots, reserves, sums, segments.wears, segments.fills, segments.positions, pages.places, pages.undos, pages.backs, pages.origins, pages.frames, version) refl

pub fields-size : (sh : Shape) (xs : List ℕ) (i v : ℕ) → IsShape sh → length xs ≡ words_of sh → i < 3 → map_fields sh (set xs (2 + i) v) ≡ with_size i v (map_fields sh xs)
unfolding map_fields
fields-size sh xs i v shape long lt =
    let w : ℕ = 2 + i in
    let segments = segments-below sh xs w v (omega arith) in
    let pages = pages-below sh xs w v (omega arith) in
    let magic : slice_index (set xs w v) 0 ≡ slice_index xs 0 = get_or-set_other xs w 0 v 0 (omega arith) in
    let version : slice_index (set xs w v) 1 ≡ slice_index xs 1 = get_or-set_other xs w 1 v 0 (omega arith) in
    let job : slice_index (set xs w v) 5 ≡ slice_index xs 5 = get_or-set_other xs w 5 v 0 (omega arith) in
    let slots : region (set xs w v) slots_at 64 ≡ region xs slots_at 64 = region_other xs slots_at 64 w v (inl (omega arith)) in
    let sizes : region (set xs w v) 2 3 ≡ set (region xs 2 3) i v = region_here xs 2 3 i v in
    let reserves : slice_index (set xs w v) 6 ≡ slice_index xs 6 = get_or-set_other xs w 6 v 0 (omega arith) in
    let sums : slice_index (set xs w v) 7 ≡ slice_index xs 7 = get_or-set_other xs w 7 v 0 (omega arith) in
    rw (magic, version, job, slots, reserves, sums, segments.wears, segments.fills, segments.positions, pages.places, pages.undos, pages.backs, pages.origins, pages.frames, sizes) refl

pub fields-job : (sh : Shape) (xs : List ℕ) (v : ℕ) → IsShape sh → length xs ≡ words_of sh → map_fields sh (set xs 5 v) ≡ record (map_fields sh xs) { job = job_of v }
unfolding map_fields
fields-job sh xs v shape long =
    let w : ℕ = 5 in
    let segments = segments-below sh xs w v (omega arith) in
    let pages = pages-below sh xs w v (omega arith) in
    let magic : slice_index (set xs w v) 0 ≡ slice_index xs 0 = get_or-set_other xs w 0 v 0 (omega arith) in
    let version : slice_index (set xs w v) 1 ≡ slice_index xs 1 = get_or-set_other xs w 1 v 0 (omega arith) in
    let sizes : region (set xs w v) 2 3 ≡ region xs 2 3 = region_other xs 2 3 w v (inr (omega arith)) in
    let slots : region (set xs w v) slots_at 64 ≡ region xs slots_at 64 = region_other xs slots_at 64 w v (inl (omega arith)) in
    let job : slice_index (set xs w v) 5 ≡ v = get_or-set_same xs 5 v 0 (omega arith) in
    let reserves : slice_index (set xs w v) 6 ≡ slice_index xs 6 = get_or-set_other xs w 6 v 0 (omega arith) in
    let sums : slice_index (set xs w v) 7 ≡ slice_index xs 7 = get_or-set_other xs w 7 v 0 (omega arith) in
    rw (magic, version, sizes, slots, reserves, sums, segments.wears, segments.fills, segments.positions, pages.places, pages.undos, pages.backs, pages.origins, pages.frames, job) refl

pub fields-slot : (sh : Shape) (xs : List ℕ) (t v : ℕ) → IsShape sh → length xs ≡ words_of sh → t < 64 → map_fields sh (set xs (slots_at + t) v) ≡ record (map_fields sh xs) { slots = set (map_fields sh xs).slots t (slot_of v) }
unfolding map_fields
fields-slot sh xs t v shape long lt =
    let w : ℕ = slots_at + t in
    let segments = segments-below sh xs w v (omega arith) in
    let pages = pages-below sh xs w v (omega arith) in
    let magic : slice_index (set xs w v) 0 ≡ slice_index xs 0 = get_or-set_other xs w 0 v 0 (omega arith) in
    let version : slice_index (set xs w v) 1 ≡ slice_index xs 1 = get_or-set_other xs w 1 v 0 (omega arith) in
    let sizes : region (set xs w v) 2 3 ≡ region xs 2 3 = region_other xs 2 3 w v (inr (omega arith)) in
    let job : slice_index (set xs w v) 5 ≡ slice_index xs 5 = get_or-set_other xs w 5 v 0 (omega arith) in
    let slots : region (set xs w v) slots_at 64 ≡ set (region xs slots_at 64) t v = region_here xs slots_at 64 t v in
    let reserves : slice_index (set xs w v) 6 ≡ slice_index xs 6 = get_or-set_other xs w 6 v 0 (omega arith) in
    let sums : slice_index (set xs w v) 7 ≡ slice_index xs 7 = get_or-set_other xs w 7 v 0 (omega arith) in
    rw (magic, version, sizes, job, reserves, sums, segments.wears, segments.fills, segments.positions, pages.places, pages.undos, pages.backs, pages.origins, pages.frames, slots, map-set) refl

pub fields-wear : (sh : Shape) (xs : List ℕ) (k v : ℕ) → IsShape sh → length xs ≡ words_of sh → k < sh.segments → map_fields sh (set xs (wear_at + k) v) ≡ with_wear k v (map_fields sh xs)
unfolding map_fields
fields-wear sh xs k v shape long lt =
    let w : ℕ = wear_at + k in
    let head = head-above xs w v (omega arith) in
    let pages = pages-below sh xs w v (omega arith) in
    let fills : region (set xs w v) (fill_at sh) sh.segments ≡ region xs (fill_at sh) sh.segments = region_other xs (fill_at sh) sh.segments w v (inl (omega arith)) in
    let positions : region (set xs w v) (position_at sh) (all_positions_of sh) ≡ region xs (position_at sh) (all_positions_of sh) = region_other xs (position_at sh) (all_positions_of sh) w v (inl (omega arith)) in
    let wears : region (set xs w v) wear_at sh.segments ≡ set (region xs wear_at sh.segments) k v = region_here xs wear_at sh.segments k v in
    rw (fills, positions, head.magic, head.version, head.sizes, head.job, head.reserves, head.sums, head.slots, pages.places, pages.undos, pages.backs, pages.origins, pages.frames, wears) refl

pub fields-fill : (sh : Shape) (xs : List ℕ) (k v : ℕ) → IsShape sh → length xs ≡ words_of sh → k < sh.segments → map_fields sh (set xs (fill_at sh + k) v) ≡ with_fill k v (map_fields sh xs)
unfolding map_fields
fields-fill sh xs k v shape long lt =
    let w : ℕ = fill_at sh + k in
    let head = head-above xs w v (omega arith) in
    let pages = pages-below sh xs w v (omega arith) in
    let wears : region (set xs w v) wear_at sh.segments ≡ region xs wear_at sh.segments = region_other xs wear_at sh.segments w v (inr (omega arith)) in
    let positions : region (set xs w v) (position_at sh) (all_positions_of sh) ≡ region xs (position_at sh) (all_positions_of sh) = region_other xs (position_at sh) (all_positions_of sh) w v (inl (omega arith)) in
    let fills : region (set xs w v) (fill_at sh) sh.segments ≡ set (region xs (fill_at sh) sh.segments) k v = region_here xs (fill_at sh) sh.segments k v in
    rw (wears, positions, head.magic, head.version, head.sizes, head.job, head.reserves, head.sums, head.slots, pages.places, pages.undos, pages.backs, pages.origins, pages.frames, fills) refl

pub fields-position : (sh : Shape) (xs : List ℕ) (k v : ℕ) → IsShape sh → length xs ≡ words_of sh → k < all_positions_of sh → map_fields sh (set xs (position_at sh + k) v) ≡ with_position k v (map_fields sh xs)
unfolding map_fields
fields-position sh xs k v shape long lt =
    let w : ℕ = position_at sh + k in
    let head = head-above xs w v (omega arith) in
    let pages = pages-below sh xs w v (omega arith) in
    let wears : region (set xs w v) wear_at sh.segments ≡ region xs wear_at sh.segments = region_other xs wear_at sh.segments w v (inr (omega arith)) in
    let fills : region (set xs w v) (fill_at sh) sh.segments ≡ region xs (fill_at sh) sh.segments = region_other xs (fill_at sh) sh.segments w v (inr (omega arith)) in
    let positions : region (set xs w v) (position_at sh) (all_positions_of sh) ≡ set (region xs (position_at sh) (all_positions_of sh)) k v = region_here xs (position_at sh) (all_positions_of sh) k v in
    rw (wears, fills, head.magic, head.version, head.sizes, head.job, head.reserves, head.sums, head.slots, pages.places, pages.undos, pages.backs, pages.origins, pages.frames, positions) refl

pub fields-place : (sh : Shape) (xs : List ℕ) (p u : ℕ) → IsShape sh → length xs ≡ words_of sh → p < sh.pages → u < 2 ^ 32 → map_fields sh (set xs (table_at sh + p / 2) (with_half (slice_index xs (table_at sh + p / 2)) p u)) ≡ record (map_fields sh xs) { places = set (map_fields sh xs).places p (place_of u) }
unfolding map_fields
fields-place sh xs p u shape long lt fits =
    let w : ℕ = table_at sh + p / 2 in
    let v : ℕ = with_half (slice_index xs (table_at sh + p / 2)) p u in
    let half : p / 2 < (sh.pages + 1) / 2 = omega arith in
    let head = head-above xs w v (omega arith) in
    let segments = segments-above sh xs w v shape (omega arith) in
    let undos : packed (set xs w v) (undo_at sh) sh.pages ≡ packed xs (undo_at sh) sh.pages = packed-other xs (undo_at sh) sh.pages w v (inl (omega arith)) in
    let backs : region (set xs w v) (back_at sh) (sh.segments * sh.rows) ≡ region xs (back_at sh) (sh.segments * sh.rows) = region_other xs (back_at sh) (sh.segments * sh.rows) w v (inl (omega arith)) in
    let origins : region (set xs w v) (origin_at sh) sh.rows ≡ region xs (origin_at sh) sh.rows = region_other xs (origin_at sh) sh.rows w v (inl (omega arith)) in
    let frames : region (set xs w v) (frames_at sh) (32 * sh.frames) ≡ region xs (frames_at sh) (32 * sh.frames) = region_other xs (frames_at sh) (32 * sh.frames) w v (inl (omega arith)) in
    let places : packed (set xs w v) (table_at sh) sh.pages ≡ set (packed xs (table_at sh) sh.pages) p u = packed-set xs (table_at sh) sh.pages p u lt fits (omega arith) in
    rw (undos, backs, origins, frames, head.magic, head.version, head.sizes, head.job, head.reserves, head.sums, head.slots, segments.wears, segments.fills, segments.positions, places, map-set) refl

pub fields-places_clear : (sh : Shape) (xs : List ℕ) (i : ℕ) → IsShape sh → length xs ≡ words_of sh → i < (sh.pages + 1) / 2 → map_fields sh (set xs (table_at sh + i) 0) ≡ with_places_clear i (map_fields sh xs)
unfolding map_fields place_of
fields-places_clear sh xs i shape long lt =
    let w : ℕ = table_at sh + i in
    let v : ℕ = 0 in
    let half : i < (sh.pages + 1) / 2 = lt in
    let head = head-above xs w v (omega arith) in
    let segments = segments-above sh xs w v shape (omega arith) in
    let undos : packed (set xs w v) (undo_at sh) sh.pages ≡ packed xs (undo_at sh) sh.pages = packed-other xs (undo_at sh) sh.pages w v (inl (omega arith)) in
    let backs : region (set xs w v) (back_at sh) (sh.segments * sh.rows) ≡ region xs (back_at sh) (sh.segments * sh.rows) = region_other xs (back_at sh) (sh.segments * sh.rows) w v (inl (omega arith)) in
    let origins : region (set xs w v) (origin_at sh) sh.rows ≡ region xs (origin_at sh) sh.rows = region_other xs (origin_at sh) sh.rows w v (inl (omega arith)) in
    let frames : region (set xs w v) (frames_at sh) (32 * sh.frames) ≡ region xs (frames_at sh) (32 * sh.frames) = region_other xs (frames_at sh) (32 * sh.frames) w v (inl (omega arith)) in
    let places : packed (set xs w v) (table_at sh) sh.pages ≡ set (set (packed xs (table_at sh) sh.pages) (2 * i) 0) (2 * i + 1) 0 = packed-clear xs (table_at sh) sh.pages i in
    rw (undos, backs, origins, frames, head.magic, head.version, head.sizes, head.job, head.reserves, head.sums, head.slots, segments.wears, segments.fills, segments.positions, places, map-set, map-set) refl

pub fields-undo : (sh : Shape) (xs : List ℕ) (p u : ℕ) → IsShape sh → length xs ≡ words_of sh → p < sh.pages → u < 2 ^ 32 → map_fields sh (set xs (undo_at sh + p / 2) (with_half (slice_index xs (undo_at sh + p / 2)) p u)) ≡ record (map_fields sh xs) { undos = set (map_fields sh xs).undos p (undo_of u) }
unfolding map_fields
fields-undo sh xs p u shape long lt fits =
    let w : ℕ = undo_at sh + p / 2 in
    let v : ℕ = with_half (slice_index xs (undo_at sh + p / 2)) p u in
    let half : p / 2 < (sh.pages + 1) / 2 = omega arith in
    let head = head-above xs w v (omega arith) in
    let segments = segments-above sh xs w v shape (omega arith) in
    let places : packed (set xs w v) (table_at sh) sh.pages ≡ packed xs (table_at sh) sh.pages = packed-other xs (table_at sh) sh.pages w v (inr (omega arith)) in
    let backs : region (set xs w v) (back_at sh) (sh.segments * sh.rows) ≡ region xs (back_at sh) (sh.segments * sh.rows) = region_other xs (back_at sh) (sh.segments * sh.rows) w v (inl (omega arith)) in
    let origins : region (set xs w v) (origin_at sh) sh.rows ≡ region xs (origin_at sh) sh.rows = region_other xs (origin_at sh) sh.rows w v (inl (omega arith)) in
    let frames : region (set xs w v) (frames_at sh) (32 * sh.frames) ≡ region xs (frames_at sh) (32 * sh.frames) = region_other xs (frames_at sh) (32 * sh.frames) w v (inl (omega arith)) in
    let undos : packed (set xs w v) (undo_at sh) sh.pages ≡ set (packed xs (undo_at sh) sh.pages) p u = packed-set xs (undo_at sh) sh.pages p u lt fits (omega arith) in
    rw (places, backs, origins, frames, head.magic, head.version, head.sizes, head.job, head.reserves, head.sums, head.slots, segments.wears, segments.fills, segments.positions, undos, map-set) refl

pub fields-undos_clear : (sh : Shape) (xs : List ℕ) (i : ℕ) → IsShape sh → length xs ≡ words_of sh → i < (sh.pages + 1) / 2 → map_fields sh (set xs (undo_at sh + i) 0) ≡ with_undos_clear i (map_fields sh xs)
unfolding map_fields undo_of
fields-undos_clear sh xs i shape long lt =
    let w : ℕ = undo_at sh + i in
    let v : ℕ = 0 in
    let half : i < (sh.pages + 1) / 2 = lt in
    let head = head-above xs w v (omega arith) in
    let segments = segments-above sh xs w v shape (omega arith) in
    let places : packed (set xs w v) (table_at sh) sh.pages ≡ packed xs (table_at sh) sh.pages = packed-other xs (table_at sh) sh.pages w v (inr (omega arith)) in
    let backs : region (set xs w v) (back_at sh) (sh.segments * sh.rows) ≡ region xs (back_at sh) (sh.segments * sh.rows) = region_other xs (back_at sh) (sh.segments * sh.rows) w v (inl (omega arith)) in
    let origins : region (set xs w v) (origin_at sh) sh.rows ≡ region xs (origin_at sh) sh.rows = region_other xs (origin_at sh) sh.rows w v (inl (omega arith)) in
    let frames : region (set xs w v) (frames_at sh) (32 * sh.frames) ≡ region xs (frames_at sh) (32 * sh.frames) = region_other xs (frames_at sh) (32 * sh.frames) w v (inl (omega arith)) in
    let undos : packed (set xs w v) (undo_at sh) sh.pages ≡ set (set (packed xs (undo_at sh) sh.pages) (2 * i) 0) (2 * i + 1) 0 = packed-clear xs (undo_at sh) sh.pages i in
    rw (places, backs, origins, frames, head.magic, head.version, head.sizes, head.job, head.reserves, head.sums, head.slots, segments.wears, segments.fills, segments.positions, undos, map-set, map-set) refl

pub fields-back : (sh : Shape) (xs : List ℕ) (k v : ℕ) → IsShape sh → length xs ≡ words_of sh → k < sh.segments * sh.rows → map_fields sh (set xs (back_at sh + k) v) ≡ with_back k v (map_fields sh xs)
unfolding map_fields
fields-back sh xs k v shape long lt =
    let w : ℕ = back_at sh + k in
    let head = head-above xs w v (omega arith) in
    let segments = segments-above sh xs w v shape (omega arith) in
    let places : packed (set xs w v) (table_at sh) sh.pages ≡ packed xs (table_at sh) sh.pages = packed-other xs (table_at sh) sh.pages w v (inr (omega arith)) in
    let undos : packed (set xs w v) (undo_at sh) sh.pages ≡ packed xs (undo_at sh) sh.pages = packed-other xs (undo_at sh) sh.pages w v (inr (omega arith)) in
    let origins : region (set xs w v) (origin_at sh) sh.rows ≡ region xs (origin_at sh) sh.rows = region_other xs (origin_at sh) sh.rows w v (inl (omega arith)) in
    let frames : region (set xs w v) (frames_at sh) (32 * sh.frames) ≡ region xs (frames_at sh) (32 * sh.frames) = region_other xs (frames_at sh) (32 * sh.frames) w v (inl (omega arith)) in
    let backs : region (set xs w v) (back_at sh) (sh.segments * sh.rows) ≡ set (region xs (back_at sh) (sh.segments * sh.rows)) k v = region_here xs (back_at sh) (sh.segments * sh.rows) k v in
    rw (places, undos, origins, frames, head.magic, head.version, head.sizes, head.job, head.reserves, head.sums, head.slots, segments.wears, segments.fills, segments.positions, backs) refl

pub fields-origin : (sh : Shape) (xs : List ℕ) (k v : ℕ) → IsShape sh → length xs ≡ words_of sh → k < sh.rows → map_fields sh (set xs (origin_at sh + k) v) ≡ with_origin k v (map_fields sh xs)
unfolding map_fields
fields-origin sh xs k v shape long lt =
    let w : ℕ = origin_at sh + k in
    let head = head-above xs w v (omega arith) in
    let segments = segments-above sh xs w v shape (omega arith) in
    let places : packed (set xs w v) (table_at sh) sh.pages ≡ packed xs (table_at sh) sh.pages = packed-other xs (table_at sh) sh.pages w v (inr (omega arith)) in
    let undos : packed (set xs w v) (undo_at sh) sh.pages ≡ packed xs (undo_at sh) sh.pages = packed-other xs (undo_at sh) sh.pages w v (inr (omega arith)) in
    let backs : region (set xs w v) (back_at sh) (sh.segments * sh.rows) ≡ region xs (back_at sh) (sh.segments * sh.rows) = region_other xs (back_at sh) (sh.segments * sh.rows) w v (inr (omega arith)) in
    let frames : region (set xs w v) (frames_at sh) (32 * sh.frames) ≡ region xs (frames_at sh) (32 * sh.frames) = region_other xs (frames_at sh) (32 * sh.frames) w v (inl (omega arith)) in
    let origins : region (set xs w v) (origin_at sh) sh.rows ≡ set (region xs (origin_at sh) sh.rows) k v = region_here xs (origin_at sh) sh.rows k v in
    rw (places, undos, backs, frames, head.magic, head.version, head.sizes, head.job, head.reserves, head.sums, head.slots, segments.wears, segments.fills, segments.positions, origins) refl

pub fields-frame_word : (sh : Shape) (xs : List ℕ) (k v : ℕ) → IsShape sh → length xs ≡ words_of sh → k < 32 * sh.frames → map_fields sh (set xs (frames_at sh + k) v) ≡ record (map_fields sh xs) { frames = set (map_fields sh xs).frames k v }
unfolding map_fields
fields-frame_word sh xs k v shape long lt =
    let w : ℕ = frames_at sh + k in
    let head = head-above xs w v (omega arith) in
    let segments = segments-above sh xs w v shape (omega arith) in
    let places : packed (set xs w v) (table_at sh) sh.pages ≡ packed xs (table_at sh) sh.pages = packed-other xs (table_at sh) sh.pages w v (inr (omega arith)) in
    let undos : packed (set xs w v) (undo_at sh) sh.pages ≡ packed xs (undo_at sh) sh.pages = packed-other xs (undo_at sh) sh.pages w v (inr (omega arith)) in
    let backs : region (set xs w v) (back_at sh) (sh.segments * sh.rows) ≡ region xs (back_at sh) (sh.segments * sh.rows) = region_other xs (back_at sh) (sh.segments * sh.rows) w v (inr (omega arith)) in
    let origins : region (set xs w v) (origin_at sh) sh.rows ≡ region xs (origin_at sh) sh.rows = region_other xs (origin_at sh) sh.rows w v (inr (omega arith)) in
    let frames : region (set xs w v) (frames_at sh) (32 * sh.frames) ≡ set (region xs (frames_at sh) (32 * sh.frames)) k v = region_here xs (frames_at sh) (32 * sh.frames) k v in
    rw (places, undos, backs, origins, head.magic, head.version, head.sizes, head.job, head.reserves, head.sums, head.slots, segments.wears, segments.fills, segments.positions, frames) refl
