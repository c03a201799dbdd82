-- How long the lists of a board's fields are, and that what they hold are words.
use Rattle.std.proofs.Common.{◌≡◌, ◌⊎◌, inl, inr, ℕ, ◌+◌, ◌-◌, ◌*◌, ◌/◌, ◌%◌, ◌^◌, ◌<◌, ◌≤◌, List, length, get_or, false, refl, sym, ap, ◌∙◌, arith}
use Rattle.std.specs.Prelude.{◌==◌, min, if◌then◌else◌}
use Rattle.std.proofs.lemmas.List.{length-map, length-take, get_or_past}
use Rattle.std.proofs.lemmas.Bool.{cases_lt, ne_eqb}
use Rattle.envy_base.specs.declared.shape.Shape.{Shape}
use Rattle.envy_base.specs.Map.{slots_at, wear_at, fill_at, position_at, table_at, undo_at, back_at, origin_at, frames_at}
use Rattle.envy_base.specs.Shape.{IsShape, IsVersionOf, all_positions_of}
use Rattle.envy_base.proofs.Versions.{version-known, plain-version}
use Rattle.envy_base.specs.State.{State, IsBoard, AreWords}
use Rattle.envy_map.specs.Codes.{slot_of, place_of, undo_of}
use Rattle.envy_map.specs.Fields.{chart, map_fields, region, packed, sizes_of, shape_in, narrowed}
use Rattle.envy_map.proofs.Regions.{length-region, length-packed, get_or-region}

pub length-sizes : (s : State) → IsBoard s → length (chart s).fields.sizes ≡ 3
unfolding map_fields
length-sizes s board = length-region s.sram 2 3 (omega arith)

pub length-slots : (s : State) → IsBoard s → length (chart s).fields.slots ≡ 64
unfolding map_fields
length-slots s board = length-map (region s.sram slots_at 64) slot_of ∙ length-region s.sram slots_at 64 (omega arith)

pub length-wears : (s : State) → IsBoard s → length (chart s).fields.wears ≡ s.shape.segments
unfolding map_fields
length-wears s board = length-region s.sram wear_at s.shape.segments (omega arith)

pub length-fills : (s : State) → IsBoard s → length (chart s).fields.fills ≡ s.shape.segments
unfolding map_fields
length-fills s board = length-region s.sram (fill_at s.shape) s.shape.segments (omega arith)

pub length-positions : (s : State) → IsBoard s → length (chart s).fields.positions ≡ all_positions_of s.shape
unfolding map_fields
length-positions s board = length-region s.sram (position_at s.shape) (all_positions_of s.shape) (omega arith)

pub length-places : (s : State) → IsBoard s → length (chart s).fields.places ≡ s.shape.pages
unfolding map_fields
length-places s board = length-map (packed s.sram (table_at s.shape) s.shape.pages) place_of ∙ length-packed s.sram (table_at s.shape) s.shape.pages (omega arith)

pub length-undos : (s : State) → IsBoard s → length (chart s).fields.undos ≡ s.shape.pages
unfolding map_fields
length-undos s board = length-map (packed s.sram (undo_at s.shape) s.shape.pages) undo_of ∙ length-packed s.sram (undo_at s.shape) s.shape.pages (omega arith)

pub length-backs : (s : State) → IsBoard s → length (chart s).fields.backs ≡ s.shape.segments * s.shape.rows
unfolding map_fields
length-backs s board = length-region s.sram (back_at s.shape) (s.shape.segments * s.shape.rows) (omega arith)

pub length-origins : (s : State) → IsBoard s → length (chart s).fields.origins ≡ s.shape.rows
unfolding map_fields
length-origins s board = length-region s.sram (origin_at s.shape) s.shape.rows (omega arith)

pub length-frames : (s : State) → IsBoard s → length (chart s).fields.frames ≡ 32 * s.shape.frames
unfolding map_fields
length-frames s board = length-region s.sram (frames_at s.shape) (32 * s.shape.frames) (omega arith)

region-words : (xs : List ℕ) (at n : ℕ) → AreWords xs → AreWords (region xs at n)
region-words xs at n words i = by_place (cases_lt i n)
  where
    by_place : (i < n) ⊎ (n ≤ i) → get_or (region xs at n) i 0 < 2 ^ 64
    by_place (inl lt) = rw (get_or-region xs at n i lt) (words (at + i))
    by_place (inr le) = let past : length (region xs at n) ≤ i = rw length-take (omega arith) in rw (get_or_past (region xs at n) i 0 past) (omega arith)

pub magic-word : (s : State) → IsBoard s → (chart s).fields.magic < 2 ^ 64
unfolding map_fields
magic-word s board = board.words 0

pub version-word : (s : State) → IsBoard s → (chart s).fields.version < 2 ^ 64
unfolding map_fields
version-word s board = board.words 1

pub sizes-words : (s : State) → IsBoard s → AreWords (chart s).fields.sizes
unfolding map_fields
sizes-words s board = region-words s.sram 2 3 board.words

pub wears-words : (s : State) → IsBoard s → AreWords (chart s).fields.wears
unfolding map_fields
wears-words s board = region-words s.sram wear_at s.shape.segments board.words

pub fills-words : (s : State) → IsBoard s → AreWords (chart s).fields.fills
unfolding map_fields
fills-words s board = region-words s.sram (fill_at s.shape) s.shape.segments board.words

pub positions-words : (s : State) → IsBoard s → AreWords (chart s).fields.positions
unfolding map_fields
positions-words s board = region-words s.sram (position_at s.shape) (all_positions_of s.shape) board.words

pub backs-words : (s : State) → IsBoard s → AreWords (chart s).fields.backs
unfolding map_fields
backs-words s board = region-words s.sram (back_at s.shape) (s.shape.segments * s.shape.rows) board.words

pub origins-words : (s : State) → IsBoard s → AreWords (chart s).fields.origins
unfolding map_fields
origins-words s board = region-words s.sram (origin_at s.shape) s.shape.rows board.words

pub frames-words : (s : State) → IsBoard s → AreWords (chart s).fields.frames
unfolding map_fields
frames-words s board = region-words s.sram (frames_at s.shape) (32 * s.shape.frames) board.words

-- the words that keep a shape give it back, without reserves and sums
pub shape_in-sizes_of : (sh : Shape) (version reserves sums : ℕ) → IsShape sh → (if version == 3 then narrowed reserves else 0) ≡ sh.reserves → (if version == 3 then narrowed sums else 0) ≡ sh.sums → shape_in version (sizes_of sh) reserves sums ≡ sh
shape_in-sizes_of sh version more kept shape reserves sums =
    let segments : (sh.segments * 2 ^ 32 + sh.rows) / 2 ^ 32 ≡ sh.segments = omega arith in
    let rows : (sh.segments * 2 ^ 32 + sh.rows) % 2 ^ 32 ≡ sh.rows = omega arith in
    let pages : (sh.pages * 2 ^ 32 + sh.shadows) / 2 ^ 32 ≡ sh.pages = omega arith in
    let shadows : (sh.pages * 2 ^ 32 + sh.shadows) % 2 ^ 32 ≡ sh.shadows = omega arith in
    let frames : (sh.frames * 2 ^ 32 + sh.entries) / 2 ^ 32 ≡ sh.frames = omega arith in
    let entries : (sh.frames * 2 ^ 32 + sh.entries) % 2 ^ 32 ≡ sh.entries = omega arith in
    rw (reserves, sums, segments, rows, pages, shadows, frames, entries) refl

kept-number : (version w n : ℕ) → n ≤ 4096 → ((version ≡ 3) × (w ≡ n)) ⊎ ((version ≡ 3 → ⊥) × (n ≡ 0)) → (if version == 3 then narrowed w else 0) ≡ n
kept-number version w n few (inl (three, is)) = rw (three, is) (omega arith)
kept-number version w n few (inr (other, none)) = let differ : (version == 3) ≡ false = ne_eqb version 3 other in rw differ (sym none)

three-or-plain : (sh : Shape) (version : ℕ) → IsVersionOf sh version → ((version ≡ 3) ⊎ ((version ≡ 3 → ⊥) × ((sh.reserves ≡ 0) × (sh.sums ≡ 0))))
three-or-plain sh version (inl is) = elim (version-known sh) [ inl two ↦ inr ((λ three. absurd (omega arith)), plain-version sh two) | inr three ↦ inl (is ∙ three) ]
three-or-plain sh version (inr (one, two)) = inr ((λ three. absurd (omega arith)), plain-version sh two)

-- the words of a map of the shape's version give the shape back
pub shape_in-kept : (sh : Shape) (version reserves sums : ℕ) → IsShape sh → IsVersionOf sh version → (version ≡ 3 → reserves ≡ sh.reserves) → (version ≡ 3 → sums ≡ sh.sums) → shape_in version (sizes_of sh) reserves sums ≡ sh
shape_in-kept sh version more kept shape known reserves sums =
    shape_in-sizes_of sh version more kept shape
    (kept-number version more sh.reserves (omega arith) (reserved (three-or-plain sh version known)))
    (kept-number version kept sh.sums (omega (arith, shape.unsummed)) (summed (three-or-plain sh version known)))
  where
    reserved : (version ≡ 3) ⊎ ((version ≡ 3 → ⊥) × ((sh.reserves ≡ 0) × (sh.sums ≡ 0))) → ((version ≡ 3) × (more ≡ sh.reserves)) ⊎ ((version ≡ 3 → ⊥) × (sh.reserves ≡ 0))
    reserved (inl three) = inl (three, reserves three)
    reserved (inr (other, (none, unsummed))) = inr (other, none)

    summed : (version ≡ 3) ⊎ ((version ≡ 3 → ⊥) × ((sh.reserves ≡ 0) × (sh.sums ≡ 0))) → ((version ≡ 3) × (kept ≡ sh.sums)) ⊎ ((version ≡ 3 → ⊥) × (sh.sums ≡ 0))
    summed (inl three) = inl (three, sums three)
    summed (inr (other, (none, unsummed))) = inr (other, unsummed)
