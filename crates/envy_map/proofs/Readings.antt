-- The word that holds a field.
use Rattle.std.proofs.Common.{◌≡◌, ℕ, ◌+◌, ◌-◌, ◌*◌, ◌/◌, ◌<◌, ◌≤◌, length, get_or, refl, sym, ◌∙◌, ap, subst, arith}
use Rattle.std.specs.Prelude.{None, Result, slice_index}
use Rattle.std.proofs.lemmas.List.{get_or-map}
use Rattle.envy_base.specs.declared.board.Off.{Off}
use Rattle.envy_base.specs.Map.{slots_at, wear_at, fill_at, position_at, table_at, undo_at, back_at, origin_at, frames_at}
use Rattle.envy_base.specs.State.{State, Reads, IsBoard}
use Rattle.envy_map.specs.Codes.{job_of, slot_of, place_of, undo_of, half_of}
use Rattle.envy_map.specs.Fields.{map_fields, region, packed}
use Rattle.envy_map.proofs.Regions.{get_or-region, get_or-packed, length-region, length-packed}
use Rattle.envy_base.specs.Shape.{all_positions_of}

pub Reads-at : (s : State) (x y : ℕ) (r : Result ℕ Off) → x ≡ y → Reads s x r → Reads s y r
Reads-at s x y r e reads = subst (λ (z : ℕ). Reads s z r) e reads

pub job-is : (s : State) → (map_fields s.shape s.sram).job ≡ job_of (slice_index s.sram 5)
unfolding map_fields
job-is s = refl

pub wear-is : (s : State) (w k : ℕ) → k < s.shape.segments → w ≡ wear_at + k → slice_index s.sram w ≡ slice_index (map_fields s.shape s.sram).wears k
unfolding map_fields
wear-is s w k lt at = rw at (sym (get_or-region s.sram wear_at s.shape.segments k lt))

pub fill-is : (s : State) (w k : ℕ) → k < s.shape.segments → w ≡ fill_at s.shape + k → slice_index s.sram w ≡ slice_index (map_fields s.shape s.sram).fills k
unfolding map_fields
fill-is s w k lt at = rw at (sym (get_or-region s.sram (fill_at s.shape) s.shape.segments k lt))

pub position-is : (s : State) (w k : ℕ) → k < all_positions_of s.shape → w ≡ position_at s.shape + k → slice_index s.sram w ≡ slice_index (map_fields s.shape s.sram).positions k
unfolding map_fields
position-is s w k lt at = rw at (sym (get_or-region s.sram (position_at s.shape) (all_positions_of s.shape) k lt))

pub back-is : (s : State) (w k : ℕ) → k < s.shape.segments * s.shape.rows → w ≡ back_at s.shape + k → slice_index s.sram w ≡ slice_index (map_fields s.shape s.sram).backs k
unfolding map_fields
back-is s w k lt at = rw at (sym (get_or-region s.sram (back_at s.shape) (s.shape.segments * s.shape.rows) k lt))

pub origin-is : (s : State) (w k : ℕ) → k < s.shape.rows → w ≡ origin_at s.shape + k → slice_index s.sram w ≡ slice_index (map_fields s.shape s.sram).origins k
unfolding map_fields
origin-is s w k lt at = rw at (sym (get_or-region s.sram (origin_at s.shape) s.shape.rows k lt))

pub frame_word-is : (s : State) (w k i : ℕ) → k < s.shape.frames → i < 32 → w ≡ frames_at s.shape + (32 * k + i) → slice_index s.sram w ≡ slice_index (map_fields s.shape s.sram).frames (32 * k + i)
unfolding map_fields
frame_word-is s w k i lt place at = rw at (sym (get_or-region s.sram (frames_at s.shape) (32 * s.shape.frames) (32 * k + i) (omega arith)))

pub slot-is : (s : State) (w t : ℕ) → IsBoard s → t < 64 → w ≡ slots_at + t → get_or (map_fields s.shape s.sram).slots t None ≡ slot_of (slice_index s.sram w)
unfolding map_fields
slot-is s w t board lt at =
    let room : slots_at + 64 ≤ length s.sram = omega arith in
    let inside : t < length (region s.sram slots_at 64) = rw length-region lt in
    get_or-map slot_of (region s.sram slots_at 64) t 0 None inside ∙ ap slot_of (get_or-region s.sram slots_at 64 t lt ∙ rw at refl)

pub place-is : (s : State) (p at h : ℕ) → IsBoard s → p < s.shape.pages → at ≡ table_at s.shape → h ≡ half_of (slice_index s.sram (at + p / 2)) p → get_or (map_fields s.shape s.sram).places p None ≡ place_of h
unfolding map_fields
place-is s p at h board lt there is =
    let room : table_at s.shape + (s.shape.pages + 1) / 2 ≤ length s.sram = omega arith in
    let inside : p < length (packed s.sram (table_at s.shape) s.shape.pages) = rw length-packed lt in
    get_or-map place_of (packed s.sram (table_at s.shape) s.shape.pages) p 0 None inside
    ∙ ap place_of (get_or-packed s.sram (table_at s.shape) s.shape.pages p lt room ∙ rw (← there) (sym is))

pub undo-is : (s : State) (p at h : ℕ) → IsBoard s → p < s.shape.pages → at ≡ undo_at s.shape → h ≡ half_of (slice_index s.sram (at + p / 2)) p → get_or (map_fields s.shape s.sram).undos p None ≡ undo_of h
unfolding map_fields
undo-is s p at h board lt there is =
    let room : undo_at s.shape + (s.shape.pages + 1) / 2 ≤ length s.sram = omega arith in
    let inside : p < length (packed s.sram (undo_at s.shape) s.shape.pages) = rw length-packed lt in
    get_or-map undo_of (packed s.sram (undo_at s.shape) s.shape.pages) p 0 None inside
    ∙ ap undo_of (get_or-packed s.sram (undo_at s.shape) s.shape.pages p lt room ∙ rw (← there) (sym is))

-- the words that keep the shape
pub size-is : (s : State) (i : ℕ) → i < 3 → slice_index (map_fields s.shape s.sram).sizes i ≡ slice_index s.sram (2 + i)
unfolding map_fields
size-is s i lt = get_or-region s.sram 2 3 i lt
