-- One put, by what it changes of the fields.
use Rattle.std.proofs.Common.{◌≡◌, inl, inr, ℕ, ◌+◌, ◌-◌, ◌*◌, ◌/◌, ◌^◌, ◌<◌, set, refl, ◌∙◌, ap, subst, arith}
use Rattle.std.proofs.lemmas.List.{get_or-set_other}
use Rattle.std.specs.Prelude.{◌≢◌, Some, Result, Ok, Err, slice_index}
use Rattle.envy_base.specs.declared.board.Off.{Off}
use Rattle.envy_base.specs.declared.fields.Job.{Job}
use Rattle.envy_base.specs.declared.fields.Place.{Place}
use Rattle.envy_base.specs.declared.fields.Slot.{Slot}
use Rattle.envy_base.specs.declared.fields.Undo.{Undo}
use Rattle.envy_base.specs.Map.{slots_at, wear_at, fill_at, position_at, table_at, undo_at, back_at, origin_at, frames_at}
use Rattle.envy_base.specs.State.{State, Puts, IsBoard}
use Rattle.envy_map.specs.Codes.{job_of, job_code, IsJob, slot_of, slot_code, place_of, place_code, IsPlace, undo_of, undo_code, IsUndo, with_half}
use Rattle.envy_map.specs.Fields.{Fields, chart, failed, with_fields, map_fields}
use Rattle.envy_map.specs.Writes.{Writes, with_magic, with_version, with_size, with_reserves, with_sums, with_job, with_slot, with_wear, with_fill, with_position, with_place, with_undo, with_places_clear, with_undos_clear, with_back, with_origin, with_frame_word}
use Rattle.envy_map.proofs.CodeLemmas.{job_of-job_code, slot_of-slot_code, place_of-place_code, place_code-fits, undo_of-undo_code, undo_code-fits}
use Rattle.envy_map.proofs.Changes.{fields-magic, fields-version, fields-size, fields-reserves, fields-sums, fields-job, fields-slot, fields-wear, fields-fill, fields-position, fields-place, fields-places_clear, fields-undo, fields-undos_clear, fields-back, fields-origin, fields-frame_word}
use Rattle.envy_base.specs.Shape.{all_positions_of}

pub Writes-puts : (s : State) (w v : ℕ) (change : Fields → Fields) (r : Result Unit Off) (new : State) → map_fields s.shape (set s.sram w v) ≡ change (map_fields s.shape s.sram) → Puts s w v r new → Writes change (chart s) r (chart new)
Writes-puts s w v change (Ok done) new is (on, same) = (on, ap chart same ∙ ap (with_fields (chart s)) is)
Writes-puts s w v change (Err off) new is (inl (off_then, same)) = inl (off_then, ap chart same)
Writes-puts s w v change (Err off) new is (inr (on, inl same)) = inr (on, map_fields s.shape s.sram, inl refl, ap chart same)
Writes-puts s w v change (Err off) new is (inr (on, inr same)) = inr (on, change (map_fields s.shape s.sram), inr refl, ap chart same ∙ ap (λ (f : Fields). failed (with_fields (chart s) f)) is)

Puts-other : (s : State) (w v : ℕ) (r : Result Unit Off) (new : State) → Puts s w v r new → (x : ℕ) → x ≢ w → slice_index new.sram x ≡ slice_index s.sram x
Puts-other s w v (Ok done) new (on, same) x other = ap (λ (t : State). slice_index t.sram x) same ∙ get_or-set_other s.sram w x v 0 other
Puts-other s w v (Err off) new (inl (off_then, same)) x other = ap (λ (t : State). slice_index t.sram x) same
Puts-other s w v (Err off) new (inr (on, inl same)) x other = ap (λ (t : State). slice_index t.sram x) same
Puts-other s w v (Err off) new (inr (on, inr same)) x other = ap (λ (t : State). slice_index t.sram x) same ∙ get_or-set_other s.sram w x v 0 other

abbrev pub SameBelowFrames : State → State → Type 0
SameBelowFrames old new = (w : ℕ) → w < frames_at old.shape → slice_index new.sram w ≡ slice_index old.sram w

-- a put among the frames leaves the words below them
pub below_frames-more : (old mid : State) (k v : ℕ) (r : Result Unit Off) (new : State) → mid.shape ≡ old.shape → SameBelowFrames old mid → Puts mid (frames_at mid.shape + k) v r new → SameBelowFrames old new
below_frames-more old mid k v r new shape same puts w lt =
    let below : w < frames_at mid.shape = rw shape lt in
    Puts-other mid (frames_at mid.shape + k) v r new puts w (omega arith) ∙ same w lt

Puts-at : (s : State) (u w v : ℕ) (r : Result Unit Off) (new : State) → u ≡ w → Puts s u v r new → Puts s w v r new
Puts-at s u w v r new e puts = subst (λ (n : ℕ). Puts s n v r new) e puts

pub Writes-magic : (s : State) (w : ℕ) (v : ℕ) (r : Result Unit Off) (new : State) → IsBoard s → w ≡ 0 → Puts s w v r new → Writes (with_magic v) (chart s) r (chart new)
Writes-magic s w v r new board at puts = Writes-puts s (0) v (with_magic v) r new (fields-magic s.shape s.sram v board.shape board.sram) (Puts-at s w (0) v r new at puts)

pub Writes-version : (s : State) (w : ℕ) (v : ℕ) (r : Result Unit Off) (new : State) → IsBoard s → w ≡ 1 → Puts s w v r new → Writes (with_version v) (chart s) r (chart new)
Writes-version s w v r new board at puts = Writes-puts s (1) v (with_version v) r new (fields-version s.shape s.sram v board.shape board.sram) (Puts-at s w (1) v r new at puts)

pub Writes-reserves : (s : State) (w : ℕ) (v : ℕ) (r : Result Unit Off) (new : State) → IsBoard s → w ≡ 6 → Puts s w v r new → Writes (with_reserves v) (chart s) r (chart new)
Writes-reserves s w v r new board at puts = Writes-puts s (6) v (with_reserves v) r new (fields-reserves s.shape s.sram v board.shape board.sram) (Puts-at s w (6) v r new at puts)

pub Writes-sums : (s : State) (w : ℕ) (v : ℕ) (r : Result Unit Off) (new : State) → IsBoard s → w ≡ 7 → Puts s w v r new → Writes (with_sums v) (chart s) r (chart new)
Writes-sums s w v r new board at puts = Writes-puts s (7) v (with_sums v) r new (fields-sums s.shape s.sram v board.shape board.sram) (Puts-at s w (7) v r new at puts)

pub Writes-size : (s : State) (w : ℕ) (i v : ℕ) (r : Result Unit Off) (new : State) → IsBoard s → i < 3 → w ≡ 2 + i → Puts s w v r new → Writes (with_size i v) (chart s) r (chart new)
Writes-size s w i v r new board lt at puts = Writes-puts s (2 + i) v (with_size i v) r new (fields-size s.shape s.sram i v board.shape board.sram lt) (Puts-at s w (2 + i) v r new at puts)

pub Writes-wear : (s : State) (w : ℕ) (k v : ℕ) (r : Result Unit Off) (new : State) → IsBoard s → k < s.shape.segments → w ≡ wear_at + k → Puts s w v r new → Writes (with_wear k v) (chart s) r (chart new)
Writes-wear s w k v r new board lt at puts = Writes-puts s (wear_at + k) v (with_wear k v) r new (fields-wear s.shape s.sram k v board.shape board.sram lt) (Puts-at s w (wear_at + k) v r new at puts)

pub Writes-fill : (s : State) (w : ℕ) (k v : ℕ) (r : Result Unit Off) (new : State) → IsBoard s → k < s.shape.segments → w ≡ fill_at s.shape + k → Puts s w v r new → Writes (with_fill k v) (chart s) r (chart new)
Writes-fill s w k v r new board lt at puts = Writes-puts s (fill_at s.shape + k) v (with_fill k v) r new (fields-fill s.shape s.sram k v board.shape board.sram lt) (Puts-at s w (fill_at s.shape + k) v r new at puts)

pub Writes-position : (s : State) (w : ℕ) (k v : ℕ) (r : Result Unit Off) (new : State) → IsBoard s → k < all_positions_of s.shape → w ≡ position_at s.shape + k → Puts s w v r new → Writes (with_position k v) (chart s) r (chart new)
Writes-position s w k v r new board lt at puts = Writes-puts s (position_at s.shape + k) v (with_position k v) r new (fields-position s.shape s.sram k v board.shape board.sram lt) (Puts-at s w (position_at s.shape + k) v r new at puts)

pub Writes-back : (s : State) (w : ℕ) (k v : ℕ) (r : Result Unit Off) (new : State) → IsBoard s → k < s.shape.segments * s.shape.rows → w ≡ back_at s.shape + k → Puts s w v r new → Writes (with_back k v) (chart s) r (chart new)
Writes-back s w k v r new board lt at puts = Writes-puts s (back_at s.shape + k) v (with_back k v) r new (fields-back s.shape s.sram k v board.shape board.sram lt) (Puts-at s w (back_at s.shape + k) v r new at puts)

pub Writes-origin : (s : State) (w : ℕ) (k v : ℕ) (r : Result Unit Off) (new : State) → IsBoard s → k < s.shape.rows → w ≡ origin_at s.shape + k → Puts s w v r new → Writes (with_origin k v) (chart s) r (chart new)
Writes-origin s w k v r new board lt at puts = Writes-puts s (origin_at s.shape + k) v (with_origin k v) r new (fields-origin s.shape s.sram k v board.shape board.sram lt) (Puts-at s w (origin_at s.shape + k) v r new at puts)

pub Writes-places_clear : (s : State) (w : ℕ) (i : ℕ) (r : Result Unit Off) (new : State) → IsBoard s → i < (s.shape.pages + 1) / 2 → w ≡ table_at s.shape + i → Puts s w 0 r new → Writes (with_places_clear i) (chart s) r (chart new)
Writes-places_clear s w i r new board lt at puts = Writes-puts s (table_at s.shape + i) 0 (with_places_clear i) r new (fields-places_clear s.shape s.sram i board.shape board.sram lt) (Puts-at s w (table_at s.shape + i) 0 r new at puts)

pub Writes-undos_clear : (s : State) (w : ℕ) (i : ℕ) (r : Result Unit Off) (new : State) → IsBoard s → i < (s.shape.pages + 1) / 2 → w ≡ undo_at s.shape + i → Puts s w 0 r new → Writes (with_undos_clear i) (chart s) r (chart new)
Writes-undos_clear s w i r new board lt at puts = Writes-puts s (undo_at s.shape + i) 0 (with_undos_clear i) r new (fields-undos_clear s.shape s.sram i board.shape board.sram lt) (Puts-at s w (undo_at s.shape + i) 0 r new at puts)

pub Writes-frame_word : (s : State) (w k i v : ℕ) (r : Result Unit Off) (new : State) → IsBoard s → k < s.shape.frames → i < 32 → w ≡ frames_at s.shape + (32 * k + i) → Puts s w v r new → Writes (with_frame_word k i v) (chart s) r (chart new)
Writes-frame_word s w k i v r new board lt place at puts = Writes-puts s (frames_at s.shape + (32 * k + i)) v (with_frame_word k i v) r new (fields-frame_word s.shape s.sram (32 * k + i) v board.shape board.sram (omega arith)) (Puts-at s w (frames_at s.shape + (32 * k + i)) v r new at puts)

pub Writes-job : (s : State) (x : Job) (v : ℕ) (r : Result Unit Off) (new : State) → IsBoard s → IsJob x → v ≡ job_code x → Puts s 5 v r new → Writes (with_job (Some x)) (chart s) r (chart new)
Writes-job s x v r new board fits is puts =
    let read : job_of v ≡ Some x = rw is (job_of-job_code x fits) in
    Writes-puts s 5 v (with_job (Some x)) r new (rw (← read) (fields-job s.shape s.sram v board.shape board.sram)) puts

pub Writes-slot : (s : State) (w t : ℕ) (x : Slot) (v : ℕ) (r : Result Unit Off) (new : State) → IsBoard s → t < 64 → w ≡ slots_at + t → v ≡ slot_code x → Puts s w v r new → Writes (with_slot t (Some x)) (chart s) r (chart new)
Writes-slot s w t x v r new board lt at is puts =
    let read : slot_of v ≡ Some x = rw is (slot_of-slot_code x) in
    Writes-puts s (slots_at + t) v (with_slot t (Some x)) r new (rw (← read) (fields-slot s.shape s.sram t v board.shape board.sram lt)) (Puts-at s w (slots_at + t) v r new at puts)

pub Writes-place : (s : State) (at p : ℕ) (x : Place) (v : ℕ) (r : Result Unit Off) (new : State) → IsBoard s → p < s.shape.pages → IsPlace x → at ≡ table_at s.shape → v ≡ place_code x → Puts s (at + p / 2) (with_half (slice_index s.sram (at + p / 2)) p v) r new → Writes (with_place p (Some x)) (chart s) r (chart new)
Writes-place s at p x v r new board lt fits there is puts =
    let small : v < 2 ^ 32 = rw is (place_code-fits x fits) in
    let read : place_of v ≡ Some x = rw is (place_of-place_code x fits) in
    Writes-puts s (table_at s.shape + p / 2) (with_half (slice_index s.sram (table_at s.shape + p / 2)) p v) (with_place p (Some x)) r new (rw (← read) (fields-place s.shape s.sram p v board.shape board.sram lt small)) (subst (λ (n : ℕ). Puts s (n + p / 2) (with_half (slice_index s.sram (n + p / 2)) p v) r new) there puts)

pub Writes-undo : (s : State) (at p : ℕ) (x : Undo) (v : ℕ) (r : Result Unit Off) (new : State) → IsBoard s → p < s.shape.pages → IsUndo x → at ≡ undo_at s.shape → v ≡ undo_code x → Puts s (at + p / 2) (with_half (slice_index s.sram (at + p / 2)) p v) r new → Writes (with_undo p (Some x)) (chart s) r (chart new)
Writes-undo s at p x v r new board lt fits there is puts =
    let small : v < 2 ^ 32 = rw is (undo_code-fits x fits) in
    let read : undo_of v ≡ Some x = rw is (undo_of-undo_code x fits) in
    Writes-puts s (undo_at s.shape + p / 2) (with_half (slice_index s.sram (undo_at s.shape + p / 2)) p v) (with_undo p (Some x)) r new (rw (← read) (fields-undo s.shape s.sram p v board.shape board.sram lt small)) (subst (λ (n : ℕ). Puts s (n + p / 2) (with_half (slice_index s.sram (n + p / 2)) p v) r new) there puts)
