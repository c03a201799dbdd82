-- The pages of a slot, one pair at a time: what the pairs so far have done, and what holds in between.
use Rattle.std.specs.Prelude.{◌≡◌, ℕ, ◌*◌, ◌/◌, ◌==◌, ◌&&◌, ◌<◌, ◌≤◌, IsTrue, Bool, true, false, List, Option, None, Some, slice_index, slice_index_or, slice_set}
use Rattle.std.specs.List.{All, filter, list_any}
use Rattle.envy_base.specs.declared.fields.Slot.TheVariants.{Vacant, Active, Committed}
use Rattle.envy_base.specs.declared.fields.Place.{Place}
use Rattle.envy_base.specs.declared.fields.Place.TheVariants.{Absent, Row, Frame}
use Rattle.envy_base.specs.declared.fields.Undo.{Undo}
use Rattle.envy_base.specs.declared.fields.Undo.TheVariants.{Clear, Blank, Shadow}
use Rattle.envy_map.specs.Fields.{Chart, with_fields, place, undo, slot}
use Rattle.envy_map.specs.Writes.{with_slot}
use Rattle.envy_soundness.specs.Naming.{AreParted}
use Rattle.envy_soundness.specs.Sound.{IsSound, slot_named}
use Rattle.envy_soundness.specs.Words.{kept}
use Rattle.envy_frames.specs.Agreement.{AreHeld}
use Rattle.envy_frames.specs.declared.held.Held.{Held}
use Rattle.envy_frames.specs.Order.{is_other}
use Rattle.envy_space.specs.Pool.{Pool, PoolAgrees, noted_dead}
use Rattle.envy_table.specs.Agreement.{AreCurrent}
use Rattle.envy_table.specs.Entries.{Entry}
use Rattle.envy_txn.specs.declared.pair.Pair.{Pair}

-- whether one of the pairs gives the page to the slot
abbrev pub gives : ℕ → ℕ → Pair → Bool
gives t p e = (e.page == p) && (e.slot == t)

abbrev pub is_among : List Pair → ℕ → ℕ → Bool
is_among pairs t p = list_any (gives t p) pairs

-- the pairs are the slot's, and the undos of their pages name it
abbrev pub AreNamed : ℕ → List (Option Undo) → List Pair → Type 0
AreNamed t undos pairs = All (λ e. (e.slot ≡ t) × (slot_named (slice_index_or undos e.page None) ≡ Some t)) pairs

-- The slot has committed. Rows and references agree with the map as if it were active.
pub record Releasing (c : Chart) (pool : Pool) (t : ℕ) : Type 0 where
  pub on : IsTrue c.on
  pub sound : IsSound c
  pub low : t < 64
  pub committed : slot c.fields t ≡ Some Committed
  pub agrees : PoolAgrees c.shape (with_slot t (Some Active) c.fields) pool
  pub parted : AreParted (slice_set c.fields.slots t (Some Active)) c.fields.undos c.fields.places

-- from c to d the undos of those pages of slot t became clear that these pairs give it
pub record ReleasedIn (pairs : List Pair) (t : ℕ) (c d : Chart) : Type 0 where
  pub own : (p : ℕ) → is_among pairs t p ≡ true → undo d.fields p ≡ Some Clear
  pub others : (p : ℕ) → is_among pairs t p ≡ false → undo d.fields p ≡ undo c.fields p
  pub rest : d ≡ with_fields c (record c.fields { undos = d.fields.undos })

-- the row of an undo that is cleared is counted as kept
abbrev pub IsDroppable : Pool → Undo → Type 0
IsDroppable pool Clear = Unit {0}
IsDroppable pool (Blank t) = Unit {0}
IsDroppable pool (Shadow t q) = (q < pool.shape.segments * pool.shape.rows) × (0 < slice_index pool.kept (q / pool.shape.rows))

abbrev pub dropped_pool : Undo → Pool → Pool
dropped_pool Clear pool = pool
dropped_pool (Blank t) pool = pool
dropped_pool (Shadow t q) pool = noted_dead q pool

-- The slot is open, and the parts agree with the board.
pub record Restoring (c : Chart) (pool : Pool) (held : List Held) (entries : List Entry) (t : ℕ) : Type 0 where
  pub on : IsTrue c.on
  pub sound : IsSound c
  pub active : slot c.fields t ≡ Some Active
  pub agrees : PoolAgrees c.shape c.fields pool
  pub are_held : AreHeld c.shape c.fields.places held
  pub current : AreCurrent c.shape.pages c.fields.places entries
  pub parted : AreParted c.fields.slots c.fields.undos c.fields.places

-- from c to d those pages of slot t that these pairs give it went back to where a restart reads them
pub record RestoredIn (pairs : List Pair) (t : ℕ) (c d : Chart) : Type 0 where
  pub own : (p : ℕ) → is_among pairs t p ≡ true → (place d.fields p ≡ kept c.fields p) × (undo d.fields p ≡ Some Clear)
  pub others : (p : ℕ) → is_among pairs t p ≡ false → (place d.fields p ≡ place c.fields p) × (undo d.fields p ≡ undo c.fields p)
  pub rest : d ≡ with_fields c (record c.fields { places = d.fields.places; undos = d.fields.undos })

-- the row that a page leaves is counted as kept
abbrev pub IsLeavable : Pool → Place → Type 0
IsLeavable pool Absent = Unit {0}
IsLeavable pool (Frame k) = Unit {0}
IsLeavable pool (Row q) = (q < pool.shape.segments * pool.shape.rows) × (0 < slice_index pool.kept (q / pool.shape.rows))

abbrev pub left_pool : Place → Pool → Pool
left_pool Absent pool = pool
left_pool (Frame k) pool = pool
left_pool (Row q) pool = noted_dead q pool

-- the frame that a page leaves is given back
abbrev pub left_held : Place → List Held → List Held
left_held Absent held = held
left_held (Row q) held = held
left_held (Frame k) held = filter (is_other k) held

-- from c to d the pages below n went to where a restart reads them, and their undos became clear
pub record SettledTo (n : ℕ) (c d : Chart) : Type 0 where
  pub below : (p : ℕ) → p < n → (place d.fields p ≡ kept c.fields p) × (undo d.fields p ≡ Some Clear)
  pub above : (p : ℕ) → n ≤ p → (place d.fields p ≡ place c.fields p) × (undo d.fields p ≡ undo c.fields p)
  pub rest : d ≡ with_fields c (record c.fields { places = d.fields.places; undos = d.fields.undos })

-- from c to d the slots below n became vacant
pub record VacatedTo (n : ℕ) (c d : Chart) : Type 0 where
  pub below : (t : ℕ) → t < n → slot d.fields t ≡ Some Vacant
  pub above : (t : ℕ) → n ≤ t → slot d.fields t ≡ slot c.fields t
  pub rest : d ≡ with_fields c (record c.fields { slots = d.fields.slots })
