-- What the end of a transaction, or a restart, leaves of the pages that it owned.
use Rattle.std.specs.Prelude.{◌≡◌, ◌≢◌, ℕ, ◌/◌, ◌<◌, ◌≤◌, Some, slice_index}
use Rattle.envy_base.specs.declared.fields.Slot.TheVariants.{Vacant}
use Rattle.envy_base.specs.declared.fields.Undo.TheVariants.{Clear}
use Rattle.envy_map.specs.Fields.{Chart, with_fields, place, undo, slot}
use Rattle.envy_soundness.specs.May.{IsSettled}
use Rattle.envy_soundness.specs.Sound.{slot_named, slots_of}
use Rattle.envy_soundness.specs.Words.{kept, live, durable}
use Rattle.envy_base.specs.declared.page.TheConstants.{PAGE_WORDS}

-- no undo names slot t any more: those that did are clear, and nothing else of the board changed
pub record Releases (t : ℕ) (old new : Chart) : Type 0 where
  pub own : (p : ℕ) → slot_named (undo old.fields p) ≡ Some t → undo new.fields p ≡ Some Clear
  pub others : (p : ℕ) → slot_named (undo old.fields p) ≢ Some t → undo new.fields p ≡ undo old.fields p
  pub rest : new ≡ with_fields old (record old.fields { undos = new.fields.undos })

-- each page of slot t is again where a restart would have read it, and no undo names the slot any more:
-- nothing else of the board changed
pub record Restores (t : ℕ) (old new : Chart) : Type 0 where
  pub own : (p : ℕ) → slot_named (undo old.fields p) ≡ Some t → (place new.fields p ≡ kept old.fields p) × (undo new.fields p ≡ Some Clear)
  pub others : (p : ℕ) → slot_named (undo old.fields p) ≢ Some t → (place new.fields p ≡ place old.fields p) × (undo new.fields p ≡ undo old.fields p)
  pub rest : new ≡ with_fields old (record old.fields { places = new.fields.places; undos = new.fields.undos })
  -- loads read of the pages of the slot what a restart would have left of them, and of the others what they read
  pub own_words : (a : ℕ) → slot_named (undo old.fields (a / PAGE_WORDS)) ≡ Some t → slice_index (live new) a ≡ slice_index (durable old) a
  pub other_words : (a : ℕ) → slot_named (undo old.fields (a / PAGE_WORDS)) ≢ Some t → slice_index (live new) a ≡ slice_index (live old) a

-- each page is where a restart reads it, each undo is clear, and each slot that the board has is vacant:
-- nothing else of the board changed
pub record Settles (old new : Chart) : Type 0 where
  pub places : (p : ℕ) → place new.fields p ≡ kept old.fields p
  pub undos : (p : ℕ) → p < old.shape.pages → undo new.fields p ≡ Some Clear
  pub settled : (p : ℕ) → IsSettled new.fields p
  pub slots : (t : ℕ) → t < slots_of old.fields.version → slot new.fields t ≡ Some Vacant
  pub others : (t : ℕ) → slots_of old.fields.version ≤ t → slot new.fields t ≡ slot old.fields t
  pub rest : new ≡ with_fields old (record old.fields { places = new.fields.places; undos = new.fields.undos; slots = new.fields.slots })
  pub words : live new ≡ durable old
