-- What becomes of the owners and the words of a board where a transaction puts, commits or aborts.
use Rattle.std.specs.Prelude.{◌≡◌, ◌≢◌, ℕ, ◌/◌, IsTrue, List, Option, None, Some, slice_index, slice_set, if◌then◌else◌}
use Rattle.envy_base.specs.declared.fields.Slot.{Slot}
use Rattle.envy_base.specs.declared.fields.Slot.TheVariants.{Vacant}
use Rattle.envy_base.specs.declared.fields.Undo.{Undo}
use Rattle.envy_base.specs.declared.fields.Undo.TheVariants.{Clear}
use Rattle.envy_map.specs.Fields.{Chart, undo}
use Rattle.envy_soundness.specs.Same.{Counted, Wears}
use Rattle.envy_soundness.specs.Sound.{IsSound, owned_by, slot_named}
use Rattle.envy_soundness.specs.Words.{live, durable}
use Rattle.envy_base.specs.declared.page.TheConstants.{PAGE_WORDS}

-- the open transaction that owns a page with this undo
abbrev pub owner_in : List (Option Slot) → Option Undo → Option ℕ
owner_in slots u = if owned_by slots u then slot_named u else None

-- page p came to slot t; the slots, and the owners of the other pages, stay
pub record Owns (t p : ℕ) (old new : Chart) : Type 0 where
  pub shape : new.shape ≡ old.shape
  pub magic : new.fields.magic ≡ old.fields.magic
  pub version : new.fields.version ≡ old.fields.version
  pub slots : new.fields.slots ≡ old.fields.slots
  pub own : slot_named (undo new.fields p) ≡ Some t
  pub others : (r : ℕ) → r ≢ p → slot_named (undo new.fields r) ≡ slot_named (undo old.fields r)

-- the first put of slot t to page p: loads read the word, a restart takes it back, and the page is the slot's
pub record PutDone (k j t p : ℕ) (old new : Chart) (a w : ℕ) : Type 0 where
  pub on : IsTrue new.on
  pub owns : Owns t p old new
  pub sound : IsSound new
  pub live : live new ≡ slice_set (live old) a w
  pub durable : durable new ≡ durable old
  pub counted : Counted k j old new
  pub worn : Wears old new

-- slot t is closed, and no undo names it any more; the other slots and undos stay
pub record Closes (t : ℕ) (old new : Chart) : Type 0 where
  pub slots : new.fields.slots ≡ slice_set old.fields.slots t (Some Vacant)
  pub own : (p : ℕ) → slot_named (undo old.fields p) ≡ Some t → undo new.fields p ≡ Some Clear
  pub others : (p : ℕ) → slot_named (undo old.fields p) ≢ Some t → undo new.fields p ≡ undo old.fields p

-- loads read of the pages of slot t what a restart would have left of them, and of the others what they read
pub record TakesBack (t : ℕ) (old new : Chart) : Type 0 where
  pub own : (a : ℕ) → slot_named (undo old.fields (a / PAGE_WORDS)) ≡ Some t → slice_index (live new) a ≡ slice_index (durable old) a
  pub others : (a : ℕ) → slot_named (undo old.fields (a / PAGE_WORDS)) ≢ Some t → slice_index (live new) a ≡ slice_index (live old) a
