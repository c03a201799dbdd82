-- What leaves the array as it is, and what happened to power and counts meanwhile.
use Rattle.std.specs.Prelude.{◌≡◌, ◌≢◌, ◌⊎◌, ℕ, ◌+◌, ◌-◌, ◌/◌, ◌^◌, ◌<◌, ◌≤◌, Bool, false, IsTrue, List, sum, length, Some, slice_index, slice_set}
use Rattle.envy_base.specs.Counting.{up}
use Rattle.envy_map.specs.Fields.{Chart, undo}
use Rattle.envy_soundness.specs.Sound.{IsSound, slot_named}
use Rattle.envy_soundness.specs.Words.{live, durable}
use Rattle.envy_base.specs.declared.page.TheConstants.{PAGE_WORDS}

-- power and the count of its failures: both stay, or it failed once
abbrev pub Powers : Bool → ℕ → Bool → ℕ → Type 0
Powers on cuts then_on then_cuts = ((then_on ≡ on) × (then_cuts ≡ cuts)) ⊎ (IsTrue on × (then_on ≡ false) × (then_cuts ≡ up cuts))

-- counts that grew by j in all at most
pub record Grows (j : ℕ) (old new : List ℕ) : Type 0 where
  pub long : length new ≡ length old
  pub each : (s : ℕ) → slice_index old s ≤ slice_index new s
  pub least : sum old ≤ sum new
  pub few : sum new ≤ sum old + j

-- power, and the counts, where at most k programs and j erases began
pub record Counted (k j : ℕ) (old new : Chart) : Type 0 where
  pub power : Powers old.on old.cuts new.on new.cuts
  pub cuts : old.cuts ≤ new.cuts
  pub bads : old.bads ≤ new.bads
  pub begun : old.begun ≤ new.begun
  pub few : new.begun ≤ old.begun + k
  pub erases : Grows j old.erases new.erases
  pub pulled : new.pulled ≡ old.pulled
  pub plans : new.plans ≡ old.plans
  pub last_plan : new.last_plan ≡ old.last_plan
  pub lives : new.lives ≡ old.lives
  pub given : new.given ≡ old.given
  pub notes : new.notes ≡ old.notes

-- A wear word went from a to c while the segment's erases went from b to d and power's failures from e
-- to f: it rose by the erases at least, and by them and the failures at most. It stops at the top.
pub record Worn (a b e c d f : ℕ) : Type 0 where
  pub rises : a ≤ c
  pub least : c < 2 ^ 64 - 1 → a + d ≤ c + b
  pub most : d < 2 ^ 64 - 1 → f < 2 ^ 64 - 1 → c + b + e ≤ a + d + f

abbrev pub Wears : Chart → Chart → Type 0
Wears old new = (s : ℕ) → s < old.shape.segments → Worn (slice_index old.fields.wears s) (slice_index old.erases s) old.cuts (slice_index new.fields.wears s) (slice_index new.erases s) new.cuts

-- the shape stays, a formatted board stays formatted, and no page changes its owner
pub record Framed (old new : Chart) : Type 0 where
  pub shape : new.shape ≡ old.shape
  pub magic : new.fields.magic ≡ old.fields.magic
  pub version : new.fields.version ≡ old.fields.version
  pub slots : new.fields.slots ≡ old.fields.slots
  pub owners : (p : ℕ) → slot_named (undo new.fields p) ≡ slot_named (undo old.fields p)

-- the array is as it was; at most k programs and j erases began
pub record Stays (k j : ℕ) (old new : Chart) : Type 0 where
  pub framed : Framed old new
  pub sound : IsSound new
  pub live : live new ≡ live old
  pub durable : durable new ≡ durable old
  pub counted : Counted k j old new

-- and each wear word keeps up with its segment's erases
pub record Same (k j : ℕ) (old new : Chart) : Type 0 where
  pub stays : Stays k j old new
  pub worn : Wears old new

-- what a restart keeps: the words that a failure of power leaves
pub record Kept (old new : Chart) : Type 0 where
  pub shape : new.shape ≡ old.shape
  pub magic : new.fields.magic ≡ old.fields.magic
  pub sound : IsSound new
  pub durable : durable new ≡ durable old
  pub counted : Counted 0 0 old new
  pub worn : Wears old new

-- the words of both kinds are as they were; pages may have other owners, and slots other states
pub record SameWords (k j : ℕ) (old new : Chart) : Type 0 where
  pub shape : new.shape ≡ old.shape
  pub magic : new.fields.magic ≡ old.fields.magic
  pub version : new.fields.version ≡ old.fields.version
  pub sound : IsSound new
  pub live : live new ≡ live old
  pub durable : durable new ≡ durable old
  pub counted : Counted k j old new
  pub worn : Wears old new

-- what a restart leaves is as it was; loads may read other words
pub record SameDurable (k j : ℕ) (old new : Chart) : Type 0 where
  pub shape : new.shape ≡ old.shape
  pub magic : new.fields.magic ≡ old.fields.magic
  pub version : new.fields.version ≡ old.fields.version
  pub sound : IsSound new
  pub durable : durable new ≡ durable old
  pub counted : Counted k j old new
  pub worn : Wears old new

-- one word changed, of what loads read and of what a restart leaves
pub record Stored (k j : ℕ) (old new : Chart) (a w : ℕ) : Type 0 where
  pub on : IsTrue new.on
  pub framed : Framed old new
  pub sound : IsSound new
  pub live : live new ≡ slice_set (live old) a w
  pub durable : durable new ≡ slice_set (durable old) a w
  pub counted : Counted k j old new
  pub worn : Wears old new

-- power was off, or failed in a change of one word: that word has changed or not
pub record Interrupted (k j : ℕ) (old new : Chart) (a w : ℕ) : Type 0 where
  pub off : new.on ≡ false
  pub framed : Framed old new
  pub sound : IsSound new
  pub durable : (durable new ≡ durable old) ⊎ (durable new ≡ slice_set (durable old) a w)
  pub counted : Counted k j old new
  pub worn : Wears old new

-- one word changed, of what loads read alone: a restart takes it back
pub record Shadowed (k j : ℕ) (old new : Chart) (a w : ℕ) : Type 0 where
  pub on : IsTrue new.on
  pub framed : Framed old new
  pub sound : IsSound new
  pub live : live new ≡ slice_set (live old) a w
  pub durable : durable new ≡ durable old
  pub counted : Counted k j old new
  pub worn : Wears old new

-- power was off, or failed in such a change: a restart leaves what it would have left before
pub record Dropped (k j : ℕ) (old new : Chart) : Type 0 where
  pub off : new.on ≡ false
  pub framed : Framed old new
  pub sound : IsSound new
  pub durable : durable new ≡ durable old
  pub counted : Counted k j old new
  pub worn : Wears old new

-- Slot t is done with: what a restart leaves of its pages is what loads read of them.
pub record Commits (k j t : ℕ) (old new : Chart) : Type 0 where
  pub shape : new.shape ≡ old.shape
  pub magic : new.fields.magic ≡ old.fields.magic
  pub version : new.fields.version ≡ old.fields.version
  pub sound : IsSound new
  pub own : (a : ℕ) → slot_named (undo old.fields (a / PAGE_WORDS)) ≡ Some t → slice_index (durable new) a ≡ slice_index (live old) a
  pub others : (a : ℕ) → slot_named (undo old.fields (a / PAGE_WORDS)) ≢ Some t → slice_index (durable new) a ≡ slice_index (durable old) a
  pub live : live new ≡ live old
  pub counted : Counted k j old new
  pub worn : Wears old new

-- loads read of page p what a restart leaves of it, and of the other pages what they read
pub record Restored (p : ℕ) (old new : Chart) : Type 0 where
  pub own : (a : ℕ) → a / PAGE_WORDS ≡ p → slice_index (live new) a ≡ slice_index (durable old) a
  pub others : (a : ℕ) → a / PAGE_WORDS ≢ p → slice_index (live new) a ≡ slice_index (live old) a
