-- What the plain array answers to a command, and what becomes of it.
use Rattle.std.specs.Prelude.{◌≡◌, ◌≢◌, ◌⊎◌, ℕ, ◌<◌, ◌≤◌, Bool, true, false, IsTrue, [], length, None, Some, slice_index, position}
use Rattle.envy_array.specs.Array.{Array, Saved, page_of, slot_of, owner, owned, is_closed, undone, with_slot, stored, put, aborted, restarted}

pub data Command : Type 0 where
  Load : (address : ℕ) → Command
  Look : (address : ℕ) → Command
  Store : (address word : ℕ) → Command
  Begin : Command
  Put : (slot address word : ℕ) → Command
  Commit : (slot : ℕ) → Command
  Abort : (slot : ℕ) → Command
  Tick : Command

pub data Answer : Type 0 where
  Word : (word : ℕ) → Answer
  Done : Answer
  Started : (slot : ℕ) → Answer
  Range : Answer
  Held : (slot : ℕ) → Answer
  Closed : Answer
  Full : Answer
  Busy : Answer

-- slot t may own the page: it does, or nobody does and there is room
abbrev pub MayOwn : Array → ℕ → ℕ → Type 0
MayOwn m t p = (owner m p ≡ Some t) ⊎ ((owner m p ≡ None) × (owned m ≢ m.shadows))

-- from m, the command has this answer and leaves n
abbrev pub Step : Array → Command → Answer → Array → Type 0
Step m (Load a) (Word w) n = (a < length m.words) × (w ≡ slice_index m.words a) × (n ≡ m)
Step m (Load a) Range n = (length m.words ≤ a) × (n ≡ m)
Step m (Look a) (Word w) n = (a < length m.words) × (w ≡ slice_index (undone m) a) × (n ≡ m)
Step m (Look a) Range n = (length m.words ≤ a) × (n ≡ m)
Step m (Store a w) Range n = (length m.words ≤ a) × (n ≡ m)
Step m (Store a w) (Held u) n = (a < length m.words) × (owner m (page_of a) ≡ Some u) × (n ≡ m)
Step m (Store a w) Done n = (a < length m.words) × (owner m (page_of a) ≡ None) × (n ≡ stored m a w)
Step m Begin Busy n = (position is_closed m.slots ≡ None) × (n ≡ m)
Step m Begin (Started t) n = (position is_closed m.slots ≡ Some t) × (n ≡ with_slot m t (Some []))
Step m (Put t a w) Range n = (length m.words ≤ a) × (n ≡ m)
Step m (Put t a w) Closed n = (a < length m.words) × (slot_of m t ≡ None) × (n ≡ m)
Step m (Put t a w) (Held u) n = (a < length m.words) × (slot_of m t ≢ None) × (owner m (page_of a) ≡ Some u) × (u ≢ t) × (n ≡ m)
Step m (Put t a w) Full n = (a < length m.words) × (slot_of m t ≢ None) × (owner m (page_of a) ≡ None) × (owned m ≡ m.shadows) × (n ≡ m)
Step m (Put t a w) Done n = (a < length m.words) × MayOwn m t (page_of a) × (saved : Saved) × (slot_of m t ≡ Some saved) × (n ≡ put m t saved a w)
Step m (Commit t) Closed n = (slot_of m t ≡ None) × (n ≡ m)
Step m (Commit t) Done n = (slot_of m t ≢ None) × (n ≡ with_slot m t None)
Step m (Abort t) Closed n = (slot_of m t ≡ None) × (n ≡ m)
Step m (Abort t) Done n = (saved : Saved) × (slot_of m t ≡ Some saved) × (n ≡ aborted m t saved)
Step m Tick Done n = n ≡ m
Step m command answer n = ⊥

-- the command was not refused
abbrev pub is_accepted : Answer → Bool
is_accepted (Word w) = true
is_accepted Done = true
is_accepted (Started t) = true
is_accepted Range = false
is_accepted (Held u) = false
is_accepted Closed = false
is_accepted Full = false
is_accepted Busy = false

-- the command is accepted, and makes n of m
abbrev pub Accepts : Array → Command → Array → Type 0
Accepts m command n = (answer : Answer) × Step m command answer n × IsTrue (is_accepted answer)

-- power failed in the command: all slots are closed, and it was done or not
abbrev pub Lost : Array → Command → Array → Type 0
Lost m command n = (k : Array) × Accepts m command k × ((n ≡ restarted m) ⊎ (n ≡ restarted k))
