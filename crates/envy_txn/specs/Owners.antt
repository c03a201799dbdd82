-- Which pages open transactions own, and when the list of them is the map's.
use Rattle.std.specs.Prelude.{◌≡◌, ◌≢◌, ℕ, ◌==◌, ◌≤◌, not, Bool, false, List, [], ◌∷◌, length, Option, None, Some, slice_index_or, if◌then◌else◌, AllPairs}
use Rattle.std.specs.List.{filter}
use Rattle.envy_base.specs.declared.fields.Slot.{Slot}
use Rattle.envy_base.specs.declared.fields.Undo.{Undo}
use Rattle.envy_base.specs.declared.fields.Undo.TheVariants.{Clear, Blank, Shadow}
use Rattle.envy_soundness.specs.Sound.{owned_by, slot_named}
use Rattle.envy_txn.specs.declared.pair.Pair.{Pair}

-- the pages and their slots in order of owning, and how many there may be
pub record Ownership : Type 0 where
  pub pairs : List Pair
  pub limit : ℕ

abbrev pub AreApart : Pair → Pair → Type 0
AreApart d e = d.page ≢ e.page

-- each page stands in one pair, and there are no more than the limit
pub record IsOwnership (o : Ownership) : Type 0 where
  pub apart : AllPairs AreApart o.pairs
  pub few : length o.pairs ≤ o.limit

-- the slot that owns the page
abbrev pub owner_of : List Pair → ℕ → Option ℕ
owner_of [] p = None
owner_of (e ∷ rest) p = if e.page == p then Some e.slot else owner_of rest p

-- the slot that owns a page with this undo: the one that the undo names, while it is active
abbrev pub owner_in : List (Option Slot) → Option Undo → Option ℕ
owner_in slots u = if owned_by slots u then slot_named u else None

-- the pairs are the pages with an undo of an active slot, each with the slot that its undo names
abbrev pub AreOwned : List (Option Slot) → List (Option Undo) → List Pair → Type 0
AreOwned slots undos pairs = (p : ℕ) → owner_of pairs p ≡ owner_in slots (slice_index_or undos p None)

abbrev pub is_of_other : ℕ → Pair → Bool
is_of_other t e = not (e.slot == t)

-- the pairs of all other slots
abbrev pub others_of : ℕ → List Pair → List Pair
others_of t pairs = filter (is_of_other t) pairs

-- whether the undo names the slot
abbrev pub names_slot : ℕ → Option Undo → Bool
names_slot t None = false
names_slot t (Some Clear) = false
names_slot t (Some (Blank s)) = s == t
names_slot t (Some (Shadow s q)) = s == t

-- the owner of a page once the slot owns none
abbrev pub without : ℕ → Option ℕ → Option ℕ
without t None = None
without t (Some s) = if s == t then None else Some s
