-- How the owners are kept: entries in order of owning, some of which own their page no more.
use Rattle.std.specs.Prelude.{◌≡◌, ℕ, ◌+◌, ◌-◌, ◌^◌, ◌==◌, ◌&&◌, ◌<◌, ◌≤◌, Bool, true, false, List, [], ◌∷◌, length, slice_index, slice_index_or, if◌then◌else◌}
use Rattle.std.specs.List.{filter}
use Rattle.envy_txn.specs.declared.entry.Entry.{Entry}
use Rattle.envy_txn.specs.declared.pair.Pair.{Pair}
use Rattle.envy_txn.specs.Owners.{IsOwnership}

-- the pairs of the entries that own
abbrev pub pairs_in : List Entry → List Pair
pairs_in [] = []
pairs_in (e ∷ rest) = if e.live then e.pair ∷ pairs_in rest else pairs_in rest

abbrev pub is_own : ℕ → Pair → Bool
is_own t e = e.slot == t

-- the pairs of the slot
abbrev pub own_of : ℕ → List Pair → List Pair
own_of t pairs = filter (is_own t) pairs

-- whether the entry owns for the slot
abbrev pub is_of : ℕ → Entry → Bool
is_of t e = e.live && (e.pair.slot == t)

-- the entry once the slot owns no more
abbrev pub end_of : ℕ → Entry → Entry
end_of t e = if is_of t e then record e { live = false } else e

-- of the entries below n the slot's newest is the one before place `at`, and at 0 none is the slot's
pub record IsNewest (t at n : ℕ) (xs : List Entry) : Type 0 where
  pub low : at ≤ n
  pub here : (d : Entry) → 0 < at → is_of t (slice_index_or xs (at - 1) d) ≡ true
  pub above : (k : ℕ) (d : Entry) → at ≤ k → k < n → is_of t (slice_index_or xs k d) ≡ false

-- each slot's entries are linked, from the newest to the oldest
pub record IsChained (xs : List Entry) (newest : List ℕ) : Type 0 where
  pub slots : length newest ≡ 256
  pub heads : (t : ℕ) → t < 256 → IsNewest t (slice_index newest t) (length xs) xs
  pub links : (i : ℕ) (d : Entry) → i < length xs → (slice_index_or xs i d).live ≡ true
      → IsNewest (slice_index_or xs i d).pair.slot (slice_index_or xs i d).older i xs

-- a page below the length of the list has its entry at the place that the list tells
abbrev pub ArePlaced : List Entry → List ℕ → Type 0
ArePlaced xs places = (i : ℕ) (d : Entry) → i < length xs → (slice_index_or xs i d).live ≡ true
    → (slice_index_or xs i d).pair.page < length places → slice_index places (slice_index_or xs i d).pair.page ≡ i

-- the owners, how many entries are used, and how many there may be
pub record Book : Type 0 where
  pub pairs : List Pair
  pub used : ℕ
  pub room : ℕ

pub record IsLedger (xs : List Entry) (newest places : List ℕ) (count room capacity : ℕ) : Type 0 where
  pub chained : IsChained xs newest
  pub placed : ArePlaced xs places
  pub counted : count ≡ length (pairs_in xs)
  pub used : length xs ≤ room
  pub fits : room ≤ capacity
  pub few : room < 2 ^ 32

-- what is kept of the owners has room for all that there may be
pub record IsOwned (book : Book) (limit capacity : ℕ) : Type 0 where
  pub owners : IsOwnership (record { pairs = book.pairs; limit = limit })
  pub room : limit ≤ book.room
  -- entries fit in until as many pages are owned as may be
  pub roomy : book.used + limit ≤ length book.pairs + book.room
  pub fits : limit ≤ capacity
  pub few : limit < 2 ^ 32
