-- What is ordered of a port.
use Rattle.std.specs.Prelude.{◌≡◌, ⊤, ℕ, List, [], ◌∷◌, ◌++◌, Option, None, Some}

pub data Order : Type 0 where
  -- that a row become these words
  Programs : (words : List ℕ) → Order
  -- that so many rows become all ones
  Erases : (rows : ℕ) → Order
  -- that what was stored in SRAM so far, this word last, is there before what is stored later
  Barrier : (word : ℕ) → Order

-- One more order was given, and no other. Of a port that keeps no list of its orders nothing is said.
abbrev pub Adds : Order → Option (List Order) → Option (List Order) → Type 0
Adds order None new = ⊤
Adds order (Some orders) new = new ≡ Some (orders ++ order ∷ [])
