-- What one try of a transfer asks.
use Rattle.std.specs.Prelude.{◌≡◌, ℕ, ◌+◌, ◌*◌, ◌%◌, ◌^◌, ◌<◌, ◌≤◌, List, [], ◌∷◌, length, unsigned_abs, ◌+ℤ◌}
use Rattle.std.specs.List.{All}
use Rattle.envy_tpca.specs.declared.places.Places.{Places}
use Rattle.envy_tpca.specs.declared.places.Spots.{Spots}
use Rattle.envy_tpca.specs.declared.transfer.Transfer.{Transfer}
use Rattle.envy_array.specs.Array.{Saved}
use Rattle.envy_tpca.specs.Tpc.{TpcAt, as_word, deltas_of, account_at, teller_at, branch_at, row_at}

-- each delta lies within a million
abbrev pub AreSmall : List Transfer → Type 0
AreSmall ts = All (λ t. unsigned_abs t.delta < 10 ^ 6) ts

-- a transfer names records, and its history has room
pub record InRange (l : Places) (size : ℕ) (i : ℕ) (t : Transfer) : Type 0 where
  pub branch : t.branch < l.branches
  pub teller : t.teller < 10 * l.branches
  pub account : t.account < l.accounts
  pub delta : unsigned_abs t.delta < 10 ^ 6
  pub history : account_at l l.accounts ≤ l.history
  pub whole : l.history % 4 ≡ 0
  pub room : row_at l (i + 1) ≤ size
  pub few : i < 2 ^ 32

-- what a transfer puts, in order
abbrev pub writes : Places → List Transfer → Transfer → Saved
writes l ts t =
    (account_at l t.account, as_word (deltas_of (λ s. s.account) t.account ts +ℤ t.delta))
    ∷ (teller_at l t.teller, as_word (deltas_of (λ s. s.teller) t.teller ts +ℤ t.delta))
    ∷ (branch_at l t.branch, as_word (deltas_of (λ s. s.branch) t.branch ts +ℤ t.delta))
    ∷ (row_at l (length ts), t.account)
    ∷ (row_at l (length ts) + 1, t.teller)
    ∷ (row_at l (length ts) + 2, t.branch)
    ∷ (row_at l (length ts) + 3, as_word t.delta)
    ∷ (0, length ts + 1)
    ∷ []

-- where the records of transfer i stand
pub record AreSpots (l : Places) (i : ℕ) (t : Transfer) (spots : Spots) : Type 0 where
  pub account : spots.account ≡ account_at l t.account
  pub teller : spots.teller ≡ teller_at l t.teller
  pub branch : spots.branch ≡ branch_at l t.branch
  pub row : spots.row ≡ row_at l i

-- transfer i may be tried on these words: they are those after the transfers before it, and five pages may be owned
pub record IsTried (shadows : ℕ) (l : Places) (size : ℕ) (ts : List Transfer) (before : List ℕ) (i : ℕ) (t : Transfer) (at : Spots) : Type 0 where
  pub tpc : TpcAt l size ts before
  pub small : AreSmall ts
  pub count : length ts ≡ i
  pub range : InRange l size i t
  pub spots : AreSpots l i t at
  pub room : 5 ≤ shadows

-- a row of history fits at an address, and five pages may be owned
pub record IsRoomy (shadows : ℕ) (words : List ℕ) (row : ℕ) (t : Transfer) : Type 0 where
  pub delta : unsigned_abs t.delta < 10 ^ 6
  pub room : 5 ≤ shadows
  pub whole : row % 4 ≡ 0
  pub within : row + 4 ≤ length words

-- the three balances that a transfer puts
abbrev pub balances_of : Spots → List Transfer → Transfer → Saved
balances_of spots ts t =
    (spots.account, as_word (deltas_of (λ s. s.account) t.account ts +ℤ t.delta))
    ∷ (spots.teller, as_word (deltas_of (λ s. s.teller) t.teller ts +ℤ t.delta))
    ∷ (spots.branch, as_word (deltas_of (λ s. s.branch) t.branch ts +ℤ t.delta))
    ∷ []

-- the row of history that it puts
abbrev pub row_of : ℕ → Transfer → Saved
row_of a t = (a, t.account) ∷ (a + 1, t.teller) ∷ (a + 2, t.branch) ∷ (a + 3, as_word t.delta) ∷ []
