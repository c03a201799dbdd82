-- The words of the load after a list of transfers.
use Rattle.std.specs.Prelude.{◌≡◌, ℕ, ◌+◌, ◌-◌, ◌*◌, ◌^◌, ◌<◌, ◌≤◌, ◌==◌, List, [], ◌∷◌, length, slice_index, get_or, ℤ, pos, negsuc, ◌+ℤ◌, if◌then◌else◌}
use Rattle.envy_array.specs.Area.{history_at}
use Rattle.envy_array.specs.declared.area.Area.{Area}
use Rattle.envy_tpca.specs.Load.{Draws, first}
use Rattle.envy_tpca.specs.declared.places.Places.{Places}
use Rattle.envy_tpca.specs.declared.transfer.Transfer.{Transfer}
use Rattle.envy_base.specs.declared.page.TheConstants.{PAGE_WORDS}

-- a number as a word, in two's complement
abbrev pub as_word : ℤ → ℕ
as_word (pos n) = n
as_word (negsuc n) = 2 ^ 64 - (n + 1)

-- the sum of the deltas
abbrev pub deltas : List Transfer → ℤ
deltas [] = pos 0
deltas (t ∷ ts) = t.delta +ℤ deltas ts

-- the sum of the deltas of the transfers of record k
abbrev pub deltas_of : (Transfer → ℕ) → ℕ → List Transfer → ℤ
deltas_of at k [] = pos 0
deltas_of at k (t ∷ ts) = (if at t == k then t.delta else pos 0) +ℤ deltas_of at k ts

abbrev pub places_of : Area → Places
places_of area = record { branches = area.branches; accounts = area.branches * area.accounts; history = history_at area.branches area.accounts }

abbrev pub branch_at : Places → ℕ → ℕ
branch_at l k = 1 + k

abbrev pub teller_at : Places → ℕ → ℕ
teller_at l k = 1 + l.branches + k

abbrev pub account_at : Places → ℕ → ℕ
account_at l k = 1 + 11 * l.branches + k

abbrev pub row_at : Places → ℕ → ℕ
row_at l j = l.history + 4 * j

-- the four words of a transfer's history
pub record IsRow (words : List ℕ) (a : ℕ) (t : Transfer) : Type 0 where
  pub account : slice_index words a ≡ t.account
  pub teller : slice_index words (a + 1) ≡ t.teller
  pub branch : slice_index words (a + 2) ≡ t.branch
  pub delta : slice_index words (a + 3) ≡ as_word t.delta

-- the words after these transfers
pub record TpcAt (l : Places) (size : ℕ) (ts : List Transfer) (words : List ℕ) : Type 0 where
  pub long : length words ≡ size
  pub count : slice_index words 0 ≡ length ts
  pub branches : (k : ℕ) → k < l.branches → slice_index words (branch_at l k) ≡ as_word (deltas_of (λ t. t.branch) k ts)
  pub tellers : (k : ℕ) → k < 10 * l.branches → slice_index words (teller_at l k) ≡ as_word (deltas_of (λ t. t.teller) k ts)
  pub accounts : (k : ℕ) → k < l.accounts → slice_index words (account_at l k) ≡ as_word (deltas_of (λ t. t.account) k ts)
  pub history : (j : ℕ) (d : Transfer) → j < length ts → IsRow words (row_at l j) (get_or ts j d)
  pub gap : (a : ℕ) → account_at l l.accounts ≤ a → a < l.history → slice_index words a ≡ 0
  pub rest : (a : ℕ) → row_at l (length ts) ≤ a → slice_index words a ≡ 0

-- the words of the area after the first i transfers that the load gives
abbrev pub Tpc : Area → ℕ → Draws → ℕ → List ℕ → Type 0
Tpc area pages load i words = TpcAt (places_of area) (PAGE_WORDS * pages) (first i load) words
