-- Runs of words that are stored outside transactions: so many at an address and behind it.
use Rattle.std.specs.Prelude.{◌≡◌, ◌≢◌, ◌↔◌, ◌⊎◌, ℕ, zero, suc, ◌+◌, ◌<◌, Bool, true, false, IsErrOf, List, length, slice_index, Result, Ok, Err}
use Rattle.envy_array.specs.Array.{Array}
use Rattle.envy_meaning.specs.Stands.{Stands}
use Rattle.envy_memory.specs.Below.{IsPast, IsOwned, StoresBelow}
use Rattle.envy_memory.specs.Calls.{Stores, Works, IsCut, HasFailed, Undisturbed}
use Rattle.envy_memory.specs.Picture.{Picture}
use Rattle.envy_memory.specs.Runs.{is_more}
use Rattle.envy_memory.specs.declared.faults.StoreFault.{StoreFault}
use Rattle.envy_memory.specs.declared.faults.StoreFault.TheVariants.{Off as StoreOff, Range as StoreRange, Held as StoreHeld, Bad as StoreBad}

-- A word that is stored, with all that the call says of its answer.
pub record StoresWord (a w : ℕ) (answer : Result Unit StoreFault) (p q : Picture) : Type 0 where
  pub step : (m : Array) → Stands p.chart m → Stores m a w answer q.chart
  pub off : (answer ≡ Err StoreOff) ↔ (q.chart.on ≡ false)
  pub cut : IsCut p.chart q.chart
  pub range : (answer ≡ Err StoreRange) ↔ IsPast a p
  pub held : (u : ℕ) → (answer ≡ Err (StoreHeld u)) ↔ IsOwned u a p
  pub bad : IsErrOf answer StoreBad → HasFailed p.chart q.chart
  pub complete : Undisturbed p.chart q.chart → (answer ≢ Err StoreOff) × (answer ≢ Err StoreBad)
  pub below : StoresBelow a answer p q

-- One more word of a page that no slot owns and that stands in a frame: no access, no flash work, and nothing but the
-- word changes. It ends with `Off` alone, if power fails in it: a restart finds the word stored or not.
pub record StoresMore (a w : ℕ) (answer : Result Unit StoreFault) (p q : Picture) : Type 0 where
  pub step : (m : Array) → Stands p.chart m → Stores m a w answer q.chart
  pub ends : (answer ≡ Ok tt) ⊎ (answer ≡ Err StoreOff)
  pub off : (answer ≡ Err StoreOff) ↔ (q.chart.on ≡ false)
  pub cut : IsCut p.chart q.chart
  pub complete : Undisturbed p.chart q.chart → answer ≢ Err StoreOff
  pub works : Works 0 0 p.chart q.chart
  pub kept : q ≡ record p { chart = q.chart; sram = q.sram }

abbrev pub StoresOne : Bool → ℕ → ℕ → Result Unit StoreFault → Picture → Picture → Type 0
StoresOne false a w answer p q = StoresWord a w answer p q
StoresOne true a w answer p q = StoresMore a w answer p q

-- the first k of these words were stored, one after another
abbrev pub StoresRun : ℕ → List ℕ → ℕ → Picture → Picture → Type 0
StoresRun zero words a p q = q ≡ p
StoresRun (suc k) words a p q = (r : Picture) × StoresRun k words a p r × StoresOne (is_more a k) (a + k) (slice_index words k) (Ok tt) r q

-- all words were stored, or the next one wasn't, which ended it: if power failed in it, a restart finds that one stored
-- or not, and those behind it not
abbrev pub EndsStores : Picture → Picture → ℕ → List ℕ → ℕ → Result Unit StoreFault → Type 0
EndsStores r q a words done answer =
    ((done ≡ length words) × (q ≡ r) × (answer ≡ Ok tt))
    ⊎ ((done < length words) × (answer ≢ Ok tt) × StoresOne (is_more a done) (a + done) (slice_index words done) answer r q)
