-- Runs of words that a transaction puts: so many at an address and behind it.
use Rattle.std.specs.Prelude.{◌≡◌, ◌≢◌, ◌↔◌, ◌⊎◌, ℕ, zero, suc, ◌+◌, ◌<◌, Bool, true, false, IsErrOf, List, length, slice_index, Result, Ok, Err}
use Rattle.envy_array.specs.Array.{Array}
use Rattle.envy_meaning.specs.Stands.{Stands}
use Rattle.envy_memory.specs.Below.{IsPast, IsShutTo, IsKeptFrom, IsFull, PutsBelow}
use Rattle.envy_memory.specs.Calls.{Puts, Works, IsCut, HasFailed, Undisturbed}
use Rattle.envy_memory.specs.Picture.{Picture}
use Rattle.envy_memory.specs.Runs.{is_more}
use Rattle.envy_memory.specs.declared.faults.PutFault.{PutFault}
use Rattle.envy_memory.specs.declared.faults.PutFault.TheVariants.{Off as PutOff, Range as PutRange, Closed as PutClosed, Held as PutHeld, Full as PutFull, Bad as PutBad}

-- A word that slot t puts, with all that the call says of its answer.
pub record PutsWord (t a w : ℕ) (answer : Result Unit PutFault) (p q : Picture) : Type 0 where
  pub step : (m : Array) → Stands p.chart m → Puts m t a w answer q.chart
  pub off : (answer ≡ Err PutOff) ↔ (q.chart.on ≡ false)
  pub cut : IsCut p.chart q.chart
  pub range : (answer ≡ Err PutRange) ↔ IsPast a p
  pub closed : (answer ≡ Err PutClosed) ↔ IsShutTo t a p
  pub held : (u : ℕ) → (answer ≡ Err (PutHeld u)) ↔ IsKeptFrom u t a p
  pub full : (answer ≡ Err PutFull) ↔ IsFull t a p
  pub bad : IsErrOf answer PutBad → HasFailed p.chart q.chart
  pub complete : Undisturbed p.chart q.chart → (answer ≢ Err PutOff) × (answer ≢ Err PutBad)
  pub below : PutsBelow t a answer p q

-- One more word of a page that slot t owns and that stands in a frame: no access, no flash work, and nothing but the
-- word changes. It ends with `Off` alone, if power fails in it.
pub record PutsMore (t a w : ℕ) (answer : Result Unit PutFault) (p q : Picture) : Type 0 where
  pub step : (m : Array) → Stands p.chart m → Puts m t a w answer q.chart
  pub ends : (answer ≡ Ok tt) ⊎ (answer ≡ Err PutOff)
  pub off : (answer ≡ Err PutOff) ↔ (q.chart.on ≡ false)
  pub cut : IsCut p.chart q.chart
  pub complete : Undisturbed p.chart q.chart → answer ≢ Err PutOff
  pub works : Works 0 0 p.chart q.chart
  pub kept : q ≡ record p { chart = q.chart; sram = q.sram }

abbrev pub PutsBy : Bool → ℕ → ℕ → ℕ → Result Unit PutFault → Picture → Picture → Type 0
PutsBy false t a w answer p q = PutsWord t a w answer p q
PutsBy true t a w answer p q = PutsMore t a w answer p q

-- slot t put the first k of these words, one after another
abbrev pub PutsRun : ℕ → List ℕ → ℕ → ℕ → Picture → Picture → Type 0
PutsRun zero words t a p q = q ≡ p
PutsRun (suc k) words t a p q = (r : Picture) × PutsRun k words t a p r × PutsBy (is_more a k) t (a + k) (slice_index words k) (Ok tt) r q

-- all words were put, or the next one was refused, which ended it
abbrev pub EndsRun : Picture → Picture → ℕ → ℕ → List ℕ → ℕ → Result Unit PutFault → Type 0
EndsRun r q t a words done answer =
    ((done ≡ length words) × (q ≡ r) × (answer ≡ Ok tt))
    ⊎ ((done < length words) × (answer ≢ Ok tt) × PutsBy (is_more a done) t (a + done) (slice_index words done) answer r q)
