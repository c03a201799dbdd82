-- What the calls that make power and flash fail answer, and what they leave of a memory over a board that can be made to fail.
use Rattle.std.specs.Prelude.{◌≡◌, ◌⊎◌, ◌↔◌, ℕ, ◌-◌, ◌^◌, ◌<◌, ◌≤◌, false, IsTrue, OnOk, MatchResult, length, Option, None, Some, Result, Ok, Err}
use Rattle.envy_array.specs.Array.{Array, undone}
use Rattle.envy_base.specs.declared.faults.PlannedFault.{PlannedFault}
use Rattle.envy_soundness.specs.Same.{Kept}
use Rattle.envy_soundness.specs.Sound.{IsSound}
use Rattle.envy_meaning.specs.Stands.{Stands}
use Rattle.envy_soundness.specs.Words.{durable}
use Rattle.envy_memory.specs.Calls.{fresh, lit, planned, pulled}
use Rattle.envy_memory.specs.Picture.{Picture, counts_of}
use Rattle.envy_memory.specs.Restarts.{Restarts}
use Rattle.envy_memory.specs.declared.faults.ReviveFault.{ReviveFault}
use Rattle.envy_memory.specs.declared.faults.ReviveFault.TheVariants.{Dead as ReviveDead, Off as ReviveOff}
use Rattle.envy_calls.specs.Codes.{number_of}
use Rattle.envy_places.specs.Codes.{unable}
use Rattle.envy_places.specs.Places.{held}
use Rattle.envy_places.specs.declared.place.MemoryPlace.{MemoryPlace}
use Rattle.envy_places.specs.declared.place.MemoryPlace.TheVariants.{Simulated}
use Rattle.envy_calls.specs.declared.code.Code.{Code}
use Rattle.envy_calls.specs.declared.code.Code.TheVariants.{Done, Empty, Off, Zero, Dead, Powered}

-- a plan for the k-th operation from now, of which there is no 0th
abbrev pub DoesPlan : Option Picture → Option Picture → ℕ → PlannedFault → ℕ → Type 0
DoesPlan None new k fault code = (new ≡ None) × (code ≡ number_of Empty)
DoesPlan (Some p) new k fault code =
    ((k ≡ 0) × (code ≡ number_of Zero) × (new ≡ Some p))
    ⊎ ((1 ≤ k) × (code ≡ number_of Done) × (new ≡ Some (record p { chart = planned fault p.chart })))

-- a cut by hand, where power is on: a restart finds all slots undone
pub record CutsTo (p q : Picture) : Type 0 where
  pub on : IsTrue p.chart.on
  pub state : q ≡ record p { chart = pulled p.chart }
  pub step : (m : Array) → Stands p.chart m → IsSound q.chart × (durable q.chart ≡ undone m)

abbrev pub DoesCut : Option Picture → Option Picture → ℕ → Type 0
DoesCut None new code = (new ≡ None) × (code ≡ number_of Empty)
DoesCut (Some p) new code =
    ((p.chart.on ≡ false) × (code ≡ number_of Off) × (new ≡ Some p))
    ⊎ ((code ≡ number_of Done) × (q : Picture) × (new ≡ Some q) × CutsTo p q)

abbrev pub revive_code : Result Unit ReviveFault → Code
revive_code (Ok done) = Done
revive_code (Err ReviveDead) = Dead
revive_code (Err ReviveOff) = Off

-- power was off, and was asked for
pub record RevivesTo (p q : Picture) (code : ℕ) : Type 0 where
  pub off_before : p.chart.on ≡ false
  pub answer : Result Unit ReviveFault
  pub coded : code ≡ number_of (revive_code answer)
  pub ok : OnOk answer (Stands q.chart (fresh p.chart.shape.shadows (durable p.chart)))
  pub restarts : OnOk answer (Restarts p q)
  pub counts : counts_of q.parts ≡ counts_of p.parts
  pub dead : (answer ≡ Err ReviveDead) ↔ (p.chart.lives ≡ 0)
  pub refused : (answer ≡ Err ReviveDead) → q ≡ p
  pub off : (answer ≡ Err ReviveOff) ↔ ((0 < p.chart.lives) × (q.chart.on ≡ false))
  pub cut : (answer ≡ Err ReviveOff) → p.chart.cuts < 2 ^ 64 - 1 → p.chart.cuts < q.chart.cuts
  pub kept : MatchResult answer (λ _. Kept (lit p.chart) q.chart) (λ e. ((e ≡ ReviveDead) × (q ≡ p)) ⊎ (Kept (lit p.chart) q.chart × (q.chart.on ≡ false)))
  pub setup : (q.limit ≡ p.limit) × (q.mark ≡ p.mark)
  pub version : q.chart.fields.version ≡ p.chart.fields.version
  pub size : length q.parts.cache.entries ≡ length p.parts.cache.entries

abbrev pub DoesRevive : Option Picture → Option Picture → ℕ → Type 0
DoesRevive None new code = (new ≡ None) × (code ≡ number_of Empty)
DoesRevive (Some p) new code =
    (IsTrue p.chart.on × (code ≡ number_of Powered) × (new ≡ Some p))
    ⊎ ((q : Picture) × (new ≡ Some q) × RevivesTo p q code)

-- how often power can still return
abbrev pub DoesCountLives : Option Picture → ℕ → ℕ → ℕ → Type 0
DoesCountLives None code before after = (code ≡ number_of Empty) × (after ≡ before)
DoesCountLives (Some p) code before after = (code ≡ number_of Done) × (after ≡ p.chart.lives)

-- In a place over such a board it is this. Another place stays as it is.
abbrev pub OnSim : {R F S : Type 0} → (Option Picture → Option Picture → ℕ → Type 0) → MemoryPlace R F S → MemoryPlace R F S → ℕ → Type 0
OnSim Does (Simulated slot) new code = (after : Option Picture) × (new ≡ Simulated after) × Does slot after code
OnSim Does old new code = (new ≡ old) × (code ≡ unable (held old))
