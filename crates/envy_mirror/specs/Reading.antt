-- A call that asks the lowest Good side.
use Rattle.std.specs.Prelude.{◌≡◌, ◌↔◌, ℕ, Bool, true, false, slice_index, Result, Ok, Err, OnOk}
use Rattle.envy_array.specs.Array.{Array}
use Rattle.envy_array.specs.Step.{Command}
use Rattle.envy_soundness.specs.Words.{durable}
use Rattle.envy_memory.specs.Effects.{LoadVisits}
use Rattle.envy_memory.specs.Picture.{Picture}
use Rattle.envy_memory.specs.declared.faults.LoadFault.{LoadFault}
use Rattle.envy_memory.specs.declared.faults.LoadFault.TheVariants.{Off as LoadOff}
use Rattle.envy_mirror.specs.Mirroring.{Mirrors, Gives}
use Rattle.envy_mirror.specs.Pair.{Side, Pair, IsDark}
use Rattle.envy_mirror.specs.Replies.{Off, load_reply}

abbrev pub with_memory : Side → Picture → Side
with_memory side p = record side { memory = p }

-- the picture of before, but for the cache
abbrev pub IsLooked : Picture → Picture → Type 0
IsLooked old new = new ≡ record old { parts = record old.parts { cache = new.parts.cache } }

-- one memory was asked for a word, and counted the access
pub record Reads (p : ℕ) (result : Result ℕ LoadFault) (old new : Side) : Type 0 where
  pub visits : LoadVisits p result old.memory new.memory
  pub looked : IsLooked old.memory new.memory
  pub stays : new.standing ≡ old.standing

abbrev pub AsksLowest : Bool → Bool → ℕ → Result ℕ LoadFault → Pair → Pair → Type 0
AsksLowest true second p result old new = Reads p result old.first new.first × (new ≡ record old { first = new.first })
AsksLowest false true p result old new = Reads p result old.second new.second × (new ≡ record old { second = new.second })
AsksLowest false false p result old new = new ≡ old

-- a look sees what a restart of the lowest Good side would find
abbrev pub SeesLowest : Bool → Bool → ℕ → Result ℕ LoadFault → Pair → Type 0
SeesLowest true second a result p = OnOk result (result ≡ Ok (slice_index (durable p.first.memory.chart) a))
SeesLowest false true a result p = OnOk result (result ≡ Ok (slice_index (durable p.second.memory.chart) a))
SeesLowest false false a result p = result ≡ Err LoadOff

-- what a load or look answers, and leaves
pub record Finds (command : Command) (result : Result ℕ LoadFault) (old new : Pair) : Type 0 where
  pub step : (m : Array) → Mirrors old m → Gives m command (load_reply result) new
  pub off : (load_reply result ≡ Off) ↔ IsDark new
