-- What a bulk load of a map in a range answers by a code, and what it leaves.
use Rattle.std.specs.Prelude.{◌≡◌, ◌⊎◌, ℕ, ◌-◌, ◌*◌, ◌/◌, ◌^◌, ◌<◌, ◌≤◌, false, List, length, Some, Result, Ok, Err}
use Rattle.envy_base.specs.Counting.{Rose}
use Rattle.envy_soundness.specs.Words.{durable}
use Rattle.envy_memory.specs.Picture.{Picture}
use Rattle.envy_range.specs.Ranges.{inside, outside}
use Rattle.envy_btree.specs.Index.{IsIndex}
use Rattle.envy_btree.specs.Tree.{Rising}
use Rattle.envy_btree.specs.declared.fault.TreeFault.{TreeFault}
use Rattle.envy_calls.specs.declared.code.Code.{Code}
use Rattle.envy_calls.specs.declared.code.Code.TheVariants.{Done, Off, Bad, Range, MapFull, MapSetup}
use Rattle.envy_index_calls.specs.Indexed.{IsShut, Pairs, fault_code}
use Rattle.envy_index_calls.specs.Loading.{IsFirst}
use Rattle.envy_index_calls.specs.Ranges.{Denies}
use Rattle.envy_index_calls.specs.declared.ranges.EnvyMap.{EnvyMap}
use Rattle.envy_index_calls.specs.declared.ranges.Whose.TheVariants.{New}

-- the most pairs of a map in so many words
abbrev pub most_in : ℕ → ℕ
most_in words = 14 * ((words - 64) / 64 - 8)

-- The pairs rise, and are no more than a map in the range may have; its changes find shadows enough.
pub record MayLoad (room : ℕ) (range : EnvyMap) (ps : Pairs) : Type 0 where
  pub shadows : 32 ≤ room
  pub few : length ps ≤ most_in range.words
  pub rising : Rising 0 (2 ^ 64) ps

-- why they aren't loaded
abbrev pub Unfit : ℕ → EnvyMap → Pairs → Code → Type 0
Unfit room range ps MapSetup = room < 32
Unfit room range ps MapFull = most_in range.words < length ps
Unfit room range ps Range = Rising 0 (2 ^ 64) ps → ⊥
Unfit room range ps code = ⊥

-- the kept words of the range, and those outside it
abbrev pub kept_in : EnvyMap → Picture → List ℕ
kept_in range p = inside range.first range.words (durable p.chart)

abbrev pub kept_beside : EnvyMap → Picture → List ℕ
kept_beside range p = outside range.first range.words (durable p.chart)

-- no slot is open, and the words outside the range stay
pub record Rests (range : EnvyMap) (p q : Picture) : Type 0 where
  pub shut : IsShut q
  pub beside : kept_beside range q ≡ kept_beside range p

-- The range has a map of the pairs, or, if power or a flash operation fails, one of the first of them, if not the words of before.
abbrev pub LoadsIn : EnvyMap → Pairs → Picture → Picture → Code → Type 0
LoadsIn range ps p q Done = Rests range p q × IsIndex (kept_in range q) ps
LoadsIn range ps p q Bad = Rests range p q × Rose p.chart.bads q.chart.bads × ((kept_in range q ≡ kept_in range p) ⊎ IsFirst (kept_in range q) ps)
LoadsIn range ps p q Off = (q.chart.on ≡ false) × (kept_beside range q ≡ kept_beside range p) × ((kept_in range q ≡ kept_in range p) ⊎ IsFirst (kept_in range q) ps)
LoadsIn range ps p q code = (q ≡ p) × (Denies New (Some range) p code ⊎ Unfit p.chart.shape.shadows range ps code)

abbrev pub TellsLoaded : Result Unit TreeFault → Code → Type 0
TellsLoaded (Ok done) code = code ≡ Done
TellsLoaded (Err fault) code = code ≡ fault_code fault
