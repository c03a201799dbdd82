-- What never happens over regions, and in a file.
use Rattle.std.specs.Prelude.{◌≡◌, ⊤, IsTrue}
use Rattle.std.specs.Option.{ForSome}
use Rattle.envy_memory.specs.Picture.{Picture}
use Rattle.envy_places.specs.declared.place.MemoryPlace.{MemoryPlace}
use Rattle.envy_places.specs.declared.place.MemoryPlace.TheVariants.{Regions, File, Simulated}

-- Power is on and never failed, and no flash operation went wrong: so a call answers neither `Off` nor `Bad`.
pub record IsSteady (p : Picture) : Type 0 where
  pub on : IsTrue p.chart.on
  pub cuts : p.chart.cuts ≡ 0
  pub bads : p.chart.bads ≡ 0

-- No flash operation went wrong: so no call answers `Bad`.
abbrev pub IsFlawless : Picture → Type 0
IsFlawless p = p.chart.bads ≡ 0

-- Regions are steady, and files flawless. A board that can be made to fail promises neither.
abbrev pub IsFaultless : {R F S : Type 0} → MemoryPlace R F S → Type 0
IsFaultless (Regions slot) = ForSome slot IsSteady
IsFaultless (File slot) = ForSome slot IsFlawless
IsFaultless (Simulated slot) = ⊤

-- before a call and after it
abbrev pub AreFaultless : {R F S : Type 0} → MemoryPlace R F S → MemoryPlace R F S → Type 0
AreFaultless old new = IsFaultless old × IsFaultless new
