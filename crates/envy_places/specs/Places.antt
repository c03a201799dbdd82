-- What a place for a memory holds.
use Rattle.std.specs.Prelude.{⊤, Option}
use Rattle.envy_memory.specs.Picture.{Picture}
use Rattle.envy_places.specs.declared.place.MemoryPlace.{MemoryPlace}
use Rattle.envy_places.specs.declared.place.MemoryPlace.TheVariants.{Regions, File, Simulated}

-- the memory, whatever it stands over
abbrev pub held : {R F S : Type 0} → MemoryPlace R F S → Option Picture
held (Regions slot) = slot
held (File slot) = slot
held (Simulated slot) = slot

-- both are for boards of one kind
abbrev pub AreAlike : {R F S : Type 0} → MemoryPlace R F S → MemoryPlace R F S → Type 0
AreAlike (Regions a) (Regions b) = ⊤
AreAlike (File a) (File b) = ⊤
AreAlike (Simulated a) (Simulated b) = ⊤
AreAlike a b = ⊥
