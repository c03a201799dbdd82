-- What opening a place answers, and what it leaves of it.
use Rattle.std.specs.Prelude.{◌≡◌, ◌≢◌, ◌⊎◌, Option, None, Some}
use Rattle.envy_memory.specs.Picture.{Picture}
use Rattle.envy_calls.specs.declared.code.Code.{Code}
use Rattle.envy_calls.specs.declared.code.Code.TheVariants.{Done, Open}
use Rattle.envy_places.specs.Places.{held}
use Rattle.envy_places.specs.declared.place.MemoryPlace.{MemoryPlace}

-- The place held no memory, and holds one now over a board of this kind; or it stays as it was, since it held one, or
-- since the call was refused. `answer` is what stands for the codes of a memory.
abbrev pub Opens : {R F S Answer : Type 0} → (Option Picture → MemoryPlace R F S) → (Code → Answer) → (Picture → Type 0) → (Answer → Type 0) → MemoryPlace R F S → MemoryPlace R F S → Answer → Type 0
Opens over answer Made Refused old new code =
    ((code ≡ answer Done) × (held old ≡ None) × (p : Picture) × (new ≡ over (Some p)) × Made p)
    ⊎ (((code ≡ answer Open) × (held old ≢ None) × (new ≡ old))
    ⊎ ((held old ≡ None) × (new ≡ old) × Refused code))
