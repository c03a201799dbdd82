-- What an upgrade of a board of version 1 does.
use Rattle.std.specs.Prelude.{ℕ, ◌-◌, ◌++◌, length, take, drop, replicate, Some}
use Rattle.envy_base.specs.declared.fields.Slot.TheVariants.{Vacant}
use Rattle.envy_map.specs.Fields.{Fields}
use Rattle.envy_soundness.specs.Formatting.{filled}

-- the map in version 2: the slots from 16 on, which version 1 hasn't, are vacant
abbrev pub upgraded : Fields → Fields
upgraded f = record f { version = 2; slots = take 16 f.slots ++ replicate (length f.slots - 16) (Some Vacant) }

-- slots 16 to n - 1 are vacant
abbrev pub with_slots_vacated : ℕ → Fields → Fields
with_slots_vacated n f = record f { slots = take 16 f.slots ++ filled (drop 16 f.slots) (Some Vacant) (n - 16) }
