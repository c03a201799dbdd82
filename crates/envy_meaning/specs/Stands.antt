-- When a board stands for a plain array: the only sentence that ties the array to flash.
use Rattle.std.specs.Prelude.{◌≡◌, ℕ, ◌<◌, false, IsTrue, Option, None, Some}
use Rattle.envy_base.specs.declared.fields.Slot.{Slot}
use Rattle.envy_base.specs.declared.fields.Slot.TheVariants.{Vacant, Active}
use Rattle.envy_base.specs.Shape.{version_of}
use Rattle.envy_array.specs.Array.{Array, Saved, IsArray, slot_of, owner, undone}
use Rattle.envy_array.specs.Step.{Command, Answer, Step, Accepts, Lost}
use Rattle.envy_map.specs.Codes.{the_magic}
use Rattle.envy_map.specs.Fields.{Chart, slot, undo}
use Rattle.envy_soundness.specs.Sound.{IsSound, slot_named}
use Rattle.envy_soundness.specs.Words.{live, durable}

-- the slot word of a slot of the array
abbrev pub slot_word : Option Saved → Slot
slot_word None = Vacant
slot_word (Some saved) = Active

-- everything but power
pub record Holds (c : Chart) (m : Array) : Type 0 where
  pub magic : c.fields.magic ≡ the_magic
  pub version : c.fields.version ≡ version_of c.shape
  pub sound : IsSound c
  pub array : IsArray m
  pub shadows : m.shadows ≡ c.shape.shadows
  pub live : live c ≡ m.words
  pub durable : durable c ≡ undone m
  pub slots : (t : ℕ) → t < 64 → slot c.fields t ≡ Some (slot_word (slot_of m t))
  pub owners : (p : ℕ) → p < c.shape.pages → slot_named (undo c.fields p) ≡ owner m p

pub record Stands (c : Chart) (m : Array) : Type 0 where
  pub on : IsTrue c.on
  pub holds : Holds c m

-- the command has this answer, and the board stands for what it leaves
abbrev pub Steps : Array → Command → Answer → Chart → Type 0
Steps m command answer c = (n : Array) × Step m command answer n × Stands c n

-- power failed in the command: the board is sound, and a restart finds it done or not done
pub record IsLost (m : Array) (command : Command) (c : Chart) : Type 0 where
  pub off : c.on ≡ false
  pub magic : c.fields.magic ≡ the_magic
  pub version : c.fields.version ≡ version_of c.shape
  pub sound : IsSound c
  pub words : (n : Array) × Lost m command n × (durable c ≡ n.words)

-- the command would be accepted, but a flash operation failed: nothing changed
abbrev pub Fails : Array → Command → Chart → Type 0
Fails m command c = (n : Array) × Accepts m command n × Stands c m
