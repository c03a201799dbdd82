-- What attaching to a board may answer, and what it leaves.
use Rattle.std.specs.Prelude.{◌≡◌, ◌≢◌, ◌⊎◌, ◌-◌, ◌^◌, ◌<◌, false, IsTrue, Ok, Err}
use Rattle.envy_base.specs.Shape.{version_of}
use Rattle.envy_base.specs.State.{State}
use Rattle.envy_map.specs.Fields.{Chart, chart, with_fields, IsFormatted, shape_of}
use Rattle.envy_soundness.specs.Same.{Kept}
use Rattle.envy_soundness.specs.Sound.{IsSound}
use Rattle.envy_meaning.specs.Stands.{Stands}
use Rattle.envy_soundness.specs.Upgrading.{upgraded}
use Rattle.envy_soundness.specs.Words.{durable}
use Rattle.envy_engine.specs.Restarts.{IsRestarted}
use Rattle.envy_policy.specs.Setup.{checked}
use Rattle.envy_policy.specs.declared.setup.Setup.{Setup}
use Rattle.envy_memory.specs.Calls.{fresh}
use Rattle.envy_memory.specs.Formats.{IsStarted}
use Rattle.envy_memory.specs.Picture.{Picture}
use Rattle.envy_memory.specs.declared.faults.AttachFault.{AttachFault}
use Rattle.envy_memory.specs.declared.faults.AttachFault.TheVariants.{Off, Setup as OfSetup, NotFormatted, OtherShape, Memory}

-- a board to which a memory may be attached: where it is formatted it is sound
abbrev pub IsAttachable : Chart → Type 0
IsAttachable c = IsTrue c.on → IsFormatted c.fields → IsSound c

-- power is on, the setup checks, and the board is formatted in its shape
pub record MayAttach (old : Chart) (setup : Setup) : Type 0 where
  pub on : IsTrue old.on
  pub checks : checked setup ≡ Ok tt
  pub formatted : IsFormatted old.fields
  pub shape : shape_of old.fields ≡ setup.shape

-- the board is of its shape's version, or was upgraded from version 1 to 2, and nothing else of it changed
abbrev pub Raises : Chart → Chart → Type 0
Raises old new = ((old.fields.version ≡ version_of old.shape) × (new ≡ old)) ⊎ ((old.fields.version ≡ 1) × (new ≡ with_fields old (upgraded old.fields)))

-- the board was raised to its version, and then it was restarted
pub record IsTakenUp (old new : Chart) : Type 0 where
  pub raised : Chart
  pub raises : Raises old raised
  pub restarted : IsRestarted raised new

-- A memory was made: the board stands for the words that power left, with no slot open. No program or erase began.
pub record Attaches (old : Chart) (setup : Setup) (p : Picture) : Type 0 where
  pub may : MayAttach old setup
  pub stands : Stands p.chart (fresh old.shape.shadows (durable old))
  pub kept : Kept old p.chart
  pub taken : IsTakenUp old p.chart
  pub begins : IsStarted setup p

abbrev pub Declines : State → Setup → AttachFault → State → Type 0
Declines old setup Off new = (new.on ≡ false) × (((old.on ≡ false) × (new ≡ old)) ⊎ (MayAttach (chart old) setup × Kept (chart old) (chart new) × (old.cuts < 2 ^ 64 - 1 → old.cuts < new.cuts)))
Declines old setup (OfSetup fault) new = IsTrue old.on × (checked setup ≡ Err fault) × (new ≡ old)
Declines old setup NotFormatted new = IsTrue old.on × (checked setup ≡ Ok tt) × (IsFormatted (chart old).fields → ⊥) × (new ≡ old)
Declines old setup (OtherShape kept) new = IsTrue old.on × (checked setup ≡ Ok tt) × IsFormatted (chart old).fields × (kept ≡ shape_of (chart old).fields) × (kept ≢ setup.shape) × (new ≡ old)
Declines old setup Memory new = MayAttach (chart old) setup × (new ≡ old)
