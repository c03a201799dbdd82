-- What formatting and attaching answer, and what they leave in the place for a memory.
use Rattle.std.specs.Prelude.{◌≡◌, ◌≢◌, ◌⊎◌, ◌-◌, ◌^◌, ◌<◌, false, None, Some, Ok, Err}
use Rattle.envy_base.specs.State.{State}
use Rattle.envy_map.specs.Codes.{the_magic}
use Rattle.envy_base.specs.Shape.{version_of}
use Rattle.envy_map.specs.Fields.{Chart, chart, IsFormatted, shape_of}
use Rattle.envy_soundness.specs.Same.{Kept}
use Rattle.envy_soundness.specs.Sound.{IsSound}
use Rattle.envy_audit.specs.Judging.{BreaksFirst, IsFormattedAs}
use Rattle.envy_policy.specs.Setup.{checked}
use Rattle.envy_policy.specs.declared.setup.Setup.{Setup as OfSetup}
use Rattle.envy_memory.specs.Attaching.{MayAttach}
use Rattle.envy_calls.specs.Setups.{setup_of}
use Rattle.envy_calls.specs.declared.code.Code.{Code}
use Rattle.envy_calls.specs.declared.code.Code.TheVariants.{Off, NoMemory, Policy, Unformatted, Older, OtherShape, Setup, Broken}
use Rattle.envy_calls.specs.declared.setup.EnvySetup.{EnvySetup}

-- Why a setup isn't one: no policy has its number, or it breaks a rule.
abbrev pub IsNoSetup : EnvySetup → Code → Type 0
IsNoSetup given Policy = setup_of given ≡ None
IsNoSetup given (Setup fault) = (setup : OfSetup) × (setup_of given ≡ Some setup) × (checked setup ≡ Err fault)
IsNoSetup given other = ⊥

-- the numbers give a setup that breaks no rule, and this holds of it
abbrev pub ForSetup : EnvySetup → (OfSetup → Type 0) → Type 0
ForSetup given Of = (setup : OfSetup) × (setup_of given ≡ Some setup) × (checked setup ≡ Ok tt) × Of setup

-- a board that may be opened: formatted in the setup's shape and its newest version, and sound
pub record IsWhole (c : Chart) (setup : OfSetup) : Type 0 where
  pub magic : c.fields.magic ≡ the_magic
  pub version : c.fields.version ≡ version_of setup.shape
  pub shape : shape_of c.fields ≡ setup.shape
  pub sound : IsSound c

-- a board in the setup's shape and its newest version
pub record IsAlike (c : Chart) (setup : OfSetup) : Type 0 where
  pub magic : c.fields.magic ≡ the_magic
  pub version : c.fields.version ≡ version_of setup.shape
  pub shape : shape_of c.fields ≡ setup.shape

-- What was found of a board that isn't taken up: the first of these, in this order, that holds. Want of memory comes
-- only where the first three don't.
abbrev pub Forbids : Code → Chart → OfSetup → Type 0
Forbids Unformatted c setup = IsFormatted c.fields × IsFormattedAs c → ⊥
Forbids Older c setup = (c.fields.magic ≡ the_magic) × (c.fields.version ≡ 1)
Forbids OtherShape c setup = IsFormatted c.fields × (c.fields.version ≢ 1) × (shape_of c.fields ≢ setup.shape)
Forbids (Broken rule) c setup = IsAlike c setup × BreaksFirst rule c
Forbids (Setup fault) c setup = IsWhole c setup × (checked setup ≡ Err fault)
Forbids NoMemory c setup = IsAlike c setup
Forbids other c setup = ⊥

-- a board that wasn't taken up: it is as before, or power was off or failed in the call
abbrev pub Declined : Code → State → OfSetup → State → Type 0
Declined Off old setup new = (new.on ≡ false) × (((old.on ≡ false) × (new ≡ old)) ⊎ (MayAttach (chart old) setup × Kept (chart old) (chart new) × (old.cuts < 2 ^ 64 - 1 → old.cuts < new.cuts)))
Declined code old setup new = (new ≡ old) × Forbids code (chart old) setup
