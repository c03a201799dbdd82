-- What attaching a memory to the board of an image, until it is attached, does.
use Rattle.std.specs.Prelude.{◌≡◌, ◌≤◌, false, IsTrue, sum}
use Rattle.envy_soundness.specs.Sound.{IsSound}
use Rattle.envy_meaning.specs.Stands.{Stands}
use Rattle.envy_soundness.specs.Words.{durable}
use Rattle.envy_map.specs.Fields.{Chart, IsFormatted}
use Rattle.envy_memory.specs.Calls.{fresh}
use Rattle.envy_memory.specs.Formats.{IsStarted}
use Rattle.envy_memory.specs.Picture.{Picture}
use Rattle.envy_policy.specs.declared.setup.Setup.{Setup}
use Rattle.envy_run.specs.declared.attachment.Unattached.{Unattached}
use Rattle.envy_run.specs.declared.attachment.Unattached.TheVariants.{Memory, Dead}

-- a restart would find what it would have found on the board of the image
pub record HoldsStill (found now : Chart) : Type 0 where
  pub formatted : IsFormatted now.fields
  pub sound : IsSound now
  pub durable : durable now ≡ durable found

-- no plan, no cut by hand, no program, no erase and no other shape since, and no life was won
pub record IsUntouched (old new : Chart) : Type 0 where
  pub shape : new.shape ≡ old.shape
  pub pulled : new.pulled ≡ old.pulled
  pub plans : new.plans ≡ old.plans
  pub last_plan : new.last_plan ≡ old.last_plan
  pub given : new.given ≡ old.given
  pub cuts : old.cuts ≤ new.cuts
  pub bads : old.bads ≤ new.bads
  pub begun : new.begun ≡ old.begun
  pub erases : sum new.erases ≡ sum old.erases
  pub lives : new.lives ≤ old.lives

-- the image is on the board still, whatever power did, and no flash operation failed where power never did
pub record KeepsImage (old new : Chart) : Type 0 where
  pub still : HoldsStill old new
  pub untouched : IsUntouched old new
  pub bads : new.cuts ≡ 0 → new.bads ≡ old.bads

-- a memory was attached, which stands for the words that power left
pub record IsAttached (old : Chart) (setup : Setup) (p : Picture) : Type 0 where
  pub stands : Stands p.chart (fresh old.shape.shadows (durable old))
  pub begins : IsStarted setup p
  pub untouched : IsUntouched old p.chart

abbrev pub Unattaches : Unattached → Chart → Chart → Type 0
Unattaches Memory old new = KeepsImage old new × IsTrue new.on
Unattaches Dead old new = KeepsImage old new × (new.on ≡ false) × (new.lives ≡ 0)
