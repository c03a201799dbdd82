-- What the lines of a trace of an index lead to, and when a board is left so.
use Rattle.std.specs.Prelude.{◌≡◌, ℕ, ◌+◌, ◌≤◌, false, List, [], ◌∷◌, None}
use Rattle.envy_base.specs.Shape.{version_of}
use Rattle.envy_btree.specs.Index.{IsIndex}
use Rattle.envy_soundness.specs.Sound.{IsSound}
use Rattle.envy_meaning.specs.Stands.{Stands}
use Rattle.envy_soundness.specs.Words.{durable}
use Rattle.envy_map.specs.Codes.{the_magic}
use Rattle.envy_map.specs.Fields.{Chart}
use Rattle.envy_memory.specs.Calls.{fresh}
use Rattle.envy_policy.specs.declared.setup.Setup.{Setup}
use Rattle.envy_serve.specs.Turns.{count_lines, count_replies}
use Rattle.envy_run.specs.IndexSpending.{IsThriftyIndex, tries_before}
use Rattle.envy_run.specs.IndexTurns.{Pairs, IndexTurn, IndexRun, before_restart, FailsIn, is_power, is_plan, plan_of, is_lost, is_fault}
use Rattle.envy_run.specs.Licence.{plans_in, newest}

-- The committed words of the board stand for this map. Power is on, and no transaction is open.
pub record HoldsIndex (pairs : Pairs) (now : Chart) : Type 0 where
  pub stands : Stands now (fresh now.shape.shadows (durable now))
  pub map : IsIndex (durable now) pairs

-- power failed in the last line and didn't return, and that line was done or not done
pub record IndexDiesIn (most : ℕ) (turn : IndexTurn) (earlier : List IndexTurn) (left : Pairs) : Type 0 where
  pub pairs : Pairs
  pub run : IndexRun most earlier pairs
  pub replies : turn.replies ≡ before_restart turn.line
  pub fails : FailsIn most pairs turn.line left

abbrev pub IndexDies : ℕ → List IndexTurn → Pairs → Type 0
IndexDies most [] left = ⊥
IndexDies most (turn ∷ earlier) left = IndexDiesIn most turn earlier left

-- The board is off for good. It is formatted and sound, and its committed words stand for this map.
pub record HoldsIndexOff (pairs : Pairs) (now : Chart) : Type 0 where
  pub map : IsIndex (durable now) pairs
  pub magic : now.fields.magic ≡ the_magic
  pub version : now.fields.version ≡ version_of now.shape
  pub sound : IsSound now
  pub off : now.on ≡ false
  pub dead : now.lives ≡ 0

-- What a board that began with no counts says of the turns: power was cut by hand once for each line `power`, a failure
-- was planned by each line `cut` and `bad`, the last by the last of them, each `lost` has a failure of power of its own
-- besides, and each `fault` a flash operation that failed. The lines began no more flash work than their calls may.
pub record IndexLicences (setup : Setup) (returns : ℕ) (turns : List IndexTurn) (now : Chart) : Type 0 where
  pub shape : now.shape ≡ setup.shape
  pub given : now.given ≡ returns
  pub pulled : now.pulled ≡ count_lines is_power turns
  pub plans : now.plans ≡ count_lines is_plan turns
  pub last_plan : now.last_plan ≡ newest (plans_in plan_of turns) None
  pub losts : count_lines is_power turns + count_replies is_lost turns ≤ now.cuts
  pub faults : count_replies is_fault turns ≤ now.bads
  pub thrifty : IsThriftyIndex (tries_before turns now) turns now
