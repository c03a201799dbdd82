-- A command for which all goes well is done to its end, or memory runs out.
use Rattle.std.specs.Prelude.{◌≡◌, ◌⊎◌, ℕ, ◌*◌, ◌<◌, ◌≤◌, IsTrue, ⊤, List, ◌++◌, length, Some, Result, Ok}
use Rattle.envy_args.specs.declared.command.Command.{Command}
use Rattle.envy_args.specs.declared.command.Command.TheVariants.{Run, Plain, Tpca, Gen, Save, Resume, Audit, Map, Index, Mirror}
use Rattle.envy_args.specs.declared.command.WordsFault.{WordsFault}
use Rattle.envy_audit.specs.Judging.{Judges}
use Rattle.envy_audit.specs.declared.verdict.Verdict.TheVariants.{Sound}
use Rattle.envy_base.specs.State.{State, IsBoard}
use Rattle.envy_base.specs.declared.shape.Shape.{Shape}
use Rattle.envy_image.specs.Image.{image_of}
use Rattle.envy_map.specs.Fields.{Chart, chart}
use Rattle.envy_pair.specs.MirrorRun.{mirror_grammar}
use Rattle.envy_policy.specs.Setup.{checked}
use Rattle.envy_policy.specs.declared.setup.Setup.{Setup}
use Rattle.envy_serve.specs.GoodTrace.{StaysLow, IsGoodTrace}
use Rattle.envy_serve.specs.Streams.{Streams}
use Rattle.envy_run.specs.IndexTurns.{index_grammar}
use Rattle.envy_run.specs.MirrorTask.{AreWell, HasDiedOut}
use Rattle.envy_run.specs.Outcome.{Outcome, EndsBy}
use Rattle.envy_run.specs.declared.endings.Ending.TheVariants.{Done, NotInstalled, OutOfMemory}
use Rattle.envy_run.specs.Resumes.{setup_found}
use Rattle.envy_run.specs.Turns.{trace_grammar}

-- no flash operation failed before a byte was taken, and power isn't off for good
pub record IsWell (o : Outcome) : Type 0 where
  pub bads : (c : Chart) → o.board ≡ Some c → o.taken ≡ 0 → c.bads ≡ 0
  pub returns : (c : Chart) → o.board ≡ Some c → IsTrue c.on ⊎ (0 < c.lives)

-- done to its end, or memory ran out
abbrev pub IsComplete : Outcome → Type 0
IsComplete o = EndsBy Done o ⊎ EndsBy OutOfMemory o

-- The source tells its bytes, which begin with the image of a board whose shape checks. Neither stream fails.
pub record HoldsImage (io : Streams) : Type 0 where
  pub image : State
  pub rest : List ℕ
  pub whole : IsBoard image
  pub told : io.from.left ≡ Some (image_of image ++ rest)
  pub reads : StaysLow io.from.faults io.feed.faults
  pub writes : StaysLow io.to.faults io.sink.faults

-- neither power nor a flash operation failed
abbrev pub NeverFailed : Outcome → Type 0
NeverFailed o = (c : Chart) → o.board ≡ Some c → (c.cuts ≡ 0) × (c.bads ≡ 0)

-- its board has no more rows than this
abbrev pub IsSmall : ℕ → {io : Streams} → HoldsImage io → Type 0
IsSmall most holds = (HoldsImage.image holds).shape.segments * (HoldsImage.image holds).shape.rows ≤ most

-- the rules hold of the image's shape, its board is sound, and what is behind it can be served to its end
pub record HoldsTrace (most : ℕ) (setup : Shape → Setup) (io : Streams) (holds : HoldsImage io) : Type 0 where
  pub few : IsSmall most holds
  pub rules : checked (setup (HoldsImage.image holds).shape) ≡ Ok tt
  pub sound : Judges Sound (chart (HoldsImage.image holds))
  pub trace : IsGoodTrace trace_grammar (length (image_of (HoldsImage.image holds))) (record io { from = record { left = Some (HoldsImage.rest holds); faults = io.from.faults } })

-- where an image couldn't be installed nothing failed in it, and power isn't off for good
pub record IsWellInstalled (o : Outcome) : Type 0 where
  pub installed : EndsBy NotInstalled o → NeverFailed o
  pub returns : (c : Chart) → o.board ≡ Some c → IsTrue c.on ⊎ (0 < c.lives)

abbrev pub Completes : Result Command WordsFault → Outcome → Streams → Type 0
Completes (Ok (Run setup returns)) o io = IsGoodTrace trace_grammar 0 io → IsWell o → IsComplete o
Completes (Ok (Plain setup)) o io = IsGoodTrace trace_grammar 0 io → IsComplete o
Completes (Ok (Index setup returns)) o io = IsGoodTrace index_grammar 0 io → IsWell o → IsComplete o
Completes (Ok (Gen start count mix)) o io = StaysLow io.to.faults io.sink.faults → IsComplete o
Completes (Ok (Tpca setup returns start area every)) o io = StaysLow io.to.faults io.sink.faults → IsWell o → IsComplete o
Completes (Ok (Save setup returns)) o io = IsGoodTrace trace_grammar 0 io → IsWell o → IsComplete o
Completes (Ok (Resume policy limit mark returns most)) o io = (holds : HoldsImage io) → HoldsTrace most (setup_found policy limit mark) io holds → IsWellInstalled o → IsComplete o
Completes (Ok (Audit most)) o io = (holds : HoldsImage io) → IsSmall most holds → NeverFailed o → IsComplete o
Completes (Ok (Map most)) o io = (holds : HoldsImage io) → IsSmall most holds → NeverFailed o → IsComplete o
Completes (Ok (Mirror setup returns)) o io = IsGoodTrace mirror_grammar 0 io → AreWell o → IsComplete o ⊎ HasDiedOut o
Completes command o io = ⊤
