use Rattle.std.proofs.Common.{◌∙◌, refl, subst}
use Rattle.envy_array.specs.Array.{zeros}
use Rattle.envy_base.specs.declared.shape.Shape.{Shape}
use Rattle.envy_begun.proofs.Again.{unformatted-stopped}
use Rattle.envy_begun.proofs.Fresh.{counts-last, format-leaves, off-refused}
use Rattle.envy_meaning.specs.Stands.{Stands}
use Rattle.envy_memory.specs.Formats.{CountsFormat, IsFresh, Makes}
use Rattle.envy_begun.proofs.new_memory.make_memory.Goals as goal

pub sync_first-requires-clause-stands : goal.sync_first-requires-clause-stands
sync_first-requires-clause-stands g c =
    subst (λ (sh : Shape). Stands c.in-Ok.memory.chart (zeros sh.pages sh.shadows)) (CountsFormat.shape c.in-Ok.ensures.counts ∙ c.requires.shape) (IsFresh.stands (Makes.fresh c.in-Ok.ensures.made))

pub returns-in-Ok-clause-left : goal.returns-in-Ok-clause-left
returns-in-Ok-clause-left g c synced before none = c.sync_first.ensures.left _ synced before (counts-last _ _ c.in-Ok.memory.chart c.in-Ok.ensures.counts (record { shape = refl; sync = refl })) none

pub returns-in-Err-clause-failed : goal.returns-in-Err-clause-failed
returns-in-Err-clause-failed g c =
    unformatted-stopped g.D.Device.seen g.D.Device.has_failed c.closed-device.result.0 c.unformatted.result.1 c.unformatted.result.0 c.in-Err.fault c.closed-device.result.1 c.unformatted.ensures.says
    (λ off. c.closed-device.ensures.stopped (off-refused _ _ c.args.setup c.in-Err.fault c.in-Err.ensures.made off))

pub returns-in-Err-clause-left : goal.returns-in-Err-clause-left
returns-in-Err-clause-left g c synced before none =
    format-leaves g.D.Device.left_since g.D.Device.moment c.args.setup.shape c.closed-device.result.0 _ _ synced none c.requires.shape c.in-Err.ensures.counts
    c.closed-device.ensures.leaves
    before g.D.Device.seen g.D.Device.has_failed c.args.setup c.unformatted.result.1 c.unformatted.result.0 c.in-Err.fault c.closed-device.result.1 c.in-Err.ensures.made c.unformatted.ensures.says c.unformatted.ensures.time c.unformatted.ensures.left
