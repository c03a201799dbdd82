use Rattle.std.proofs.Common.{inl, inr, refl}
use Rattle.envy_begun.specs.declared.open_fault.OpenFault.TheVariants.{Memory}
use Rattle.envy_begun.proofs.Caused.{refused-causes, sooner}
use Rattle.envy_keep.proofs.Serves.{as-it-was, unserved-as, unserved-stopped}
use Rattle.envy_keep.proofs.file_trace.keep.Goals as goal

pub returns-in-Err-clause-keeps : goal.returns-in-Err-clause-keeps
returns-in-Err-clause-keeps g c =
    inr (unserved-as g.D.Device.seen g.D.Device.has_failed g.D.Device.left_since g.D.Device.moment c.args.options.now c.args.bytes.now c.args.device c.args.device c.unserved.result.device c.in-Err.fault
    _ (g.S.Source.feed c.args.source.now) (g.K.Sink.drain c.args.sink.now) c.unserved.ensures.says c.unserved.ensures.device
    (refused-causes g.D.Device.seen g.D.Device.has_failed c.args.options.now c.args.bytes.now c.args.device c.args.device c.in-Err.fault c.in-Err.ensures.refused refl)
    (sooner c.args.options.now c.args.bytes.now c.in-Err.fault c.in-Err.ensures.refused)
    (inl (as-it-was g.D.Device.seen g.D.Device.may_leave g.D.Device.left_since g.D.Device.moment c.args.device c.args.bytes.now c.requires.bytes c.requires.durable (g.met.D.Device.only_now c.args.device))))

pub returns-in-Err-clause-stopped : goal.returns-in-Err-clause-stopped
returns-in-Err-clause-stopped g c =
    unserved-stopped g.D.Device.seen g.D.Device.has_failed c.args.options.now c.args.bytes.now c.args.device c.args.device c.unserved.result.device c.in-Err.fault _ _ _ _ _ c.unserved.result.held c.unserved.ensures.says c.unserved.ensures.device c.unserved.ensures.held
    (refused-causes g.D.Device.seen g.D.Device.has_failed c.args.options.now c.args.bytes.now c.args.device c.args.device c.in-Err.fault c.in-Err.ensures.refused refl)

pub returns-in_default-clause-keeps : goal.returns-in_default-clause-keeps
returns-in_default-clause-keeps g c =
    inr (unserved-as g.D.Device.seen g.D.Device.has_failed g.D.Device.left_since g.D.Device.moment c.args.options.now c.args.bytes.now c.args.device c.args.device c.unserved-in_default.result.device Memory
    _ (g.S.Source.feed c.args.source.now) (g.K.Sink.drain c.args.sink.now) c.unserved-in_default.ensures.says c.unserved-in_default.ensures.device (inl refl)
    (c.in-Ok.plan.0, c.in-Ok.plan.1, c.in-Ok.ensures.plans, c.in-Ok.ensures.checks)
    (inl (as-it-was g.D.Device.seen g.D.Device.may_leave g.D.Device.left_since g.D.Device.moment c.args.device c.args.bytes.now c.requires.bytes c.requires.durable (g.met.D.Device.only_now c.args.device))))

pub returns-in_default-clause-stopped : goal.returns-in_default-clause-stopped
returns-in_default-clause-stopped g c =
    unserved-stopped g.D.Device.seen g.D.Device.has_failed c.args.options.now c.args.bytes.now c.args.device c.args.device c.unserved-in_default.result.device Memory _ _ _ _ _ c.unserved-in_default.result.held c.unserved-in_default.ensures.says c.unserved-in_default.ensures.device c.unserved-in_default.ensures.held (inl refl)
