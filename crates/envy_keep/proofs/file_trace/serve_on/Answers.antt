use Rattle.std.proofs.Common.{inl, inr}
use Rattle.envy_begun.proofs.Caused.{later}
use Rattle.envy_keep.proofs.Begins.{kept-first}
use Rattle.envy_keep.proofs.Serves.{served-as, unserved-as, unserved-stopped}
use Rattle.envy_keep.proofs.file_trace.serve_on.Goals as goal

pub returns-in-Err-clause-keeps : goal.returns-in-Err-clause-keeps
returns-in-Err-clause-keeps g c =
    inr (unserved-as g.D.Device.seen g.D.Device.has_failed g.D.Device.left_since g.D.Device.moment c.args.options.now c.args.bytes.now c.args.device c.in-Err.device c.unserved.result.device c.in-Err.fault
    _ (g.S.Source.feed c.args.source.now) (g.K.Sink.drain c.args.sink.now) c.unserved.ensures.says c.unserved.ensures.device c.in-Err.ensures.failed
    (later c.args.options.now c.args.bytes.now c.in-Err.fault (c.args.setup, c.args.holding, c.requires.plans, c.requires.checks))
    (inr (c.args.setup, c.args.holding, c.requires.plans, c.in-Err.ensures.left)))

pub returns-in-Err-clause-stopped : goal.returns-in-Err-clause-stopped
returns-in-Err-clause-stopped g c =
    unserved-stopped g.D.Device.seen g.D.Device.has_failed c.args.options.now c.args.bytes.now c.args.device c.in-Err.device c.unserved.result.device c.in-Err.fault _ _ _ _ _ c.unserved.result.held c.unserved.ensures.says c.unserved.ensures.device c.unserved.ensures.held c.in-Err.ensures.failed

pub serve_kept-requires : goal.serve_kept-requires
serve_kept-requires g c =
    let (array, begins, begun) = c.in-Ok.ensures.begun in
    record { begun = (record { array = array; memory = c.in-Ok.memory }, kept-first c.args.setup array c.in-Ok.memory c.requires.entries begun) }

pub returns-in-Ok-clause-keeps : goal.returns-in-Ok-clause-keeps
returns-in-Ok-clause-keeps g c =
    let (array, begins, begun) = c.in-Ok.ensures.begun in
    inl (served-as c.args.options.now c.args.bytes.now c.args.setup c.args.holding array c.in-Ok.memory _ _ _ _ _ _ _ _ c.requires.plans c.requires.checks begins begun c.in-Ok.ensures.board c.invariant_holds.ensures.memory
    (λ written asked. c.in-Ok.ensures.compacted written asked) (λ written not. c.in-Ok.ensures.same written not)
    (c.serve_kept.ensures.served (record { array = array; memory = c.in-Ok.memory }) (kept-first c.args.setup array c.in-Ok.memory c.requires.entries begun)))
