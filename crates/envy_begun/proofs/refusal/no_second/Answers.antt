use Rattle.std.proofs.Common.{arith}
use Rattle.envy_begun.proofs.Alike.{no-more}
use Rattle.envy_device.specs.Device.{Serves}
use Rattle.envy_begun.proofs.refusal.no_second.Goals as goal

pub returns-in-Ok-clause-stopped : goal.returns-in-Ok-clause-stopped
returns-in-Ok-clause-stopped g c = Serves.ok c.in-Ok.ensures.cause

pub returns-in-Err-clause-stopped : goal.returns-in-Err-clause-stopped
returns-in-Err-clause-stopped g c = (omega arith, λ few. Serves.err c.in-Err.ensures.cause)

pub returns-in-Ok-clause-left : goal.returns-in-Ok-clause-left
returns-in-Ok-clause-left g c = no-more g.D.Device.may_leave g.D.Device.moment g.D.Device.left_since c.args.device c.sync.new.self c.sync.ensures.time c.sync.ensures.crash (g.met.D.Device.counts_now c.args.device)

pub returns-in-Err-clause-left : goal.returns-in-Err-clause-left
returns-in-Err-clause-left g c = no-more g.D.Device.may_leave g.D.Device.moment g.D.Device.left_since c.args.device c.sync.new.self c.sync.ensures.time c.sync.ensures.crash (g.met.D.Device.counts_now c.args.device)
