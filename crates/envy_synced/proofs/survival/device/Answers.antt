use Rattle.std.proofs.Common.{subst}
use Rattle.envy_map.specs.Fields.{Chart}
use Rattle.envy_synced.specs.Disk.{CrashLeaves}
use Rattle.envy_synced.proofs.survival.device.Goals as goal

pub returns : goal.returns
returns g c = subst (λ (p : Chart). CrashLeaves (g.D.Device.left_since c.device.result.now) (g.D.Device.moment c.device.result.now) p) c.board.ensures.same c.device.ensures.leaves
