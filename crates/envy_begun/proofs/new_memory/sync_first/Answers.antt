use Rattle.envy_array.specs.Array.{zeros}
use Rattle.envy_begun.proofs.Begins.{err-off, new-begun, still-fresh}
use Rattle.envy_begun.proofs.Fresh.{sync-off}
use Rattle.envy_begun.proofs.new_memory.sync_first.Goals as goal

pub returns-in-Ok-clause-begun : goal.returns-in-Ok-clause-begun
returns-in-Ok-clause-begun g c =
    new-begun c.args._setup (zeros c.args._setup.shape.pages c.args._setup.shape.shadows) c.args.memory c.sync.new.self c.in-Ok.ensures.synced c.in-Ok.ensures.answer c.sync.ensures.kept c.requires.stands c.requires.begins c.requires.shape

pub returns-in-Ok-clause-fresh : goal.returns-in-Ok-clause-fresh
returns-in-Ok-clause-fresh g c = (c.in-Ok.ensures.synced, still-fresh c.args.memory.chart c.sync.new.self.chart c.in-Ok.ensures.answer c.requires.fresh)

pub returns-in-Err-clause-failed : goal.returns-in-Err-clause-failed
returns-in-Err-clause-failed g c = (c.close-device.ensures.few, c.close-device.ensures.ended (err-off c.args.memory.chart c.sync.new.self.chart _ c.in-Err.ensures.answer))

pub returns-in-Err-clause-left : goal.returns-in-Err-clause-left
returns-in-Err-clause-left g c was synced before last none =
    sync-off before g.D.Device.left_since g.D.Device.moment c.args._setup.shape c.close-device.result.0 was c.args.memory.chart c.sync.new.self.chart _ c.close-device.result.1 synced none last c.requires.shape
    c.in-Err.ensures.answer c.requires.stands c.close-device.ensures.leaves
