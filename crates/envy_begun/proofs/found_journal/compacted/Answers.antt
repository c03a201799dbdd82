use Rattle.std.proofs.Common.{refl}
use Rattle.envy_disk.specs.declared.durable_board.Compaction.{Compaction}
use Rattle.envy_begun.proofs.Alike.{fails-last, fails-opened, leaves-alike, leaves-on, synced-opened}
use Rattle.envy_begun.specs.Left.{OpensAlike}
use Rattle.envy_begun.proofs.found_journal.compacted.Goals as goal

pub returns-in-Err-clause-left : goal.returns-in-Err-clause-left
returns-in-Err-clause-left g c sh file o =
    leaves-alike g.D.Device.left_since g.D.Device.moment sh file c.closed-device-in-Err.result.0 _ _ o c.requires.synced c.closed-device-in-Err.ensures.leaves
    (fails-opened Compaction _ _ _ sh file c.in-Err.ensures.answer o) (fails-last Compaction _ _ _ c.in-Err.ensures.answer)

pub returns-in-Ok-Appended-clause-left : goal.returns-in-Ok-Appended-clause-left
returns-in-Ok-Appended-clause-left g c sh file o =
    let opened = synced-opened {T = Compaction} _ _ c.in-Ok-Appended.field-0 sh file c.in-Ok-Appended.ensures.answer o in
    leaves-on g.D.Device.left_since g.D.Device.moment c.closed-device.result.0 c.no_second.result.1 (OpensAlike sh file) c.no_second.ensures.time c.no_second.ensures.left
    (leaves-alike g.D.Device.left_since g.D.Device.moment sh file c.closed-device.result.0 _ _ opened c.in-Ok-Appended.ensures.synced c.closed-device.ensures.leaves opened (record { shape = refl; sync = refl }))
