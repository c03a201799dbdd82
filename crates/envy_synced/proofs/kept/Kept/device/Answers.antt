use Rattle.std.proofs.Common.{subst, sym, ℕ}
use Rattle.envy_journal.specs.Journal.{journal_state}
use Rattle.envy_map.specs.Fields.{chart}
use Rattle.envy_synced.specs.Disk.{CrashLeaves, disk_state}
use Rattle.envy_synced.proofs.Telling.{crash_leaves}
use Rattle.envy_synced.proofs.kept.Kept.device.Goals as goal

pub returns-clause-leaves : goal.returns-clause-leaves
returns-clause-leaves g c =
    let k = c.args.self.now in
    let j = k.journal in
    let D = g.D.Device in
    let s = journal_state j.dead (g.B.Board.state j.board) in
    subst (λ (d : g.row.D.Denot). CrashLeaves (D.left_since d) (D.moment d) (chart (disk_state D.seen D.moment D.hindered k.synced.value.log k.before.value.log s))) (sym c.device.ensures)
    (crash_leaves D.seen D.moment D.hindered D.left_since j.log k.synced.value.log k.before.value.log s k.kept)
