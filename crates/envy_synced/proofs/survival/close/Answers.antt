use Rattle.std.proofs.Common.{◌∙◌, ◌+◌, ◌^◌, ◌<◌, ℕ, length, sym, ap, subst}
use Rattle.std.specs.Prelude.{IsTrue}
use Rattle.envy_map.specs.Fields.{Chart}
use Rattle.envy_synced.specs.Disk.{CrashLeaves}
use Rattle.envy_synced.proofs.survival.close.Goals as goal

pub returns-clause-leaves : goal.returns-clause-leaves
returns-clause-leaves g c =
    subst (λ (p : Chart). CrashLeaves (g.D.Device.left_since c.close.result) (g.D.Device.moment c.close.result) p) c.into_board-kept.ensures.same
    (rw (c.close.ensures, c.into_journal-journal.ensures.journal, sym c.device-device.ensures.here) c.device-device.ensures.leaves)

pub returns-clause-ended : goal.returns-clause-ended
returns-clause-ended g c off few =
    let log = c.into_journal-journal.result.log in
    let small = subst (λ (d : g.row.D.Denot). length (g.D.Device.seen d) + log.used < 2 ^ 60) c.close.ensures (subst (λ (n : ℕ). length (g.D.Device.seen c.close.result) + n < 2 ^ 60) c.held-held.ensures.used few) in
    subst (λ (d : g.row.D.Denot). IsTrue (g.D.Device.has_failed d)) (sym c.close.ensures) (c.into_journal-journal.ensures.ended (ap (λ (p : Chart). p.on) c.into_board-kept.ensures.same ∙ off) small)
