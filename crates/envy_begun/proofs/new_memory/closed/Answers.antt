use Rattle.std.proofs.Common.{◌+◌, ◌^◌, ◌<◌, ℕ, length, sym, subst}
use Rattle.std.specs.Prelude.{IsTrue}
use Rattle.envy_begun.proofs.new_memory.closed.Goals as goal

pub returns-clause-stopped : goal.returns-clause-stopped
returns-clause-stopped g c off =
    let log = c.into_journal-journal.result.log in
    let ended = λ (few : length (g.D.Device.seen c.close.result) + c.held-held.result < 2 ^ 60).
    let small = subst (λ (d : g.row.D.Denot). length (g.D.Device.seen d) + log.used < 2 ^ 60) c.close.ensures (subst (λ (n : ℕ). length (g.D.Device.seen c.close.result) + n < 2 ^ 60) c.held-held.ensures.used few) in
    subst (λ (d : g.row.D.Denot). IsTrue (g.D.Device.has_failed d)) (sym c.close.ensures) (c.into_journal-journal.ensures.ended off small) in
    (c.held-held.ensures.few, ended)

pub returns-clause-leaves : goal.returns-clause-leaves
returns-clause-leaves g c = rw (c.close.ensures, c.into_journal-journal.ensures.journal, sym c.device-device.ensures.here) c.device-device.ensures.leaves
