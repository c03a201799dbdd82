use Rattle.std.proofs.Common.{arith}
use Rattle.envy_journal.proofs.Forgotten.{counted_synced, none_synced, sound_synced, stays_cut, stays_synced, stays_unsynced}
use Rattle.envy_journal.proofs.log.Log.forget.Goals as goal

pub returns-in_err-cut-clause-stays : goal.returns-in_err-cut-clause-stays
returns-in_err-cut-clause-stays g c =
    let D = g.D.Device in
    let log = c.args.self.now in
    let cut = c.cut in
    stays_cut D.seen D.may_leave D.moment D.left_since D.synced log c.requires.sound (g.met.D.Device.only_now log.device) (g.met.D.Device.synced_before log.device) cut.new.self cut.ensures.crash cut.ensures.time cut.ensures.synced c.in_err-cut.ensures.torn _ _

pub returns-in_err-sync-clause-stays : goal.returns-in_err-sync-clause-stays
returns-in_err-sync-clause-stays g c =
    let D = g.D.Device in
    let log = c.args.self.now in
    let cut = c.cut in
    let sync = c.sync in
    stays_unsynced D.seen D.may_leave D.moment D.left_since D.synced log c.requires.sound (g.met.D.Device.only_now log.device) (g.met.D.Device.synced_before log.device) cut.new.self cut.ensures.crash cut.ensures.time cut.ensures.synced
    sync.new.self c.in_ok-cut.ensures.cut sync.ensures.seen sync.ensures.crash sync.ensures.time c.in_err-sync.ensures.not_synced (g.met.D.Device.synced_before cut.new.self) _ _

pub returns-clause-stays : goal.returns-clause-stays
returns-clause-stays g c =
    let D = g.D.Device in
    let log = c.args.self.now in
    let cut = c.cut in
    let sync = c.sync in
    stays_synced D.seen D.may_leave D.moment D.left_since D.synced log c.requires.sound (g.met.D.Device.only_now log.device) (g.met.D.Device.synced_before log.device) cut.new.self cut.ensures.crash cut.ensures.time cut.ensures.synced
    sync.new.self c.in_ok-cut.ensures.cut sync.ensures.seen sync.ensures.crash sync.ensures.time c.in_ok-sync.ensures.durable c.in_ok-sync.ensures.synced (g.met.D.Device.only_now sync.new.self) _ _

pub returns-clause-sound : goal.returns-clause-sound
returns-clause-sound g c =
    let D = g.D.Device in
    let log = c.args.self.now in
    let cut = c.cut in
    let sync = c.sync in
    sound_synced D.seen D.may_leave D.moment D.left_since D.synced log c.requires.sound (g.met.D.Device.only_now log.device) (g.met.D.Device.synced_before log.device) cut.new.self cut.ensures.crash cut.ensures.time cut.ensures.synced
    sync.new.self c.in_ok-cut.ensures.cut sync.ensures.seen sync.ensures.crash sync.ensures.time c.in_ok-sync.ensures.durable c.in_ok-sync.ensures.synced (g.met.D.Device.only_now sync.new.self) _ _

pub returns-clause-none : goal.returns-clause-none
returns-clause-none g c =
    let D = g.D.Device in
    let log = c.args.self.now in
    let cut = c.cut in
    let sync = c.sync in
    none_synced D.seen D.may_leave D.moment D.left_since D.synced log c.requires.sound (g.met.D.Device.only_now log.device) (g.met.D.Device.synced_before log.device) cut.new.self cut.ensures.crash cut.ensures.time cut.ensures.synced
    sync.new.self c.in_ok-cut.ensures.cut sync.ensures.seen sync.ensures.crash sync.ensures.time c.in_ok-sync.ensures.durable c.in_ok-sync.ensures.synced (g.met.D.Device.only_now sync.new.self) (omega arith) log.few

pub returns-clause-counted : goal.returns-clause-counted
returns-clause-counted g c =
    let D = g.D.Device in
    let log = c.args.self.now in
    let cut = c.cut in
    let sync = c.sync in
    counted_synced D.seen D.may_leave D.moment D.left_since D.synced log c.requires.sound (g.met.D.Device.only_now log.device) (g.met.D.Device.synced_before log.device) cut.new.self cut.ensures.crash cut.ensures.time cut.ensures.synced
    sync.new.self c.in_ok-cut.ensures.cut sync.ensures.seen sync.ensures.crash sync.ensures.time c.in_ok-sync.ensures.durable c.in_ok-sync.ensures.synced (g.met.D.Device.only_now sync.new.self) _ _ D.bytewise c.requires.counted
