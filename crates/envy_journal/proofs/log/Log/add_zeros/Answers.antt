use Rattle.std.proofs.Common.{refl, rules}
use Rattle.envy_journal.proofs.Bytes.{torn_done}
use Rattle.envy_journal.proofs.Longer.{counted_longer, longer_call, sound_longer}
use Rattle.envy_journal.proofs.log.Log.add_zeros.Goals as goal

pub returns-in_err-write_at-clause-longer : goal.returns-in_err-write_at-clause-longer
returns-in_err-write_at-clause-longer g c =
    let D = g.D.Device in
    let log = c.args.self.now in
    let w = c.write_at.ensures in
    longer_call D.seen D.may_leave D.moment D.left_since D.synced D.bytewise D.syncs log c.requires.sound _ 16384 refl refl refl refl refl refl refl c.in_err-write_at.ensures.torn w.crash w.time w.synced (g.met.D.Device.synced_before log.device) (g.met.D.Device.only_now log.device) w.bytewise w.syncs

pub returns-clause-longer : goal.returns-clause-longer
returns-clause-longer g c =
    let D = g.D.Device in
    let log = c.args.self.now in
    let w = c.write_at.ensures in
    let torn = torn_done (D.seen log.device) _ (D.seen c.write_at.new.self) log.size (search rules) c.in_ok-write_at.ensures.written in
    longer_call D.seen D.may_leave D.moment D.left_since D.synced D.bytewise D.syncs log c.requires.sound _ 16384 refl refl refl refl refl refl refl torn w.crash w.time w.synced (g.met.D.Device.synced_before log.device) (g.met.D.Device.only_now log.device) w.bytewise w.syncs

pub returns-clause-sound : goal.returns-clause-sound
returns-clause-sound g c =
    let D = g.D.Device in
    let log = c.args.self.now in
    let w = c.write_at.ensures in
    let torn = torn_done (D.seen log.device) _ (D.seen c.write_at.new.self) log.size (search rules) c.in_ok-write_at.ensures.written in
    sound_longer D.seen D.may_leave D.moment D.left_since D.synced D.bytewise D.syncs log c.requires.sound _ 16384 refl refl refl refl refl refl refl torn w.crash w.time w.synced (g.met.D.Device.synced_before log.device) (g.met.D.Device.only_now log.device) w.bytewise w.syncs _ refl refl refl c.in_ok-write_at.ensures.written

pub returns-clause-counted : goal.returns-clause-counted
returns-clause-counted g c =
    let D = g.D.Device in
    let log = c.args.self.now in
    let w = c.write_at.ensures in
    let torn = torn_done (D.seen log.device) _ (D.seen c.write_at.new.self) log.size (search rules) c.in_ok-write_at.ensures.written in
    counted_longer D.seen D.may_leave D.moment D.left_since D.synced D.bytewise D.syncs log c.requires.sound _ 16384 refl refl refl refl refl refl refl torn w.crash w.time w.synced (g.met.D.Device.synced_before log.device) (g.met.D.Device.only_now log.device) w.bytewise w.syncs _ refl refl refl c.in_ok-write_at.ensures.written c.requires.counted w.mixed
