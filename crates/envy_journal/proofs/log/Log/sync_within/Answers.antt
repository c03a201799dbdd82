use Rattle.std.proofs.Common.{◌∙◌, ◌∷◌, ◌++◌, [], sym}
use Rattle.envy_journal.specs.Log.{Begins, IsBeforeOrAfter, kept_bytes, held_bytes}
use Rattle.envy_journal.proofs.Gathered.{ok_goes}
use Rattle.envy_journal.proofs.Moments.{joined, widened}
use Rattle.envy_journal.proofs.Synced.{P, as_before, at_first, batch_before}
use Rattle.envy_journal.proofs.log.Log.sync_within.Goals as goal

pub sync_counted-requires-clause-bytewise : goal.sync_counted-requires-clause-bytewise
sync_counted-requires-clause-bytewise g c = c.write_held.ensures.bytewise ∙ sym c.is_bytewise.ensures ∙ c.if-is_bytewise.true

pub returns-in_err-write_held-clause-any_moment : goal.returns-in_err-write_held-clause-any_moment
returns-in_err-write_held-clause-any_moment g c =
    let D = g.D.Device in
    let log = c.args.self.now in
    let s = c.requires.sound in
    widened D.moment D.left_since log.device c.write_held.new.self.device (Begins (kept_bytes D.seen log ++ 0 ∷ [])) (P D.seen D.may_leave D.left_since D.synced log s) c.write_held.ensures.any_moment (at_first D.seen D.may_leave D.left_since D.synced log s)

pub returns-in_ok-write_held-clause-any_moment : goal.returns-in_ok-write_held-clause-any_moment
returns-in_ok-write_held-clause-any_moment g c =
    let D = g.D.Device in
    let log = c.args.self.now in
    let s = c.requires.sound in
    let mid = c.write_held.new.self in
    let new = c.sync_counted.new.self in
    let ok = c.in_ok-write_held.ensures.ok in
    joined D.moment D.left_since log.device mid.device new.device (P D.seen D.may_leave D.left_since D.synced log s)
    (widened D.moment D.left_since log.device mid.device (Begins (kept_bytes D.seen log ++ 0 ∷ [])) (P D.seen D.may_leave D.left_since D.synced log s) c.write_held.ensures.any_moment (at_first D.seen D.may_leave D.left_since D.synced log s))
    (widened D.moment D.left_since mid.device new.device (IsBeforeOrAfter (kept_bytes D.seen mid) (held_bytes D.seen mid)) (P D.seen D.may_leave D.left_since D.synced log s) c.sync_counted.ensures.any_moment
    (as_before D.seen D.may_leave D.left_since D.synced log s mid c.write_held.ensures.kept ok.1))

pub returns-in_ok-write_held-clause-ok : goal.returns-in_ok-write_held-clause-ok
returns-in_ok-write_held-clause-ok g c =
    let D = g.D.Device in
    let ok = c.in_ok-write_held.ensures.ok in
    ok_goes c.sync_counted.result c.sync_counted.ensures.ok
    (λ all. (all.0, batch_before D.seen D.may_leave D.left_since D.synced c.args.self.now c.requires.sound c.write_held.new.self c.write_held.ensures.kept ok.1 (kept_bytes D.seen c.sync_counted.new.self) all.1, all.2))
