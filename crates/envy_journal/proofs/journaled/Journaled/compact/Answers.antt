use Rattle.std.proofs.Common.{◌⊎◌, ◌∙◌, inl, Err, ap, arith, refl, sym, subst, length, ◌≤◌, Bool}
use Rattle.std.proofs.lemmas.Bool.{false≢true}
use Rattle.envy_base.specs.declared.shape.Shape.{Shape}
use Rattle.envy_base.specs.State.{State}
use Rattle.envy_journal.specs.Head.{StandsFor}
use Rattle.envy_journal.specs.Journal.{IsFileOf, kept}
use Rattle.envy_journal.specs.Log.{HasCause}
use Rattle.envy_journal.specs.Snapshot.{most_of}
use Rattle.envy_journal.specs.declared.fault.SyncError.TheVariants.{Failed}
use Rattle.envy_journal.proofs.Caused.{by_device, cause_on, no_fault}
use Rattle.envy_journal.proofs.Gathered.{ok_goes}
use Rattle.envy_journal.proofs.Moments.{widened}
use Rattle.envy_journal.proofs.Ran.{run_sync}
use Rattle.envy_journal.proofs.Resumed.{all_kept_from, done_same, kept_same, ok_two, two_file, two_ok, two_same}
use Rattle.envy_journal.proofs.journaled.Journaled.compact.Goals as goal

pub returns-in_err-spill-clause-any_moment : goal.returns-in_err-spill-clause-any_moment
returns-in_err-spill-clause-any_moment g c = λ alive.
    let D = g.D.Device in
    let log = c.args.self.now.log in
    let a = g.B.Board.state c.args.self.now.board in
    widened D.moment D.left_since log.device c.spill.new.self.log.device (StandsFor a.shape (kept D.seen log)) (λ x. StandsFor a.shape (kept D.seen log) x ⊎ IsFileOf a x) (c.spill.ensures.any_moment alive) (λ x is. inl is)

pub returns-in-Ok-clause-ok : goal.returns-in-Ok-clause-ok
returns-in-Ok-clause-ok g c =
    let D = g.D.Device in
    let j = c.args.self.now in
    let a = g.B.Board.state j.board in
    let mid = c.spill.new.self in
    let e = ap (λ (x : g.row.B.Denot). g.B.Board.state x) c.spill.ensures.board in
    let did = c.in_ok-spill.ensures in
    let same = kept_same D.seen D.may_leave D.left_since D.synced j.log mid.log did.same.0 did.same.1 in
    let first = c.spill.ensures.any_moment did.alive.0 in
    all_kept_from D.seen a.shape (g.B.Board.state mid.board).shape (ap (λ (x : State). x.shape) e) j.log mid.log c.replace.new.self.log (done_same D.seen D.may_leave D.left_since D.synced j.log mid.log did.same.0 did.same.1) j.dead mid.dead c.replace.new.self.dead did.alive.0 c.in-Ok.ensures.ok

pub returns-in-Ok-clause-any_moment_ok : goal.returns-in-Ok-clause-any_moment_ok
returns-in-Ok-clause-any_moment_ok g c =
    let D = g.D.Device in
    let j = c.args.self.now in
    let a = g.B.Board.state j.board in
    let mid = c.spill.new.self in
    let e = ap (λ (x : g.row.B.Denot). g.B.Board.state x) c.spill.ensures.board in
    let did = c.in_ok-spill.ensures in
    let same = kept_same D.seen D.may_leave D.left_since D.synced j.log mid.log did.same.0 did.same.1 in
    let first = c.spill.ensures.any_moment did.alive.0 in
    two_ok D.seen D.moment D.left_since a (g.B.Board.state mid.board) e j.log mid.log c.replace.new.self.log same first c.in-Ok.ensures.any_moment_ok

pub returns-in-Ok-clause-any_moment : goal.returns-in-Ok-clause-any_moment
returns-in-Ok-clause-any_moment g c = λ alive.
    let D = g.D.Device in
    let j = c.args.self.now in
    let a = g.B.Board.state j.board in
    let mid = c.spill.new.self in
    let e = ap (λ (x : g.row.B.Denot). g.B.Board.state x) c.spill.ensures.board in
    let did = c.in_ok-spill.ensures in
    let same = kept_same D.seen D.may_leave D.left_since D.synced j.log mid.log did.same.0 did.same.1 in
    let first = c.spill.ensures.any_moment did.alive.0 in
    two_file D.seen D.moment D.left_since a (g.B.Board.state mid.board) e j.log mid.log c.replace.new.self.log same first c.replace.ensures.any_moment

pub returns-in-Err-Failed-clause-any_moment : goal.returns-in-Err-Failed-clause-any_moment
returns-in-Err-Failed-clause-any_moment g c = λ alive.
    let D = g.D.Device in
    let j = c.args.self.now in
    let a = g.B.Board.state j.board in
    let mid = c.spill.new.self in
    let e = ap (λ (x : g.row.B.Denot). g.B.Board.state x) c.spill.ensures.board in
    let did = c.in_ok-spill.ensures in
    let same = kept_same D.seen D.may_leave D.left_since D.synced j.log mid.log did.same.0 did.same.1 in
    let first = c.spill.ensures.any_moment did.alive.0 in
    two_file D.seen D.moment D.left_since a (g.B.Board.state mid.board) e j.log mid.log c.replace.new.self.log same first c.replace.ensures.any_moment

pub returns-in-Ok-clause-runs : goal.returns-in-Ok-clause-runs
returns-in-Ok-clause-runs g c =
    let ok = returns-in-Ok-clause-ok g c in
    run_sync g.D.Device.seen g.D.Device.moment g.D.Device.left_since (g.B.Board.state c.args.self.now.board).shape c.args.self.now.log c.replace.new.self.log ok.same ok.none_held (returns-in-Ok-clause-any_moment_ok g c)

pub returns-in-Ok-clause-short : goal.returns-in-Ok-clause-short
returns-in-Ok-clause-short g c = λ none.
    let e = ap (λ (x : g.row.B.Denot). (g.B.Board.state x).shape) c.spill.ensures.board in
    subst (λ (x : Shape). length (g.D.Device.seen c.replace.new.self.log.device) ≤ most_of x) e c.in-Ok.ensures.short

pub returns-in-Ok-clause-next : goal.returns-in-Ok-clause-next
returns-in-Ok-clause-next g c =
    let few = returns-in-Ok-clause-short g c refl in
    omega (arith, few)

pub returns-in-Ok-clause-size : goal.returns-in-Ok-clause-size
returns-in-Ok-clause-size g c =
    let few = returns-in-Ok-clause-short g c refl in
    omega (arith, few, c.in-Ok.ensures.size)

pub returns-in-Ok-clause-cause : goal.returns-in-Ok-clause-cause
returns-in-Ok-clause-cause g c = no_fault g.D.Device.seen g.D.Device.has_failed c.args.self.now.dead c.replace.new.self.log

pub returns-in-Ok-clause-still : goal.returns-in-Ok-clause-still
returns-in-Ok-clause-still g c = λ dead. absurd (false≢true (sym c.in_ok-spill.ensures.alive.0 ∙ dead))

pub returns-in-Err-Failed-clause-still : goal.returns-in-Err-Failed-clause-still
returns-in-Err-Failed-clause-still g c = λ dead. absurd (false≢true (sym c.in_ok-spill.ensures.alive.0 ∙ dead))

pub returns-in-Err-Second-clause-still : goal.returns-in-Err-Second-clause-still
returns-in-Err-Second-clause-still g c = λ dead. absurd (false≢true (sym c.in_ok-spill.ensures.alive.0 ∙ dead))

pub returns-in-Err-Failed-clause-cause : goal.returns-in-Err-Failed-clause-cause
returns-in-Err-Failed-clause-cause g c = by_device g.D.Device.seen g.D.Device.has_failed c.args.self.now.dead c.replace.new.self.log Failed refl (c.in-Err-Failed.ensures.failed (ap Err c.in-Err-Failed.field-0-is))

pub returns-in-Err-Second-clause-cause : goal.returns-in-Err-Second-clause-cause
returns-in-Err-Second-clause-cause g c =
    let D = g.D.Device in
    let new = c.append_instead.new.self.log in
    let alive = c.in-Err-Second.ensures.same (ap Err c.in-Err-Second.field-0-is) in
    cause_on D.seen D.has_failed new c.args.self.now.dead c.append_instead.result (subst (λ (d : Bool). HasCause D.seen D.has_failed d new c.append_instead.result) alive.0 c.append_instead.ensures.cause)

pub returns-in-Err-Second-clause-ok : goal.returns-in-Err-Second-clause-ok
returns-in-Err-Second-clause-ok g c =
    let D = g.D.Device in
    let j = c.args.self.now in
    let a = g.B.Board.state j.board in
    let mid = c.spill.new.self in
    let e = ap (λ (x : g.row.B.Denot). g.B.Board.state x) c.spill.ensures.board in
    let did = c.in_ok-spill.ensures in
    let same = kept_same D.seen D.may_leave D.left_since D.synced j.log mid.log did.same.0 did.same.1 in
    let first = c.spill.ensures.any_moment did.alive.0 in
    let aside = c.replace.new.self in
    let is = c.in-Err-Second.ensures in
    let kept_mid = is.same (ap Err c.in-Err-Second.field-0-is) in
    let e2 = ap (λ (x : g.row.B.Denot). g.B.Board.state x) c.replace.ensures.board in
    let same2 = kept_same D.seen D.may_leave D.left_since D.synced mid.log aside.log kept_mid.1 kept_mid.2 in
    let second = two_same D.seen D.moment D.left_since a (g.B.Board.state mid.board) e j.log mid.log aside.log same first (is.any_moment_same (ap Err c.in-Err-Second.field-0-is)) in
    let new = c.append_instead.new.self in
    let done2 = done_same D.seen D.may_leave D.left_since D.synced mid.log aside.log kept_mid.1 kept_mid.2 ∙ done_same D.seen D.may_leave D.left_since D.synced j.log mid.log did.same.0 did.same.1 in
    ok_goes c.append_instead.result c.append_instead.ensures.ok
    (λ k. all_kept_from D.seen a.shape (g.B.Board.state aside.board).shape (ap (λ (x : State). x.shape) (e2 ∙ e)) j.log aside.log new.log done2 j.dead aside.dead new.dead did.alive.0 k)

pub returns-in-Err-Second-clause-any_moment_ok : goal.returns-in-Err-Second-clause-any_moment_ok
returns-in-Err-Second-clause-any_moment_ok g c =
    let D = g.D.Device in
    let j = c.args.self.now in
    let a = g.B.Board.state j.board in
    let mid = c.spill.new.self in
    let e = ap (λ (x : g.row.B.Denot). g.B.Board.state x) c.spill.ensures.board in
    let did = c.in_ok-spill.ensures in
    let same = kept_same D.seen D.may_leave D.left_since D.synced j.log mid.log did.same.0 did.same.1 in
    let first = c.spill.ensures.any_moment did.alive.0 in
    let aside = c.replace.new.self in
    let is = c.in-Err-Second.ensures in
    let kept_mid = is.same (ap Err c.in-Err-Second.field-0-is) in
    let e2 = ap (λ (x : g.row.B.Denot). g.B.Board.state x) c.replace.ensures.board in
    let same2 = kept_same D.seen D.may_leave D.left_since D.synced mid.log aside.log kept_mid.1 kept_mid.2 in
    let second = two_same D.seen D.moment D.left_since a (g.B.Board.state mid.board) e j.log mid.log aside.log same first (is.any_moment_same (ap Err c.in-Err-Second.field-0-is)) in
    let new = c.append_instead.new.self in
    ok_goes c.append_instead.result c.append_instead.ensures.any_moment_ok
    (λ m. two_ok D.seen D.moment D.left_since a (g.B.Board.state aside.board) (e2 ∙ e) j.log aside.log new.log (same2 ∙ same) second m)

pub returns-in-Err-Second-clause-any_moment : goal.returns-in-Err-Second-clause-any_moment
returns-in-Err-Second-clause-any_moment g c = λ alive.
    let D = g.D.Device in
    let j = c.args.self.now in
    let a = g.B.Board.state j.board in
    let mid = c.spill.new.self in
    let e = ap (λ (x : g.row.B.Denot). g.B.Board.state x) c.spill.ensures.board in
    let did = c.in_ok-spill.ensures in
    let same = kept_same D.seen D.may_leave D.left_since D.synced j.log mid.log did.same.0 did.same.1 in
    let first = c.spill.ensures.any_moment did.alive.0 in
    let aside = c.replace.new.self in
    let is = c.in-Err-Second.ensures in
    let kept_mid = is.same (ap Err c.in-Err-Second.field-0-is) in
    let e2 = ap (λ (x : g.row.B.Denot). g.B.Board.state x) c.replace.ensures.board in
    let same2 = kept_same D.seen D.may_leave D.left_since D.synced mid.log aside.log kept_mid.1 kept_mid.2 in
    let second = two_same D.seen D.moment D.left_since a (g.B.Board.state mid.board) e j.log mid.log aside.log same first (is.any_moment_same (ap Err c.in-Err-Second.field-0-is)) in
    let new = c.append_instead.new.self in
    two_file D.seen D.moment D.left_since a (g.B.Board.state aside.board) (e2 ∙ e) j.log aside.log new.log (same2 ∙ same) second (c.append_instead.ensures.any_moment kept_mid.0)

pub returns-in-Err-Second-clause-runs : goal.returns-in-Err-Second-clause-runs
returns-in-Err-Second-clause-runs g c =
    let D = g.D.Device in
    let j = c.args.self.now in
    ok_two c.append_instead.result (returns-in-Err-Second-clause-ok g c) (returns-in-Err-Second-clause-any_moment_ok g c)
    (λ ok moments. run_sync D.seen D.moment D.left_since (g.B.Board.state j.board).shape j.log c.append_instead.new.self.log ok.same ok.none_held moments)

pub returns-in-Err-Second-clause-short : goal.returns-in-Err-Second-clause-short
returns-in-Err-Second-clause-short g c = ok_goes c.append_instead.result c.append_instead.ensures.next (λ n zero. let some = n.1 in absurd (omega (arith, some, zero)))

pub returns-in-Err-Second-clause-next : goal.returns-in-Err-Second-clause-next
returns-in-Err-Second-clause-next g c = ok_goes c.append_instead.result c.append_instead.ensures.next (λ n. let few = n.0 in omega (arith, few))

pub returns-in-Err-Second-clause-size : goal.returns-in-Err-Second-clause-size
returns-in-Err-Second-clause-size g c =
    let same = c.in-Err-Second.ensures.same (ap Err c.in-Err-Second.field-0-is) in
    let before = c.in_ok-spill.ensures.size.0 in
    ok_goes c.append_instead.result c.append_instead.ensures.size (λ few. omega (arith, few, same.3, before))
