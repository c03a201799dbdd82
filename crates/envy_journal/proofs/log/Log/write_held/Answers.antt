use Rattle.std.proofs.Common.{◌∷◌, [], ◌++◌, take, ap, arith, refl, List, ℕ}
use Rattle.envy_journal.specs.Log.{Begins, kept_bytes}
use Rattle.envy_journal.proofs.Bytes.{front_follows}
use Rattle.envy_journal.proofs.Moments.{started, goes_on}
use Rattle.envy_journal.proofs.Spilled.{spilled, counted_spilled, kept_torn, log_now, tied_torn, front_length}
use Rattle.envy_journal.proofs.log.Log.write_held.Goals as goal

pub returns-in_err-write_at-clause-any_moment : goal.returns-in_err-write_at-clause-any_moment
returns-in_err-write_at-clause-any_moment g c =
    let s = c.requires.sound in
    let f = kept_bytes g.D.Device.seen c.args.self.now ++ 0 ∷ [] in
    let old = c.args.self.now.device in
    let le = front_length g.D.Device.seen g.D.Device.may_leave g.D.Device.left_since g.D.Device.synced c.args.self.now s in
    let at_start = started g.D.Device.moment g.D.Device.left_since old (Begins f) (λ x left. s.durable x (g.met.D.Device.only_now old x left)) in
    goes_on g.D.Device.moment g.D.Device.left_since old old c.write_at.new.self (Begins f) _ at_start c.write_at.ensures.time
    (λ x now. front_follows f _ _ _ _ le s.durable c.write_at.ensures.crash x now)

pub returns-in_err-write_at-clause-kept : goal.returns-in_err-write_at-clause-kept
returns-in_err-write_at-clause-kept g c =
    kept_torn g.D.Device.seen g.D.Device.may_leave g.D.Device.left_since g.D.Device.synced c.args.self.now c.requires.sound c.write_at.new.self _ c.in_err-write_at.ensures.torn

pub returns-in_err-write_at-clause-tied : goal.returns-in_err-write_at-clause-tied
returns-in_err-write_at-clause-tied g c =
    let log = c.args.self.now in
    tied_torn g.D.Device.seen g.D.Device.may_leave g.D.Device.left_since g.D.Device.synced log c.requires.sound c.write_at.new.self _ g.D.Device.moment c.in_err-write_at.ensures.torn c.write_at.ensures.crash c.write_at.ensures.time c.write_at.ensures.synced (g.met.D.Device.synced_before log.device)

pub returns-clause-ok : goal.returns-clause-ok
returns-clause-ok g c =
    let all = spilled g.D.Device.seen g.D.Device.may_leave g.D.Device.left_since g.D.Device.synced c.args.self.now c.requires.sound c.write_at.new.self _ (ap (λ (l : List ℕ). take c.args.self.now.used l) c.deref.ensures.value) c.in_ok-write_at.ensures.written g.D.Device.moment c.requires.fits c.write_at.ensures.crash c.write_at.ensures.time c.write_at.ensures.synced (g.met.D.Device.synced_before c.args.self.now.device) c.zeros_written-zeros.result _ _ in
    (all.0, all.2, all.3)

pub returns-clause-kept : goal.returns-clause-kept
returns-clause-kept g c =
    let all = spilled g.D.Device.seen g.D.Device.may_leave g.D.Device.left_since g.D.Device.synced c.args.self.now c.requires.sound c.write_at.new.self _ (ap (λ (l : List ℕ). take c.args.self.now.used l) c.deref.ensures.value) c.in_ok-write_at.ensures.written g.D.Device.moment c.requires.fits c.write_at.ensures.crash c.write_at.ensures.time c.write_at.ensures.synced (g.met.D.Device.synced_before c.args.self.now.device) c.zeros_written-zeros.result (omega arith) c.args.self.now.few in
    all.1

pub returns-clause-tied : goal.returns-clause-tied
returns-clause-tied g c =
    let all = spilled g.D.Device.seen g.D.Device.may_leave g.D.Device.left_since g.D.Device.synced c.args.self.now c.requires.sound c.write_at.new.self _ (ap (λ (l : List ℕ). take c.args.self.now.used l) c.deref.ensures.value) c.in_ok-write_at.ensures.written g.D.Device.moment c.requires.fits c.write_at.ensures.crash c.write_at.ensures.time c.write_at.ensures.synced (g.met.D.Device.synced_before c.args.self.now.device) c.zeros_written-zeros.result (omega arith) c.args.self.now.few in
    let sound = all.0 in
    sound.tied

pub returns-clause-any_moment : goal.returns-clause-any_moment
returns-clause-any_moment g c =
    let s = c.requires.sound in
    let f = kept_bytes g.D.Device.seen c.args.self.now ++ 0 ∷ [] in
    let old = c.args.self.now.device in
    let le = front_length g.D.Device.seen g.D.Device.may_leave g.D.Device.left_since g.D.Device.synced c.args.self.now s in
    let at_start = started g.D.Device.moment g.D.Device.left_since old (Begins f) (λ x left. s.durable x (g.met.D.Device.only_now old x left)) in
    goes_on g.D.Device.moment g.D.Device.left_since old old c.write_at.new.self (Begins f) _ at_start c.write_at.ensures.time
    (λ x now. front_follows f _ _ _ _ le s.durable c.write_at.ensures.crash x now)

pub returns-clause-counted : goal.returns-clause-counted
returns-clause-counted g c =
    let D = g.D.Device in
    let log = c.args.self.now in
    let s = c.requires.sound in
    let bytes = ap (λ (l : List ℕ). take log.used l) c.deref.ensures.value in
    let all = spilled D.seen D.may_leave D.left_since D.synced log s c.write_at.new.self _ bytes c.in_ok-write_at.ensures.written D.moment c.requires.fits c.write_at.ensures.crash c.write_at.ensures.time c.write_at.ensures.synced (g.met.D.Device.synced_before log.device) c.zeros_written-zeros.result (omega arith) log.few in
    let now = log_now D.seen D.may_leave D.left_since D.synced log s c.write_at.new.self _ bytes c.in_ok-write_at.ensures.written in
    counted_spilled D.seen D.may_leave D.left_since D.synced log s D.bytewise c.requires.counted _ _ bytes all.2 refl now c.in_ok-write_at.ensures.written c.write_at.ensures.bytewise c.write_at.ensures.mixed c.zeros_written-zeros.ensures refl refl all.1
