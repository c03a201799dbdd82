use Rattle.std.proofs.Common.{◌≡◌, ◌∙◌, ◌++◌, ◌∷◌, [], List, ℕ, ap, arith, length, replicate, subst, refl, sym}
use Rattle.envy_device.specs.Device.{LeavesOnly}
use Rattle.envy_journal.specs.Log.{Begins, HasRuns, kept_bytes}
use Rattle.envy_journal.proofs.Batches.{counted_none}
use Rattle.envy_journal.proofs.Logged.{runs_more}
use Rattle.envy_journal.proofs.Moments.{started, goes_on}
use Rattle.envy_journal.proofs.Once.{counted, ended, ended_left, ended_torn, gate_in, once_batch, once_length, opened_file, opened_once}
use Rattle.envy_journal.proofs.Synced.{P, at_first, synced, zeros_after}
use Rattle.envy_journal.proofs.log.Log.sync_counted.Given.{Over}
use Rattle.envy_journal.proofs.log.Log.sync_counted.Goals.{After-write_at, After-write_at-2}
use Rattle.envy_journal.proofs.log.Log.sync_counted.Goals as goal

-- what a crash leaves by the end of each call of the device, given what it leaves before
begun : (g : Over) (c : After-write_at g) → (x : List ℕ) → g.D.Device.may_leave c.write_at.new.self x → Begins (kept_bytes g.D.Device.seen c.args.self.now ++ 0 ∷ []) x
begun g c =
    let r = c.requires in
    let D = g.D.Device in
    ended_torn D.seen D.may_leave D.left_since D.synced c.args.self.now r.sound D.bytewise r.counted r.bytewise r.spilled r.small c.write_at.new.self _ c.counted_end.ensures c.write_at.ensures.crash

written : (g : Over) (c : After-write_at g) → LeavesOnly g.D.Device.moment g.D.Device.left_since c.args.self.now.device c.write_at.new.self (P g.D.Device.seen g.D.Device.may_leave g.D.Device.left_since g.D.Device.synced c.args.self.now c.requires.sound)
written g c =
    let s = c.requires.sound in
    let D = g.D.Device in
    let log = c.args.self.now in
    let old = log.device in
    let here = started D.moment D.left_since old _ (λ x was. at_first D.seen D.may_leave D.left_since D.synced log s x (s.durable x (g.met.D.Device.only_now old x was))) in
    goes_on D.moment D.left_since old old c.write_at.new.self _ _ here c.write_at.ensures.time (λ x now. at_first D.seen D.may_leave D.left_since D.synced log s x (begun g c x now))

at_gate : (g : Over) (c : After-write_at-2 g) → (x : List ℕ) → g.D.Device.may_leave c.write_at-2.new.self x → P g.D.Device.seen g.D.Device.may_leave g.D.Device.left_since g.D.Device.synced c.args.self.now c.requires.sound x
at_gate g c =
    let r = c.requires in
    let D = g.D.Device in
    let log = c.args.self.now in
    let lefts = ended_left D.seen D.may_leave D.left_since D.synced log r.sound D.bytewise r.counted r.bytewise r.spilled r.small c.write_at.new.self _ c.counted_end.ensures c.in_ok-write_at.ensures.written (c.write_at.ensures.mixed r.bytewise) in
    let fronts = ended_torn D.seen D.may_leave D.left_since D.synced log r.sound D.bytewise r.counted r.bytewise r.spilled r.small c.write_at.new.self _ c.counted_end.ensures c.write_at.ensures.crash in
    opened_once D.seen D.may_leave D.left_since D.synced log r.sound D.bytewise r.counted r.bytewise r.spilled r.small _ (D.may_leave c.write_at.new.self) (D.may_leave c.write_at-2.new.self) fronts lefts (c.write_at-2.ensures.mixed (c.write_at.ensures.bytewise ∙ r.bytewise))

opened : (g : Over) (c : After-write_at-2 g) → LeavesOnly g.D.Device.moment g.D.Device.left_since c.args.self.now.device c.write_at.new.self (P g.D.Device.seen g.D.Device.may_leave g.D.Device.left_since g.D.Device.synced c.args.self.now c.requires.sound)
    → LeavesOnly g.D.Device.moment g.D.Device.left_since c.args.self.now.device c.write_at-2.new.self (P g.D.Device.seen g.D.Device.may_leave g.D.Device.left_since g.D.Device.synced c.args.self.now c.requires.sound)
opened g c before = goes_on g.D.Device.moment g.D.Device.left_since c.args.self.now.device c.write_at.new.self c.write_at-2.new.self _ _ before c.write_at-2.ensures.time (at_gate g c)

pub write_at-requires-2 : goal.write_at-requires-2
write_at-requires-2 g c =
    let r = c.requires in
    let D = g.D.Device in
    let log = c.args.self.now in
    let is = ended D.seen D.may_leave D.left_since D.synced log r.sound D.bytewise r.counted r.bytewise r.spilled r.small c.write_at.new.self _ c.counted_end.ensures c.in_ok-write_at.ensures.written in
    gate_in D.seen D.may_leave D.left_since D.synced log r.sound D.bytewise r.counted r.bytewise r.spilled r.small (D.seen c.write_at.new.self) _ is

pub returns-in_err-write_at-clause-any_moment : goal.returns-in_err-write_at-clause-any_moment
returns-in_err-write_at-clause-any_moment g c = written g (goal.at.returns-in_err-write_at-clause-any_moment g c).After-write_at

pub returns-in_err-write_at-2-clause-any_moment : goal.returns-in_err-write_at-2-clause-any_moment
returns-in_err-write_at-2-clause-any_moment g c =
    let at = goal.at.returns-in_err-write_at-2-clause-any_moment g c in
    opened g at.After-write_at-2 (written g at.After-write_at)

pub returns-in_err-sync-clause-any_moment : goal.returns-in_err-sync-clause-any_moment
returns-in_err-sync-clause-any_moment g c =
    let at = goal.at.returns-in_err-sync-clause-any_moment g c in
    let before = opened g at.After-write_at-2 (written g at.After-write_at) in
    goes_on g.D.Device.moment g.D.Device.left_since c.args.self.now.device c.write_at-2.new.self c.sync.new.self _ _ before c.sync.ensures.time (λ x now. at_gate g at.After-write_at-2 x (c.sync.ensures.crash x now))

pub returns-clause-any_moment : goal.returns-clause-any_moment
returns-clause-any_moment g c =
    let at = goal.at.returns-clause-any_moment g c in
    let before = opened g at.After-write_at-2 (written g at.After-write_at) in
    goes_on g.D.Device.moment g.D.Device.left_since c.args.self.now.device c.write_at-2.new.self c.sync.new.self _ _ before c.sync.ensures.time (λ x now. at_gate g at.After-write_at-2 x (c.sync.ensures.crash x now))

pub returns-clause-ok : goal.returns-clause-ok
returns-clause-ok g c =
    let r = c.requires in
    let seen = g.D.Device.seen in
    let leave = g.D.Device.may_leave in
    let left = g.D.Device.left_since in
    let last = g.D.Device.synced in
    let log = c.args.self.now in
    let only = c.in_ok-sync.ensures.durable in
    let all = counted seen leave left last log r.sound g.D.Device.bytewise r.counted r.bytewise r.spilled r.small in
    let is = ended seen leave left last log r.sound g.D.Device.bytewise r.counted r.bytewise r.spilled r.small c.write_at.new.self _ c.counted_end.ensures c.in_ok-write_at.ensures.written in
    let now = c.sync.ensures.seen ∙ opened_file seen leave left last log r.sound g.D.Device.bytewise r.counted r.bytewise r.spilled r.small (seen c.write_at.new.self) (seen c.write_at-2.new.self) _ is c.in_ok-write_at-2.ensures.written in
    let long : length c.counted_end.result ≡ 10 = ap length c.counted_end.ensures in
    let zeros = zeros_after seen leave left last log r.sound (length c.counted_end.result) ∙ ap (λ (n : ℕ). replicate n 0) (let size = log.size in let end = log.end in omega (arith, long)) in
    let whole = synced seen leave left last log r.sound all _ _ (once_length seen leave left last log r.sound g.D.Device.bytewise r.counted r.bytewise r.spilled r.small) refl r.spilled refl now (omega (arith, r.fits)) zeros
    (λ x was. only x was ∙ sym c.sync.ensures.seen) (λ x was. g.met.D.Device.only_now c.sync.new.self x (subst (λ (n : ℕ). left c.sync.new.self n x) c.in_ok-sync.ensures.synced was)) in
    (whole.0, (all, once_batch seen leave left last log r.sound g.D.Device.bytewise r.counted r.bytewise r.spilled r.small, whole.1), whole.2)

pub returns-clause-counted : goal.returns-clause-counted
returns-clause-counted g c =
    let ok = returns-clause-ok g c in
    counted_none g.D.Device.seen g.D.Device.may_leave g.D.Device.bytewise _ ok.2 refl (λ x was. c.in_ok-sync.ensures.durable x was ∙ sym c.sync.ensures.seen)
    c.requires.spilled (λ may. let k = c.requires.counted in let now = ok.1 in subst (λ (l : List ℕ). HasRuns l) (sym now.2) (runs_more (kept_bytes g.D.Device.seen c.args.self.now) now.0 (k.runs may)))
