use Rattle.std.proofs.Common.{◌≡◌, ◌≤◌, ◌∙◌, ◌+◌, ◌-◌, ◌++◌, ◌∷◌, [], List, ℕ, ap, arith, length, length-append, replicate, take, subst, refl, sym}
use Rattle.envy_device.specs.Device.{LeavesOnly}
use Rattle.envy_journal.proofs.Logged.{runs_more}
use Rattle.envy_journal.proofs.Moments.{started, goes_on}
use Rattle.envy_journal.specs.Log.{HasRuns, held_bytes, kept_bytes}
use Rattle.envy_journal.proofs.Batches.{counted_none, gated_batch}
use Rattle.envy_journal.proofs.Spilled.{buffer_length}
use Rattle.envy_journal.proofs.Synced.{P, after_whole, at_first, batch, batch_length, rest_after, staged_torn, staged, opened_follows, opened, synced, zeros_after}
use Rattle.envy_journal.proofs.log.Log.sync_gated.Given.{Over}
use Rattle.envy_journal.proofs.log.Log.sync_gated.Goals.{After-write_at, After-sync, After-write_at-2, After-sync-2}
use Rattle.envy_journal.proofs.log.Log.sync_gated.Goals as goal

-- what a crash leaves by the end of each call of the device, given what it leaves before
written : (g : Over) (c : After-write_at g) → LeavesOnly g.D.Device.moment g.D.Device.left_since c.args.self.now.device c.write_at.new.self (P g.D.Device.seen g.D.Device.may_leave g.D.Device.left_since g.D.Device.synced c.args.self.now c.requires.sound)
written g c =
    let s = c.requires.sound in
    let D = g.D.Device in
    let log = c.args.self.now in
    let old = log.device in
    let here = started D.moment D.left_since old _ (λ x was. at_first D.seen D.may_leave D.left_since D.synced log s x (s.durable x (g.met.D.Device.only_now old x was))) in
    goes_on D.moment D.left_since old old c.write_at.new.self _ _ here c.write_at.ensures.time (staged_torn D.seen D.may_leave D.left_since D.synced log s c.write_at.new.self _ c.write_at.ensures.crash)

on_disk : (g : Over) (c : After-sync g) → LeavesOnly g.D.Device.moment g.D.Device.left_since c.args.self.now.device c.write_at.new.self (P g.D.Device.seen g.D.Device.may_leave g.D.Device.left_since g.D.Device.synced c.args.self.now c.requires.sound)
    → LeavesOnly g.D.Device.moment g.D.Device.left_since c.args.self.now.device c.sync.new.self (P g.D.Device.seen g.D.Device.may_leave g.D.Device.left_since g.D.Device.synced c.args.self.now c.requires.sound)
on_disk g c before =
    let D = g.D.Device in
    let log = c.args.self.now in
    let first = staged_torn D.seen D.may_leave D.left_since D.synced log c.requires.sound c.write_at.new.self _ c.write_at.ensures.crash in
    goes_on D.moment D.left_since log.device c.write_at.new.self c.sync.new.self _ _ before c.sync.ensures.time (λ x now. first x (c.sync.ensures.crash x now))

-- the batch lies behind a closed gate, so that a torn write of the gate leaves it open or closed
gate_torn : (g : Over) (c : After-write_at-2 g) → (x : List ℕ) → g.D.Device.may_leave c.write_at-2.new.self x
    → P g.D.Device.seen g.D.Device.may_leave g.D.Device.left_since g.D.Device.synced c.args.self.now c.requires.sound x
gate_torn g c =
    let s = c.requires.sound in
    let k = c.requires.counted in
    let D = g.D.Device in
    let log = c.args.self.now in
    let bytes = ap (λ (l : List ℕ). take (log.used + 2) l) c.deref.ensures.value ∙ c.seal.ensures.sealed in
    let is_staged = staged D.seen D.may_leave D.left_since D.synced log s c.write_at.new.self _ bytes c.in_ok-write_at.ensures.written in
    opened_follows D.seen D.may_leave D.left_since D.synced log s k.whole (D.may_leave c.sync.new.self) (D.may_leave c.write_at-2.new.self) (D.seen c.write_at.new.self) _ is_staged c.in_ok-sync.ensures.durable c.write_at-2.ensures.crash

at_gate : (g : Over) (c : After-write_at-2 g) → LeavesOnly g.D.Device.moment g.D.Device.left_since c.args.self.now.device c.sync.new.self (P g.D.Device.seen g.D.Device.may_leave g.D.Device.left_since g.D.Device.synced c.args.self.now c.requires.sound)
    → LeavesOnly g.D.Device.moment g.D.Device.left_since c.args.self.now.device c.write_at-2.new.self (P g.D.Device.seen g.D.Device.may_leave g.D.Device.left_since g.D.Device.synced c.args.self.now c.requires.sound)
at_gate g c before =
    goes_on g.D.Device.moment g.D.Device.left_since c.args.self.now.device c.sync.new.self c.write_at-2.new.self _ _ before c.write_at-2.ensures.time (gate_torn g c)

pub returns-in_err-write_at-clause-any_moment : goal.returns-in_err-write_at-clause-any_moment
returns-in_err-write_at-clause-any_moment g c = written g (goal.at.returns-in_err-write_at-clause-any_moment g c).After-write_at

pub returns-in_err-sync-clause-any_moment : goal.returns-in_err-sync-clause-any_moment
returns-in_err-sync-clause-any_moment g c =
    let at = goal.at.returns-in_err-sync-clause-any_moment g c in
    on_disk g at.After-sync (written g at.After-write_at)

pub returns-in_err-write_at-2-clause-any_moment : goal.returns-in_err-write_at-2-clause-any_moment
returns-in_err-write_at-2-clause-any_moment g c =
    let at = goal.at.returns-in_err-write_at-2-clause-any_moment g c in
    at_gate g at.After-write_at-2 (on_disk g at.After-sync (written g at.After-write_at))

pub returns-in_err-sync-2-clause-any_moment : goal.returns-in_err-sync-2-clause-any_moment
returns-in_err-sync-2-clause-any_moment g c =
    let at = goal.at.returns-in_err-sync-2-clause-any_moment g c in
    let before = at_gate g at.After-write_at-2 (on_disk g at.After-sync (written g at.After-write_at)) in
    goes_on g.D.Device.moment g.D.Device.left_since c.args.self.now.device c.write_at-2.new.self c.sync-2.new.self _ _ before c.sync-2.ensures.time (λ x now. gate_torn g at.After-write_at-2 x (c.sync-2.ensures.crash x now))

pub returns-clause-any_moment : goal.returns-clause-any_moment
returns-clause-any_moment g c =
    let at = goal.at.returns-clause-any_moment g c in
    let before = at_gate g at.After-write_at-2 (on_disk g at.After-sync (written g at.After-write_at)) in
    goes_on g.D.Device.moment g.D.Device.left_since c.args.self.now.device c.write_at-2.new.self c.sync-2.new.self _ _ before c.sync-2.ensures.time (λ x now. gate_torn g at.After-write_at-2 x (c.sync-2.ensures.crash x now))

-- the zeros after the batch
abbrev after_batch : (g : Over) (c : After-sync-2 g) → List ℕ
after_batch g c = rest_after g.D.Device.seen g.D.Device.may_leave g.D.Device.left_since g.D.Device.synced c.args.self.now c.requires.sound (length (take (c.args.self.now.used + 2) c.deref.result.now))

-- the file in the end
file : (g : Over) (c : After-sync-2 g) → g.D.Device.seen c.sync-2.new.self ≡ (kept_bytes g.D.Device.seen c.args.self.now ++ batch g.D.Device.seen g.D.Device.may_leave g.D.Device.left_since g.D.Device.synced c.args.self.now c.requires.sound) ++ 0 ∷ after_batch g c
file g c =
    let s = c.requires.sound in
    let D = g.D.Device in
    let log = c.args.self.now in
    let bytes = ap (λ (l : List ℕ). take (log.used + 2) l) c.deref.ensures.value ∙ c.seal.ensures.sealed in
    let is_staged = staged D.seen D.may_leave D.left_since D.synced log s c.write_at.new.self _ bytes c.in_ok-write_at.ensures.written in
    let is_open = opened D.seen D.may_leave D.left_since D.synced log s (D.seen c.sync.new.self) (D.seen c.write_at-2.new.self) (after_batch g c) (c.sync.ensures.seen ∙ is_staged) c.in_ok-write_at-2.ensures.written in
    c.sync-2.ensures.seen ∙ is_open ∙ after_whole D.seen D.may_leave D.left_since D.synced log s (after_batch g c)

zeros : (g : Over) (c : After-sync-2 g) → after_batch g c ≡ replicate (c.args.self.now.size - (c.args.self.now.end + c.args.self.now.used + 1 + 1)) 0
zeros g c =
    let s = c.requires.sound in
    let D = g.D.Device in
    let log = c.args.self.now in
    let bytes = ap (λ (l : List ℕ). take (log.used + 2) l) c.deref.ensures.value ∙ c.seal.ensures.sealed in
    let long : length (take (log.used + 2) c.deref.result.now) ≡ log.used + 2 = omega (arith, ap length bytes, length-append (take log.used log.buffer.items) (5 ∷ 0 ∷ []), buffer_length D.seen D.may_leave D.left_since D.synced log s) in
    zeros_after D.seen D.may_leave D.left_since D.synced log s (length (take (log.used + 2) c.deref.result.now)) ∙ ap (λ (n : ℕ). replicate n 0) (omega (arith, long))

pub returns-clause-ok : goal.returns-clause-ok
returns-clause-ok g c =
    let s = c.requires.sound in
    let seen = g.D.Device.seen in
    let leave = g.D.Device.may_leave in
    let left = g.D.Device.left_since in
    let last = g.D.Device.synced in
    let log = c.args.self.now in
    let only = c.in_ok-sync-2.ensures.durable in
    let at = (goal.at.returns-clause-ok g c).After-sync-2 in
    let fits : log.end + log.used + 1 + 1 ≤ log.size = omega (arith, c.requires.fits) in
    let all = synced seen leave left last log s (batch seen leave left last log s) (after_batch g at) _ (sym (batch_length seen leave left last log s)) refl refl c.seal.ensures.room (file g at) fits (zeros g at)
    (λ x was. only x was ∙ sym c.sync-2.ensures.seen) (λ x was. g.met.D.Device.only_now c.sync-2.new.self x (subst (λ (n : ℕ). left c.sync-2.new.self n x) c.in_ok-sync-2.ensures.synced was)) in
    (all.0, (batch seen leave left last log s, gated_batch (held_bytes seen log), all.1), all.2)

pub returns-clause-counted : goal.returns-clause-counted
returns-clause-counted g c =
    let ok = returns-clause-ok g c in
    counted_none g.D.Device.seen g.D.Device.may_leave g.D.Device.bytewise _ ok.2 refl (λ x was. c.in_ok-sync-2.ensures.durable x was ∙ sym c.sync-2.ensures.seen)
    refl (λ may. let k = c.requires.counted in let now = ok.1 in subst (λ (l : List ℕ). HasRuns l) (sym now.2) (runs_more (kept_bytes g.D.Device.seen c.args.self.now) now.0 (k.runs may)))
