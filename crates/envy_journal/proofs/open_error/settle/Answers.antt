use Rattle.std.proofs.Common.{rules, ◌≡◌, ◌-◌, ◌<◌, ◌∙◌, ℕ, List, length, drop, replicate, subst, sym, ap, arith}
use Rattle.std.proofs.lemmas.List.{take_rest}
use Rattle.envy_device.specs.Device.{LeavesOnly}
use Rattle.envy_journal.specs.Found.{IsEnd, IsMending, IsMended, ReadsAlike}
use Rattle.envy_journal.proofs.Moments.{started, goes_on, widened}
use Rattle.envy_journal.proofs.Settled.{mending_gate, gate_mended, zeros_mended, alike_self}
use Rattle.envy_journal.proofs.open_error.settle.Given.{Over}
use Rattle.envy_journal.proofs.open_error.settle.Goals.{After-mend, After-sync}
use Rattle.envy_journal.proofs.open_error.settle.Goals as goal

-- a sync of a file that needs no mending
synced : (g : Over) (c : After-sync g) → LeavesOnly g.D.Device.moment g.D.Device.left_since c.args.device.now c.sync.new.self (ReadsAlike c.args.end (g.D.Device.seen c.args.device.now))
synced g c =
    let D = g.D.Device in
    let old = c.args.device.now in
    let self : ReadsAlike c.args.end (D.seen old) (D.seen old) = alike_self c.args.end (D.seen old) (subst (λ (l : List ℕ). IsEnd c.args.end l) c.requires.bytes c.requires.end) in
    let here : (x : List ℕ) → D.may_leave old x → ReadsAlike c.args.end (D.seen old) x = λ x may. subst (λ (l : List ℕ). ReadsAlike c.args.end (D.seen old) l) (sym (c.requires.durable x may)) self in
    goes_on D.moment D.left_since old old c.sync.new.self _ _ (started D.moment D.left_since old _ (λ x left. here x (g.met.D.Device.only_now old x left))) c.sync.ensures.time (λ x now. here x (c.sync.ensures.crash x now))

mended : (g : Over) (c : After-mend g) → LeavesOnly g.D.Device.moment g.D.Device.left_since c.args.device.now c.mend.new.device (ReadsAlike c.args.end (g.D.Device.seen c.args.device.now))
mended g c =
    let seen = g.D.Device.seen in
    let old = c.args.device.now in
    let end = c.args.end in
    widened g.D.Device.moment g.D.Device.left_since old c.mend.new.device (IsMending end 1 (seen old)) (ReadsAlike end (seen old)) c.mend.ensures.any_moment (mending_gate end (seen old) (subst (λ (l : List ℕ). IsEnd end l) c.requires.bytes c.requires.end))

pub returns-in_err-sync-clause-any_moment : goal.returns-in_err-sync-clause-any_moment
returns-in_err-sync-clause-any_moment g c = synced g (goal.at.returns-in_err-sync-clause-any_moment g c).After-sync

pub returns-in_ok-sync-clause-any_moment : goal.returns-in_ok-sync-clause-any_moment
returns-in_ok-sync-clause-any_moment g c = synced g (goal.at.returns-in_ok-sync-clause-any_moment g c).After-sync

pub returns-in_err-mend-clause-any_moment : goal.returns-in_err-mend-clause-any_moment
returns-in_err-mend-clause-any_moment g c = mended g (goal.at.returns-in_err-mend-clause-any_moment g c).After-mend

pub returns-in_ok-mend-clause-any_moment : goal.returns-in_ok-mend-clause-any_moment
returns-in_ok-mend-clause-any_moment g c = mended g (goal.at.returns-in_ok-mend-clause-any_moment g c).After-mend
