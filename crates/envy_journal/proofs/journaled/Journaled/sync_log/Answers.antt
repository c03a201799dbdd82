use Rattle.std.proofs.Common.{◌≡◌, ◌⊎◌, inl, ◌∙◌, ◌++◌, [], true, ℕ, List, ap, arith, refl, sym}
use Rattle.std.proofs.lemmas.Bool.{false≢true}
use Rattle.std.proofs.lemmas.List.{append-nil}
use Rattle.envy_device.specs.Device.{LeavesOnly}
use Rattle.envy_journal.specs.declared.operation.Operation.{Operation}
use Rattle.envy_journal.specs.Content.{holds}
use Rattle.envy_journal.specs.Head.{StandsFor}
use Rattle.envy_journal.specs.Journal.{IsFileOf, done, held, kept}
use Rattle.envy_journal.specs.Log.{held_bytes}
use Rattle.envy_journal.specs.Reading.{reading}
use Rattle.envy_journal.proofs.Caused.{cause_on, ended_by, by_end, no_fault}
use Rattle.envy_journal.proofs.Compacted.{crash_file, crash_all}
use Rattle.envy_journal.proofs.Idle.{no_bytes}
use Rattle.envy_journal.proofs.Logged.{crash_kept, stands_tied, logged_synced, kept_all, done_same, held_none}
use Rattle.envy_journal.proofs.Moments.{started, widened}
use Rattle.envy_journal.proofs.Parsed.{leads_none, leads_to}
use Rattle.envy_journal.proofs.Ran.{run_sync}
use Rattle.envy_journal.proofs.Synced.{size_synced}
use Rattle.envy_journal.proofs.journaled.Journaled.sync_log.Given.{Over}
use Rattle.envy_journal.proofs.journaled.Journaled.sync_log.Goals.{Then-is_idle}
use Rattle.envy_journal.proofs.journaled.Journaled.sync_log.Goals as goal

pub invariant_of-self : goal.invariant_of-self
invariant_of-self g c =
    let j = c.args.self.now in
    let ok = c.in-Ok.ensures.ok in
    let seen = g.D.Device.seen in
    let leave = g.D.Device.may_leave in
    let left = g.D.Device.left_since in
    let last = g.D.Device.synced in
    let s = g.B.Board.state j.board in
    let sound = ok.0 in
    record {
      logged = λ alive. logged_synced g.D.Device.seen g.D.Device.may_leave g.D.Device.left_since g.D.Device.synced j.log (g.B.Board.state j.board) (j.logged alive) c.sync.new.self c.sync.ensures.room ok.0 ok.1.0 ok.1.1 ok.1.2 ok.2;
      stands = λ sure. stands_tied seen leave left last c.sync.new.self s (logged_synced seen leave left last j.log s (j.logged c.if-self.false) c.sync.new.self c.sync.ensures.room ok.0 ok.1.0 ok.1.1 ok.1.2 ok.2) c.sync.new.self s refl refl sound.tied;
      ended = λ dead. absurd (false≢true (sym c.if-self.false ∙ dead));
      counted = λ alive. c.in-Ok.ensures.counted;
    }

pub returns-in-Ok-clause-appended : goal.returns-in-Ok-clause-appended
returns-in-Ok-clause-appended g c =
    let j = c.args.self.now in
    let ok = c.in-Ok.ensures.ok in
    kept_all g.D.Device.seen g.D.Device.may_leave g.D.Device.left_since g.D.Device.synced j.log (g.B.Board.state j.board) (j.logged c.if-self.false) c.sync.new.self c.sync.ensures.room ok.0 ok.1.0 ok.1.1 ok.1.2 ok.2

pub returns-in-Ok-clause-ok : goal.returns-in-Ok-clause-ok
returns-in-Ok-clause-ok g c =
    let j = c.args.self.now in
    let alive = c.if-self.false in
    let ok = c.in-Ok.ensures.ok in
    let s = g.B.Board.state j.board in
    let kept_now = returns-in-Ok-clause-appended g c in
    let done_now = done_same g.D.Device.seen g.D.Device.may_leave g.D.Device.left_since g.D.Device.synced j.log s (j.logged alive) c.sync.new.self c.sync.ensures.room ok.0 ok.1.0 ok.1.1 ok.1.2 ok.2 in
    record {
      alive = alive;
      still_alive = alive;
      none_held = held_none g.D.Device.seen g.D.Device.may_leave g.D.Device.left_since g.D.Device.synced j.log s (j.logged alive) c.sync.new.self c.sync.ensures.room ok.0 ok.1.0 ok.1.1 ok.1.2 ok.2;
      all = done_now ∙ sym kept_now;
      same = ap (λ (p : List Operation). holds s.shape p) kept_now;
    }

pub returns-in-Ok-clause-size : goal.returns-in-Ok-clause-size
returns-in-Ok-clause-size g c =
    let j = c.args.self.now in
    let ok = c.in-Ok.ensures.ok in
    let logged = j.logged c.if-self.false in
    size_synced g.D.Device.seen g.D.Device.may_leave g.D.Device.left_since g.D.Device.synced j.log logged.sound ok.1.0 ok.1.1 c.sync.new.self ok.0 ok.1.2 ok.2

pub returns-in-Ok-clause-any_moment : goal.returns-in-Ok-clause-any_moment
returns-in-Ok-clause-any_moment g c = λ alive.
    let j = c.args.self.now in
    crash_file g.D.Device.seen g.D.Device.may_leave g.D.Device.left_since g.D.Device.synced j.log (g.B.Board.state j.board) (j.logged alive) g.D.Device.moment c.sync.new.self.device c.sync.ensures.any_moment

pub returns-in-Err-clause-any_moment : goal.returns-in-Err-clause-any_moment
returns-in-Err-clause-any_moment g c = λ alive.
    let j = c.args.self.now in
    crash_file g.D.Device.seen g.D.Device.may_leave g.D.Device.left_since g.D.Device.synced j.log (g.B.Board.state j.board) (j.logged alive) g.D.Device.moment c.sync.new.self.device c.sync.ensures.any_moment

pub returns-in-Ok-clause-any_moment_ok : goal.returns-in-Ok-clause-any_moment_ok
returns-in-Ok-clause-any_moment_ok g c =
    let j = c.args.self.now in
    crash_all g.D.Device.seen g.D.Device.may_leave g.D.Device.left_since g.D.Device.synced j.log (g.B.Board.state j.board) (j.logged c.if-self.false) g.D.Device.moment c.sync.new.self.device c.sync.ensures.any_moment
    (kept g.D.Device.seen c.sync.new.self) (returns-in-Ok-clause-appended g c)

pub returns-in-Ok-clause-runs : goal.returns-in-Ok-clause-runs
returns-in-Ok-clause-runs g c =
    let ok = returns-in-Ok-clause-ok g c in
    run_sync g.D.Device.seen g.D.Device.moment g.D.Device.left_since (g.B.Board.state c.args.self.now.board).shape c.args.self.now.log c.sync.new.self ok.same ok.none_held (returns-in-Ok-clause-any_moment_ok g c)

pub invariant_of-self-in-Err : goal.invariant_of-self-in-Err
invariant_of-self-in-Err g c = record {
  logged = λ alive. absurd (false≢true (sym alive));
  stands = λ sure. absurd (false≢true (sym sure));
  ended = λ dead. ended_by g.D.Device.seen g.D.Device.has_failed c.sync.new.self c.in-Err.error c.in-Err.ensures.cause;
  counted = λ alive. absurd (false≢true (sym alive));
}

pub returns-in-Err-clause-cause : goal.returns-in-Err-clause-cause
returns-in-Err-clause-cause g c = cause_on g.D.Device.seen g.D.Device.has_failed c.sync.new.self c.args.self.now.dead _ c.in-Err.ensures.cause

pub returns-in-Ok-clause-cause : goal.returns-in-Ok-clause-cause
returns-in-Ok-clause-cause g c = no_fault g.D.Device.seen g.D.Device.has_failed c.args.self.now.dead c.sync.new.self

pub returns-then-self-clause-cause : goal.returns-then-self-clause-cause
returns-then-self-clause-cause g c = by_end g.D.Device.seen g.D.Device.has_failed c.args.self.now.dead c.args.self.now.log c.if-self.true

pub returns-in-Ok-clause-idle : goal.returns-in-Ok-clause-idle
returns-in-Ok-clause-idle g c = λ alive none.
    let j = c.args.self.now in
    let k = j.counted alive in
    absurd (c.is_idle.ensures.busy c.if-is_idle.false (no_bytes (held_bytes g.D.Device.seen j.log) k.whole none))

pub returns-in-Err-clause-idle : goal.returns-in-Err-clause-idle
returns-in-Err-clause-idle g c = λ alive none.
    let j = c.args.self.now in
    let k = j.counted alive in
    absurd (c.is_idle.ensures.busy c.if-is_idle.false (no_bytes (held_bytes g.D.Device.seen j.log) k.whole none))

pub returns-in-Ok-clause-file : goal.returns-in-Ok-clause-file
returns-in-Ok-clause-file g c =
    let ok = c.in-Ok.ensures.ok in
    let sound = ok.0 in
    sym sound.size

pub returns-in-Ok-clause-length : goal.returns-in-Ok-clause-length
returns-in-Ok-clause-length g c =
    let ok = c.in-Ok.ensures.ok in
    let sound = ok.0 in
    omega (arith, sound.size, c.in-Ok.ensures.size)

-- nothing is held
none : (g : Over) (c : Then-is_idle g) → held g.D.Device.seen c.args.self.now.log ≡ []
none g c = ap (λ (l : List ℕ). reading true 0 l) (c.is_idle.ensures.idle c.if-is_idle.true) ∙ leads_to true true 0 [] [] (leads_none true)

all : (g : Over) (c : Then-is_idle g) → done g.D.Device.seen c.args.self.now.log ≡ kept g.D.Device.seen c.args.self.now.log
all g c =
    let seen = g.D.Device.seen in
    let log = c.args.self.now.log in
    ap (λ (p : List Operation). kept seen log ++ p) (none g c) ∙ append-nil (kept seen log)

stays : (g : Over) (c : Then-is_idle g) → LeavesOnly g.D.Device.moment g.D.Device.left_since c.args.self.now.log.device c.args.self.now.log.device (StandsFor (g.B.Board.state c.args.self.now.board).shape (kept g.D.Device.seen c.args.self.now.log))
stays g c =
    let D = g.D.Device in
    let j = c.args.self.now in
    let s = g.B.Board.state j.board in
    let is = j.logged c.if-self.false in
    let sound = is.sound in
    started D.moment D.left_since j.log.device (StandsFor s.shape (kept D.seen j.log)) (λ x left. crash_kept D.seen D.may_leave D.left_since D.synced j.log s is x (sound.durable x (g.met.D.Device.only_now j.log.device x left)))

pub returns-then-is_idle-clause-ok : goal.returns-then-is_idle-clause-ok
returns-then-is_idle-clause-ok g c =
    let at = (goal.at.returns-then-is_idle-clause-ok g c).Then-is_idle in
    let j = c.args.self.now in
    let s = g.B.Board.state j.board in
    record {
      alive = c.if-self.false;
      still_alive = c.if-self.false;
      none_held = none g at;
      all = all g at;
      same = ap (λ (p : List Operation). holds s.shape p) (sym (all g at));
    }

pub returns-then-is_idle-clause-appended : goal.returns-then-is_idle-clause-appended
returns-then-is_idle-clause-appended g c = sym (all g (goal.at.returns-then-is_idle-clause-appended g c).Then-is_idle)

pub returns-then-is_idle-clause-file : goal.returns-then-is_idle-clause-file
returns-then-is_idle-clause-file g c =
    let j = c.args.self.now in
    let is = j.logged c.if-self.false in
    let sound = is.sound in
    sym sound.size

pub returns-then-is_idle-clause-length : goal.returns-then-is_idle-clause-length
returns-then-is_idle-clause-length g c =
    let j = c.args.self.now in
    let is = j.logged c.if-self.false in
    let sound = is.sound in
    omega (arith, sound.size)

pub returns-then-is_idle-clause-any_moment : goal.returns-then-is_idle-clause-any_moment
returns-then-is_idle-clause-any_moment g c = λ alive.
    let D = g.D.Device in
    let j = c.args.self.now in
    let s = g.B.Board.state j.board in
    widened D.moment D.left_since j.log.device j.log.device (StandsFor s.shape (kept D.seen j.log)) (λ x. StandsFor s.shape (kept D.seen j.log) x ⊎ IsFileOf s x) (stays g (goal.at.returns-then-is_idle-clause-any_moment g c).Then-is_idle) (λ x is. inl is)

pub returns-then-is_idle-clause-any_moment_ok : goal.returns-then-is_idle-clause-any_moment_ok
returns-then-is_idle-clause-any_moment_ok g c =
    let D = g.D.Device in
    let j = c.args.self.now in
    let s = g.B.Board.state j.board in
    widened D.moment D.left_since j.log.device j.log.device (StandsFor s.shape (kept D.seen j.log)) (λ x. StandsFor s.shape (kept D.seen j.log) x ⊎ StandsFor s.shape (kept D.seen j.log) x) (stays g (goal.at.returns-then-is_idle-clause-any_moment_ok g c).Then-is_idle) (λ x is. inl is)

pub returns-then-is_idle-clause-runs : goal.returns-then-is_idle-clause-runs
returns-then-is_idle-clause-runs g c =
    let D = g.D.Device in
    let j = c.args.self.now in
    let s = g.B.Board.state j.board in
    let at = (goal.at.returns-then-is_idle-clause-runs g c).Then-is_idle in
    run_sync D.seen D.moment D.left_since s.shape j.log j.log (ap (λ (p : List Operation). holds s.shape p) (sym (all g at))) (none g at)
    (widened D.moment D.left_since j.log.device j.log.device (StandsFor s.shape (kept D.seen j.log)) (λ x. StandsFor s.shape (kept D.seen j.log) x ⊎ StandsFor s.shape (kept D.seen j.log) x) (stays g at) (λ x is. inl is))

pub returns-then-is_idle-clause-cause : goal.returns-then-is_idle-clause-cause
returns-then-is_idle-clause-cause g c = no_fault g.D.Device.seen g.D.Device.has_failed c.args.self.now.dead c.args.self.now.log
