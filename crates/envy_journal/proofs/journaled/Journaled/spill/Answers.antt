use Rattle.std.proofs.Common.{◌∷◌, ◌++◌, [], refl, sym, ◌∙◌}
use Rattle.std.proofs.lemmas.Bool.{false≢true}
use Rattle.envy_journal.specs.Head.{StandsFor}
use Rattle.envy_journal.specs.Journal.{kept}
use Rattle.envy_journal.specs.Log.{Begins, kept_bytes}
use Rattle.envy_journal.proofs.Caused.{by_end, cause_on, ended_by, no_fault}
use Rattle.envy_journal.proofs.Logged.{crash_kept, stands_tied}
use Rattle.envy_journal.proofs.Moments.{widened}
use Rattle.envy_journal.proofs.Resumed.{logged_same}
use Rattle.envy_journal.proofs.Sized.{size_same}
use Rattle.envy_journal.proofs.journaled.Journaled.spill.Goals as goal

pub invariant_of-self : goal.invariant_of-self
invariant_of-self g c =
    let D = g.D.Device in
    let j = c.args.self.now in
    let s = g.B.Board.state j.board in
    let new = c.spill.new.self in
    let ok = c.in-Ok.ensures.ok in
    let same = c.spill.ensures.kept in
    record {
      logged = λ alive. logged_same D.seen D.may_leave D.left_since D.synced j.log new same ok.1 s (j.logged alive) ok.0 c.spill.ensures.room;
      stands = λ sure. stands_tied D.seen D.may_leave D.left_since D.synced j.log s (j.logged c.if-self.false) new s same refl c.spill.ensures.tied;
      ended = λ dead. absurd (false≢true (sym c.if-self.false ∙ dead));
      counted = λ alive. c.in-Ok.ensures.counted;
    }

pub invariant_of-self-in-Err : goal.invariant_of-self-in-Err
invariant_of-self-in-Err g c =
    let D = g.D.Device in
    let j = c.args.self.now in
    let s = g.B.Board.state j.board in
    record {
      logged = λ alive. absurd (false≢true (sym alive));
      stands = λ sure. stands_tied D.seen D.may_leave D.left_since D.synced j.log s (j.logged c.if-self.false) c.spill.new.self s c.spill.ensures.kept refl c.spill.ensures.tied;
      ended = λ dead. ended_by D.seen D.has_failed c.spill.new.self c.in-Err.error c.in-Err.ensures.cause;
      counted = λ alive. absurd (false≢true (sym alive));
    }

pub returns-in-Ok-clause-size : goal.returns-in-Ok-clause-size
returns-in-Ok-clause-size g c =
    let D = g.D.Device in
    let j = c.args.self.now in
    let is = j.logged c.if-self.false in
    let ok = c.in-Ok.ensures.ok in
    (size_same D.seen D.may_leave D.left_since D.synced j.log c.spill.new.self is.sound ok.0 c.spill.ensures.kept ok.1, c.in-Ok.ensures.size.2)

pub returns-in-Ok-clause-any_moment : goal.returns-in-Ok-clause-any_moment
returns-in-Ok-clause-any_moment g c = λ alive.
    let D = g.D.Device in
    let j = c.args.self.now in
    let s = g.B.Board.state j.board in
    widened D.moment D.left_since j.log.device c.spill.new.self.device (Begins (kept_bytes D.seen j.log ++ 0 ∷ [])) (StandsFor s.shape (kept D.seen j.log)) c.spill.ensures.any_moment (crash_kept D.seen D.may_leave D.left_since D.synced j.log s (j.logged alive))

pub returns-in-Err-clause-any_moment : goal.returns-in-Err-clause-any_moment
returns-in-Err-clause-any_moment g c = λ alive.
    let D = g.D.Device in
    let j = c.args.self.now in
    let s = g.B.Board.state j.board in
    widened D.moment D.left_since j.log.device c.spill.new.self.device (Begins (kept_bytes D.seen j.log ++ 0 ∷ [])) (StandsFor s.shape (kept D.seen j.log)) c.spill.ensures.any_moment (crash_kept D.seen D.may_leave D.left_since D.synced j.log s (j.logged alive))

pub returns-in-Ok-clause-cause : goal.returns-in-Ok-clause-cause
returns-in-Ok-clause-cause g c = no_fault g.D.Device.seen g.D.Device.has_failed c.args.self.now.dead c.spill.new.self

pub returns-in-Err-clause-cause : goal.returns-in-Err-clause-cause
returns-in-Err-clause-cause g c = cause_on g.D.Device.seen g.D.Device.has_failed c.spill.new.self c.args.self.now.dead _ c.in-Err.ensures.cause

pub returns-then-self-clause-cause : goal.returns-then-self-clause-cause
returns-then-self-clause-cause g c = by_end g.D.Device.seen g.D.Device.has_failed c.args.self.now.dead c.args.self.now.log c.if-self.true
