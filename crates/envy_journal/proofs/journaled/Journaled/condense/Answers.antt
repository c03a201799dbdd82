use Rattle.std.proofs.Common.{◌≡◌, ◌∷◌, ◌++◌, [], refl, sym, ◌∙◌, ap, arith, length, ℕ, List}
use Rattle.std.proofs.lemmas.Bool.{false≢true}
use Rattle.envy_journal.specs.Content.{holds}
use Rattle.envy_journal.specs.Head.{StandsFor}
use Rattle.envy_journal.specs.Journal.{done, kept}
use Rattle.envy_journal.specs.Log.{Begins, kept_bytes}
use Rattle.envy_journal.specs.Reading.{operations}
use Rattle.envy_journal.proofs.Caused.{by_end, cause_on, ended_by, no_fault}
use Rattle.envy_journal.proofs.Condensed.{spilled_few}
use Rattle.envy_journal.proofs.Forgotten.{stays_none}
use Rattle.envy_journal.proofs.Logged.{crash_kept, stands_tied}
use Rattle.envy_journal.proofs.Moments.{widened}
use Rattle.envy_journal.proofs.Ran.{run_held}
use Rattle.envy_journal.proofs.journaled.Journaled.condense.Goals as goal

pub invariant_of-self : goal.invariant_of-self
invariant_of-self g c =
    let D = g.D.Device in
    let j = c.args.self.now in
    let s = g.B.Board.state j.board in
    let stays = c.condensed.ensures.stays in
    record {
      logged = λ alive. c.in-Ok.ensures.logged;
      stands = λ sure. stands_tied D.seen D.may_leave D.left_since D.synced j.log s (j.logged c.if-self.false) c.condensed.new.log s stays.kept refl stays.tied;
      ended = λ dead. absurd (false≢true (sym c.if-self.false ∙ dead));
      counted = λ alive. c.in-Ok.ensures.counted;
    }

pub invariant_of-self-in-Err : goal.invariant_of-self-in-Err
invariant_of-self-in-Err g c =
    let D = g.D.Device in
    let j = c.args.self.now in
    let s = g.B.Board.state j.board in
    let stays = c.condensed.ensures.stays in
    record {
      logged = λ alive. absurd (false≢true (sym alive));
      stands = λ sure. stands_tied D.seen D.may_leave D.left_since D.synced j.log s (j.logged c.if-self.false) c.condensed.new.log s stays.kept refl stays.tied;
      ended = λ dead. ended_by D.seen D.has_failed c.condensed.new.log c.in-Err.error c.in-Err.ensures.cause;
      counted = λ alive. absurd (false≢true (sym alive));
    }

pub returns-then-not-is_heavy-clause-any_moment : goal.returns-then-not-is_heavy-clause-any_moment
returns-then-not-is_heavy-clause-any_moment g c = λ alive.
    let D = g.D.Device in
    let j = c.args.self.now in
    let s = g.B.Board.state j.board in
    let is = j.logged alive in
    let none = stays_none D.seen D.may_leave D.moment D.left_since D.synced j.log is.sound (g.met.D.Device.only_now j.log.device) in
    widened D.moment D.left_since j.log.device j.log.device (Begins (kept_bytes D.seen j.log ++ 0 ∷ [])) (StandsFor s.shape (kept D.seen j.log)) none.moments (crash_kept D.seen D.may_leave D.left_since D.synced j.log s is)

pub returns-then-not-is_heavy-clause-runs : goal.returns-then-not-is_heavy-clause-runs
returns-then-not-is_heavy-clause-runs g c =
    let D = g.D.Device in
    let j = c.args.self.now in
    let s = g.B.Board.state j.board in
    run_held D.seen D.moment D.left_since s.shape j.log j.log [] refl refl (returns-then-not-is_heavy-clause-any_moment g c c.if-self.false)

pub returns-in-Ok-clause-any_moment : goal.returns-in-Ok-clause-any_moment
returns-in-Ok-clause-any_moment g c = λ alive.
    let D = g.D.Device in
    let j = c.args.self.now in
    let s = g.B.Board.state j.board in
    let stays = c.condensed.ensures.stays in
    widened D.moment D.left_since j.log.device c.condensed.new.log.device (Begins (kept_bytes D.seen j.log ++ 0 ∷ [])) (StandsFor s.shape (kept D.seen j.log)) stays.moments (crash_kept D.seen D.may_leave D.left_since D.synced j.log s (j.logged alive))

pub returns-in-Err-clause-any_moment : goal.returns-in-Err-clause-any_moment
returns-in-Err-clause-any_moment g c = λ alive.
    let D = g.D.Device in
    let j = c.args.self.now in
    let s = g.B.Board.state j.board in
    let stays = c.condensed.ensures.stays in
    widened D.moment D.left_since j.log.device c.condensed.new.log.device (Begins (kept_bytes D.seen j.log ++ 0 ∷ [])) (StandsFor s.shape (kept D.seen j.log)) stays.moments (crash_kept D.seen D.may_leave D.left_since D.synced j.log s (j.logged alive))

pub returns-in-Ok-clause-kept : goal.returns-in-Ok-clause-kept
returns-in-Ok-clause-kept g c = let stays = c.condensed.ensures.stays in ap operations stays.kept

pub returns-in-Ok-clause-same : goal.returns-in-Ok-clause-same
returns-in-Ok-clause-same g c =
    let was = c.args.self.now.logged c.if-self.false in
    let now = c.in-Ok.ensures.logged in
    sym now.content ∙ was.content

pub returns-in-Ok-clause-short : goal.returns-in-Ok-clause-short
returns-in-Ok-clause-short g c =
    let D = g.D.Device in
    let now = c.in-Ok.ensures.logged in
    spilled_few D.seen D.may_leave D.left_since D.synced c.condensed.new.log now.sound _ c.in-Ok.ensures.short

pub returns-in-Ok-clause-runs : goal.returns-in-Ok-clause-runs
returns-in-Ok-clause-runs g c =
    let D = g.D.Device in
    let j = c.args.self.now in
    let s = g.B.Board.state j.board in
    run_held D.seen D.moment D.left_since s.shape j.log c.condensed.new.log [] (returns-in-Ok-clause-same g c) (returns-in-Ok-clause-kept g c) (returns-in-Ok-clause-any_moment g c c.if-self.false)

pub returns-then-self-clause-cause : goal.returns-then-self-clause-cause
returns-then-self-clause-cause g c = by_end g.D.Device.seen g.D.Device.has_failed c.args.self.now.dead c.args.self.now.log c.if-self.true

pub returns-then-not-is_heavy-clause-cause : goal.returns-then-not-is_heavy-clause-cause
returns-then-not-is_heavy-clause-cause g c = no_fault g.D.Device.seen g.D.Device.has_failed c.args.self.now.dead c.args.self.now.log

pub returns-in-Ok-clause-cause : goal.returns-in-Ok-clause-cause
returns-in-Ok-clause-cause g c = no_fault g.D.Device.seen g.D.Device.has_failed c.args.self.now.dead c.condensed.new.log

pub returns-in-Err-clause-cause : goal.returns-in-Err-clause-cause
returns-in-Err-clause-cause g c = cause_on g.D.Device.seen g.D.Device.has_failed c.condensed.new.log c.args.self.now.dead _ c.in-Err.ensures.cause
