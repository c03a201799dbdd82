use Rattle.std.proofs.Common.{◌∙◌, Err, ap, arith, refl, sym}
use Rattle.std.proofs.lemmas.Bool.{false≢true}
use Rattle.envy_journal.specs.Snapshot.{IsUntouched}
use Rattle.envy_journal.proofs.Batches.{counted_rest}
use Rattle.envy_journal.proofs.Compacted.{crash_compacted, crash_kept_now, kept_compacted, logged_compacted, stands_compacted}
use Rattle.envy_journal.proofs.Logged.{stands_tied}
use Rattle.envy_journal.proofs.Resumed.{aside_counted, aside_held, aside_kept, aside_moments, aside_sound, logged_same}
use Rattle.envy_journal.proofs.journaled.Journaled.replace.Goals as goal

pub invariant_of-self : goal.invariant_of-self
invariant_of-self g c =
    let D = g.D.Device in
    let j = c.args.self.now in
    let s = g.B.Board.state j.board in
    let is = c.in-Ok.ensures in
    let new = c.rewrite.new.log in
    record {
      logged = λ alive. logged_compacted D.seen D.may_leave D.left_since D.synced j.log s (j.logged c.requires.alive) D.moment new is.rest.0 is.rest.1 is.rest.2 is.leads is.file is.size (g.met.D.Device.only_now new.device) c.rewrite.ensures.room;
      stands = λ sure. stands_compacted D.seen D.may_leave D.left_since D.synced j.log s (j.logged c.requires.alive) D.moment new is.rest.0 is.rest.1 is.rest.2 is.leads is.file is.size (g.met.D.Device.only_now new.device) c.rewrite.ensures.room;
      ended = λ dead. absurd (false≢true (sym c.requires.alive ∙ dead));
      counted = λ alive. counted_rest D.seen D.may_leave D.moment D.synced D.bytewise new is.rest.0 is.rest.1 is.rest.2 is.rest.3 (λ may. is.runs);
    }

pub invariant_of-self-in-Err-Second : goal.invariant_of-self-in-Err-Second
invariant_of-self-in-Err-Second g c =
    let D = g.D.Device in
    let j = c.args.self.now in
    let s = g.B.Board.state j.board in
    let was = j.logged c.requires.alive in
    let sound = was.sound in
    let is = c.in-Err-Second.ensures in
    let quiet : IsUntouched D.seen D.may_leave D.moment D.left_since D.synced D.bytewise j.log.device c.rewrite.new.log.device = is.untouched (ap Err c.in-Err-Second.field-0-is) in
    let new = c.rewrite.new.log in
    let now = aside_sound D.seen D.may_leave D.left_since D.synced j.log new sound D.moment D.bytewise is.aside.0 c.requires.spilled is.aside.1 quiet (g.met.D.Device.synced_before j.log.device) was.room in
    let same = aside_kept D.seen D.may_leave D.left_since D.synced j.log new sound D.moment D.bytewise is.aside.0 c.requires.spilled is.aside.1 quiet in
    record {
      logged = λ alive. logged_same D.seen D.may_leave D.left_since D.synced j.log new same (aside_held D.seen D.may_leave D.left_since D.synced j.log new sound D.moment D.bytewise is.aside.0 c.requires.spilled is.aside.1 quiet) s was now c.rewrite.ensures.room;
      stands = λ sure. stands_tied D.seen D.may_leave D.left_since D.synced j.log s was new s same refl now.tied;
      ended = λ dead. absurd (false≢true (sym c.requires.alive ∙ dead));
      counted = λ alive. aside_counted D.seen D.may_leave D.left_since D.synced j.log new sound D.moment D.bytewise is.aside.0 c.requires.spilled is.aside.1 quiet (j.counted c.requires.alive);
    }

pub invariant_of-self-in-Err-Failed : goal.invariant_of-self-in-Err-Failed
invariant_of-self-in-Err-Failed g c = record {
  logged = λ alive. absurd (false≢true (sym alive));
  stands = λ sure. absurd (false≢true (sym sure));
  ended = λ dead small. c.in-Err-Failed.ensures.failed (ap Err c.in-Err-Failed.field-0-is);
  counted = λ alive. absurd (false≢true (sym alive));
}

pub returns-in-Ok-clause-ok : goal.returns-in-Ok-clause-ok
returns-in-Ok-clause-ok g c =
    let D = g.D.Device in
    let j = c.args.self.now in
    let is = c.in-Ok.ensures in
    let new = c.rewrite.new.log in
    kept_compacted D.seen D.may_leave D.left_since D.synced j.log (g.B.Board.state j.board) (j.logged c.requires.alive) D.moment new is.rest.0 is.rest.1 is.rest.2 is.leads is.file is.size (g.met.D.Device.only_now new.device) c.rewrite.ensures.room
    j.dead j.dead c.requires.alive c.requires.alive

pub returns-in-Ok-clause-any_moment_ok : goal.returns-in-Ok-clause-any_moment_ok
returns-in-Ok-clause-any_moment_ok g c =
    let D = g.D.Device in
    let j = c.args.self.now in
    let is = c.in-Ok.ensures in
    let new = c.rewrite.new.log in
    crash_kept_now D.seen D.may_leave D.left_since D.synced j.log (g.B.Board.state j.board) (j.logged c.requires.alive) D.moment new is.rest.0 is.rest.1 is.rest.2 is.leads is.file is.size (g.met.D.Device.only_now new.device) c.rewrite.ensures.room is.any_moment_ok

pub returns-in-Err-Second-clause-same : goal.returns-in-Err-Second-clause-same
returns-in-Err-Second-clause-same g c = λ e.
    let D = g.D.Device in
    let j = c.args.self.now in
    let was = j.logged c.requires.alive in
    let sound = was.sound in
    let is = c.in-Err-Second.ensures in
    let aside = is.aside.0 in
    let quiet : IsUntouched D.seen D.may_leave D.moment D.left_since D.synced D.bytewise j.log.device c.rewrite.new.log.device = is.untouched (ap Err c.in-Err-Second.field-0-is) in
    let new = c.rewrite.new.log in (
      c.requires.alive,
      aside_kept D.seen D.may_leave D.left_since D.synced j.log new sound D.moment D.bytewise is.aside.0 c.requires.spilled is.aside.1 quiet,
      aside_held D.seen D.may_leave D.left_since D.synced j.log new sound D.moment D.bytewise is.aside.0 c.requires.spilled is.aside.1 quiet,
      omega (arith, aside.end, is.aside.1, c.requires.spilled),
      aside.size,
    )

pub returns-in-Err-Second-clause-any_moment_same : goal.returns-in-Err-Second-clause-any_moment_same
returns-in-Err-Second-clause-any_moment_same g c = λ e.
    let D = g.D.Device in
    let j = c.args.self.now in
    let quiet : IsUntouched D.seen D.may_leave D.moment D.left_since D.synced D.bytewise j.log.device c.rewrite.new.log.device = c.in-Err-Second.ensures.untouched (ap Err c.in-Err-Second.field-0-is) in
    aside_moments D.seen D.may_leave D.left_since D.synced D.moment j.log c.rewrite.new.log (g.B.Board.state j.board) (j.logged c.requires.alive) quiet.moments

pub returns-in-Ok-clause-any_moment : goal.returns-in-Ok-clause-any_moment
returns-in-Ok-clause-any_moment g c =
    let D = g.D.Device in
    let j = c.args.self.now in
    crash_compacted D.seen D.may_leave D.left_since D.synced j.log (g.B.Board.state j.board) (j.logged c.requires.alive) D.moment c.rewrite.new.log.device c.rewrite.ensures.any_moment

pub returns-in-Err-Second-clause-any_moment : goal.returns-in-Err-Second-clause-any_moment
returns-in-Err-Second-clause-any_moment g c =
    let D = g.D.Device in
    let j = c.args.self.now in
    crash_compacted D.seen D.may_leave D.left_since D.synced j.log (g.B.Board.state j.board) (j.logged c.requires.alive) D.moment c.rewrite.new.log.device c.rewrite.ensures.any_moment

pub returns-in-Err-Failed-clause-any_moment : goal.returns-in-Err-Failed-clause-any_moment
returns-in-Err-Failed-clause-any_moment g c =
    let D = g.D.Device in
    let j = c.args.self.now in
    crash_compacted D.seen D.may_leave D.left_since D.synced j.log (g.B.Board.state j.board) (j.logged c.requires.alive) D.moment c.rewrite.new.log.device c.rewrite.ensures.any_moment

pub returns-in-Ok-clause-size : goal.returns-in-Ok-clause-size
returns-in-Ok-clause-size g c =
    let rest = c.in-Ok.ensures.rest in
    let at_rest = rest.0 in
    omega (arith, at_rest.within, rest.1, rest.2)
