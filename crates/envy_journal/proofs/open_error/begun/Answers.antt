use Rattle.std.proofs.Common.{◌+◌, arith, refl, take}
use Rattle.std.proofs.lemmas.Bool.{false≢true}
use Rattle.envy_journal.specs.declared.log.Log.{Log}
use Rattle.envy_journal.specs.Reading.{operations}
use Rattle.envy_journal.proofs.Batches.{counted_rest}
use Rattle.envy_journal.proofs.Logged.{stands_tied}
use Rattle.envy_journal.proofs.Settled.{logged_begun, done_begun}
use Rattle.envy_journal.proofs.open_error.begun.Goals as goal

pub invariant_of-result : goal.invariant_of-result
invariant_of-result g c =
    let seen = g.D.Device.seen in
    let leave = g.D.Device.may_leave in
    let left = g.D.Device.left_since in
    let moment = g.D.Device.moment in
    let last = g.D.Device.synced in
    let device = c.args.device in
    let r = c.requires in
    let s = g.B.Board.state c.args.board in
    let log : Log g.row.D.Denot = record { device = device; buffer = c.args.buffer; used = 0; gate = c.args.gate; end = c.args.gate + 1; size = c.args.size; zeros = 0; latest = 0; runs = c.args.runs; second = 0; fits = _; few = _ } in
    let is = logged_begun seen leave left moment last log (operations (take c.args.gate (seen device))) r.at_rest refl refl r.leads (g.met.D.Device.only_now device) r.room r.size s r.content r.head in
    record {
      logged = λ alive. is;
      stands = λ sure. stands_tied seen leave left last log s is log s refl refl is.sound.tied;
      ended = λ dead. absurd (false≢true dead);
      counted = λ alive. counted_rest seen leave moment last g.D.Device.bytewise log r.at_rest refl refl refl r.runs;
    }

pub returns-clause-kept : goal.returns-clause-kept
returns-clause-kept g c = refl

pub returns-clause-done : goal.returns-clause-done
returns-clause-done g c =
    let seen = g.D.Device.seen in
    let device = c.args.device in
    let r = c.requires in
    let log : Log g.row.D.Denot = record { device = device; buffer = c.args.buffer; used = 0; gate = c.args.gate; end = c.args.gate + 1; size = c.args.size; zeros = 0; latest = 0; runs = c.args.runs; second = 0; fits = omega arith; few = c.requires.few } in
    done_begun seen g.D.Device.may_leave g.D.Device.left_since g.D.Device.moment g.D.Device.synced log (operations (take c.args.gate (seen device))) r.at_rest refl refl r.leads (g.met.D.Device.only_now device) r.room
