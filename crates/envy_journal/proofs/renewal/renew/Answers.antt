use Rattle.std.proofs.Common.{length}
use Rattle.envy_journal.specs.Snapshot.{limit_of}
use Rattle.envy_journal.proofs.Condensed.{remade}
use Rattle.envy_journal.proofs.Forgotten.{stays_both}
use Rattle.envy_journal.proofs.Gathered.{ok_goes}
use Rattle.envy_journal.proofs.renewal.renew.Goals as goal

pub returns-clause-logged : goal.returns-clause-logged
returns-clause-logged g c =
    let D = g.D.Device in
    let s = g.B.Board.state c.args.board.now in
    ok_goes c.renew_board.result c.renew_board.ensures.remakes (λ is.
    remade D.seen D.may_leave D.left_since D.synced D.bytewise s (g.met.B.Board.lawful c.args.board.now) (limit_of s.shape) c.renew_board.new.log is)

pub returns-clause-counted : goal.returns-clause-counted
returns-clause-counted g c = ok_goes c.renew_board.result c.renew_board.ensures.remakes (λ is. is.counted)

pub returns-clause-short : goal.returns-clause-short
returns-clause-short g c = ok_goes c.renew_board.result c.renew_board.ensures.remakes (λ is. is.size)

pub returns-clause-stays : goal.returns-clause-stays
returns-clause-stays g c =
    let D = g.D.Device in
    stays_both D.seen D.may_leave D.moment D.left_since D.synced c.args.log.now c.renew_segments.new.log c.renew_board.new.log c.renew_segments.ensures.stays c.renew_board.ensures.stays
