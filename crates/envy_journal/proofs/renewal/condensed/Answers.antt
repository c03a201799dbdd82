use Rattle.envy_journal.proofs.Condensed.{remakes_none}
use Rattle.envy_journal.proofs.Forgotten.{stays_both}
use Rattle.envy_journal.proofs.renewal.condensed.Goals as goal

pub renew-requires : goal.renew-requires
renew-requires g c =
    let D = g.D.Device in
    let s = g.B.Board.state c.args.board.now in
    let did = c.in_ok-forget.ensures in
    let stays = c.forget.ensures.stays in
    record { remakes = remakes_none D.seen D.may_leave D.left_since D.synced D.bytewise s (g.met.B.Board.lawful c.args.board.now) c.args.log.now c.forget.new.self c.requires.logged did.sound did.counted did.none stays.kept c.forget.ensures.room }

pub returns-clause-stays : goal.returns-clause-stays
returns-clause-stays g c =
    let D = g.D.Device in
    stays_both D.seen D.may_leave D.moment D.left_since D.synced c.args.log.now c.forget.new.self c.renew.new.log c.forget.ensures.stays c.renew.ensures.stays
