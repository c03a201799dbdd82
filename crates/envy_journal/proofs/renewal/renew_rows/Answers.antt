use Rattle.std.proofs.Common.{◌≡◌, ◌∙◌, ◌+◌, ◌*◌, length, sym, ap, subst, arith, rules, ℕ}
use Rattle.envy_base.specs.declared.shape.Shape.{Shape}
use Rattle.envy_journal.specs.Condensed.{IsPart}
use Rattle.envy_journal.proofs.Condensed.{remakes_as}
use Rattle.envy_journal.proofs.Forgotten.{stays_both}
use Rattle.envy_journal.proofs.renewal.renew_rows.Goals as goal

pub loop-row-preserved : goal.loop-row-preserved
loop-row-preserved g c =
    let D = g.D.Device in
    record {
      remakes = c.in_ok-renew_row.ensures.remakes;
      stays = stays_both D.seen D.may_leave D.moment D.left_since D.synced c.args.log.now c.loop-row.log c.renew_row.new.log c.loop-row.invariant.stays c.renew_row.ensures.stays;
      hindered = c.renew_row.ensures.hindered ∙ c.loop-row.invariant.hindered;
    }

pub returns-in_err-renew_row-clause-stays : goal.returns-in_err-renew_row-clause-stays
returns-in_err-renew_row-clause-stays g c =
    let D = g.D.Device in
    stays_both D.seen D.may_leave D.moment D.left_since D.synced c.args.log.now c.loop-row.log c.renew_row.new.log c.loop-row.invariant.stays c.renew_row.ensures.stays

pub returns-clause-remakes : goal.returns-clause-remakes
returns-clause-remakes g c =
    let D = g.D.Device in
    let s = g.B.Board.state c.args.board.now in
    let board = g.met.B.Board.lawful c.args.board.now in
    let is = c.loop-row.invariant.remakes in
    let n = c.loop-row.row in
    let few = 5 * s.shape.segments in
    let end : n ≡ s.shape.segments * s.shape.rows = search rules in
    let all : n ≡ length s.flash = end ∙ sym board.rows in
    remakes_as D.seen D.may_leave D.left_since D.synced D.bytewise s (length s.flash) n 0 (few + 261 * n) c.loop-row.log is (length s.flash) (length s.flash) 0 (few + 261 * length s.flash)
    (subst (λ (k : ℕ). IsPart s (length s.flash) k 0 is.board) all is.part) (omega (arith, all))
