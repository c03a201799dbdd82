use Rattle.std.proofs.Common.{◌≡◌, ◌∙◌, ◌+◌, ◌*◌, length, sym, ap, subst, arith, rules, ℕ}
use Rattle.envy_journal.specs.Condensed.{IsPart}
use Rattle.envy_journal.proofs.Condensed.{remakes_as}
use Rattle.envy_journal.proofs.Forgotten.{stays_both}
use Rattle.envy_journal.proofs.renewal.renew_segments.Goals as goal

pub loop-segment-preserved : goal.loop-segment-preserved
loop-segment-preserved g c =
    let D = g.D.Device in
    record {
      remakes = c.in_ok-renew_segment.ensures.remakes;
      stays = stays_both D.seen D.may_leave D.moment D.left_since D.synced c.args.log.now c.loop-segment.log c.renew_segment.new.log c.loop-segment.invariant.stays c.renew_segment.ensures.stays;
      hindered = c.renew_segment.ensures.hindered ∙ c.loop-segment.invariant.hindered;
    }

pub returns-in_err-renew_segment-clause-stays : goal.returns-in_err-renew_segment-clause-stays
returns-in_err-renew_segment-clause-stays g c =
    let D = g.D.Device in
    stays_both D.seen D.may_leave D.moment D.left_since D.synced c.args.log.now c.loop-segment.log c.renew_segment.new.log c.loop-segment.invariant.stays c.renew_segment.ensures.stays

pub returns-clause-remakes : goal.returns-clause-remakes
returns-clause-remakes g c =
    let D = g.D.Device in
    let s = g.B.Board.state c.args.board.now in
    let board = g.met.B.Board.lawful c.args.board.now in
    let is = c.loop-segment.invariant.remakes in
    let n = c.loop-segment.segment in
    let all : n ≡ s.shape.segments = search rules in
    let rows : n * s.shape.rows ≡ length s.flash = ap (λ (k : ℕ). k * s.shape.rows) all ∙ sym board.rows in
    remakes_as D.seen D.may_leave D.left_since D.synced D.bytewise s (n * s.shape.rows) 0 0 (5 * n) c.loop-segment.log is (length s.flash) 0 0 (5 * s.shape.segments)
    (subst (λ (k : ℕ). IsPart s k 0 0 is.board) rows is.part) (omega (arith, all))
