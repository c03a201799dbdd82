use Rattle.std.proofs.Common.{◌≡◌, ◌∙◌, ◌+◌, ◌*◌, ◌≤◌, length, sym, ap, subst, arith, rules, ℕ}
use Rattle.envy_base.specs.Map.{words_of}
use Rattle.envy_base.specs.Shape.{IsShape}
use Rattle.envy_base.specs.declared.shape.Shape.{Shape}
use Rattle.envy_journal.specs.Condensed.{IsPart}
use Rattle.envy_journal.specs.Snapshot.{limit_of}
use Rattle.envy_journal.proofs.Condensed.{few_enough, remakes_as}
use Rattle.envy_journal.proofs.Forgotten.{stays_both}
use Rattle.envy_journal.proofs.renewal.renew_words.Goals as goal

pub words-w-end-requires : goal.words-w-end-requires
words-w-end-requires g c =
    let s = g.B.Board.state c.args.board.now in
    let board = g.met.B.Board.lawful c.args.board.now in
    subst IsShape (sym c.shape.ensures) board.shape

pub loop-w-preserved : goal.loop-w-preserved
loop-w-preserved g c =
    let D = g.D.Device in
    record {
      remakes = c.in_ok-renew_word.ensures.remakes;
      stays = stays_both D.seen D.may_leave D.moment D.left_since D.synced c.args.log.now c.loop-w.log c.renew_word.new.log c.loop-w.invariant.stays c.renew_word.ensures.stays;
      hindered = c.renew_word.ensures.hindered ∙ c.loop-w.invariant.hindered;
    }

pub returns-in_err-renew_word-clause-stays : goal.returns-in_err-renew_word-clause-stays
returns-in_err-renew_word-clause-stays g c =
    let D = g.D.Device in
    stays_both D.seen D.may_leave D.moment D.left_since D.synced c.args.log.now c.loop-w.log c.renew_word.new.log c.loop-w.invariant.stays c.renew_word.ensures.stays

pub returns-clause-remakes : goal.returns-clause-remakes
returns-clause-remakes g c =
    let D = g.D.Device in
    let s = g.B.Board.state c.args.board.now in
    let board = g.met.B.Board.lawful c.args.board.now in
    let is = c.loop-w.invariant.remakes in
    let n = c.loop-w.w in
    let few = 5 * s.shape.segments + 261 * length s.flash in
    let words : c.words-w-end.result ≡ words_of s.shape = c.words-w-end.ensures ∙ ap (λ (sh : Shape). words_of sh) c.shape.ensures in
    let end : n ≡ c.words-w-end.result = search rules in
    let all : n ≡ length s.sram = end ∙ words ∙ sym board.sram in
    remakes_as D.seen D.may_leave D.left_since D.synced D.bytewise s (length s.flash) (length s.flash) n (few + 13 * n) c.loop-w.log is (length s.flash) (length s.flash) (length s.sram) (limit_of s.shape)
    (subst (λ (k : ℕ). IsPart s (length s.flash) (length s.flash) k is.board) all is.part) (few_enough s board n all)
