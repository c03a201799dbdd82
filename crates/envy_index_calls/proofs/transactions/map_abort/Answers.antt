use Rattle.std.proofs.Common.{◌≡◌, ap, sym, subst, ◌∙◌, refl}
use Rattle.std.specs.Prelude.{None}
use Rattle.envy_calls.specs.declared.code.Code.{Code}
use Rattle.envy_index_calls.specs.Ranged.{Aborts}
use Rattle.envy_index_calls.specs.declared.ranges.Whose.TheVariants.{Slot}
use Rattle.envy_index_calls.proofs.Denying.{Stays, denied, never-range}
use Rattle.envy_index_calls.proofs.Ranging.{Back, and-on, begun-own, given, on-held, words-live}
use Rattle.envy_index_calls.proofs.Returning.{called, keeps-steady, undone-back}
use Rattle.envy_index_calls.proofs.transactions.map_abort.Goals as goal

pub undo-ended-requires : goal.undo-ended-requires
undo-ended-requires g c =
    let p = c.in-Ok.words.memory in
    let b = c.in-Ok.words.begun in
    let gv = given (Slot c.args.slot) (None) c.args.place.now c.lend.new.place p b c.in-Ok.ensures in
    let words = words-live b p gv.held in
    and-on p.chart.on b (on-held b p gv.held) (begun-own c.args.place.now c.args.slot None p b gv)

pub returns : goal.returns
returns g c =
    let p = c.in-Ok.words.memory in
    let b = c.in-Ok.words.begun in
    let gv = given (Slot c.args.slot) (None) c.args.place.now c.lend.new.place p b c.in-Ok.ensures in
    let words = words-live b p gv.held in
    let q = c.undo-ended.new.self.memory in
    let d = c.undo-ended.new.self.begun in
    let back : Back q d = record { opened = c.give_back.ensures.opened; shut = c.give_back.ensures.shut } in
    called 0 (Aborts c.args.slot) (Slot c.args.slot) None c.args.place.now c.give_back.new.place p q b c.told.result gv c.give_back.ensures.back (keeps-steady 0 p q b d c.undo-ended.ensures.keeps c.undo-ended.ensures.spends)
    (subst (λ (k : Code). Aborts c.args.slot p q k) (sym c.told.ensures) (undone-back c.args.slot p q b d c.undo-ended.result back c.undo-ended.ensures.answer))

pub returns-in-Err : goal.returns-in-Err
returns-in-Err g c = denied 0 (Aborts c.args.slot) (Slot c.args.slot) None c.args.place.now c.lend.new.place c.in-Err.code (λ p. record { off = λ e. e; others = λ e. (refl, e); closed = λ e. (refl, e); past = λ e. absurd (never-range (Slot c.args.slot) p e) }) c.in-Err.ensures
