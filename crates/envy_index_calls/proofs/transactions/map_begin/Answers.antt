use Rattle.std.proofs.Common.{◌≡◌, ap, sym, subst, ◌∙◌, false, true, refl}
use Rattle.std.specs.Prelude.{None, ◌&&◌}
use Rattle.envy_calls.specs.declared.code.Code.{Code}
use Rattle.envy_index_calls.specs.Ranged.{Starts}
use Rattle.envy_index_calls.specs.declared.ranges.Whose.TheVariants.{New}
use Rattle.envy_index_calls.proofs.Denying.{Stays, denied, never-closed-new, never-range}
use Rattle.envy_index_calls.proofs.Ranging.{Back, given, shut-started, shut-new, words-live}
use Rattle.envy_index_calls.proofs.Returning.{begun-code, begun-slot, begun-stays, called, keeps-steady, started-back}
use Rattle.envy_index_calls.proofs.transactions.map_begin.Goals as goal

pub start-begun-requires : goal.start-begun-requires
start-begun-requires g c =
    let p = c.in-Ok.words.memory in
    let b = c.in-Ok.words.begun in
    let gv = given (New) (None) c.args.place.now c.lend.new.place p b c.in-Ok.ensures in
    let words = words-live b p gv.held in
    shut-started p b (shut-new c.args.place.now None p b gv)

pub returns-clause-starts : goal.returns-clause-starts
returns-clause-starts g c =
    let p = c.in-Ok.words.memory in
    let b = c.in-Ok.words.begun in
    let gv = given (New) (None) c.args.place.now c.lend.new.place p b c.in-Ok.ensures in
    let words = words-live b p gv.held in
    let q = c.start-begun.new.self.memory in
    let d = c.start-begun.new.self.begun in
    let back : Back q d = record { opened = c.give_back.ensures.opened; shut = c.give_back.ensures.shut } in
    called 1 Starts New None c.args.place.now c.give_back.new.place p q b c.told_begun.result gv c.give_back.ensures.back (keeps-steady 1 p q b d c.start-begun.ensures.keeps c.start-begun.ensures.spends)
    (subst (λ (k : Code). Starts p q k) (sym (begun-code c.start-begun.result c.told_begun.result c.args.slot.now c.told_begun.new.slot c.told_begun.ensures)) (started-back p q b d c.start-begun.result words back c.start-begun.ensures.answer))

pub returns-clause-first : goal.returns-clause-first
returns-clause-first g c = begun-slot c.start-begun.result c.told_begun.result c.args.slot.now c.told_begun.new.slot c.told_begun.ensures

pub returns-clause-unwritten : goal.returns-clause-unwritten
returns-clause-unwritten g c = begun-stays c.start-begun.result c.told_begun.result c.args.slot.now c.told_begun.new.slot c.told_begun.ensures

pub returns-in-Err-clause-starts : goal.returns-in-Err-clause-starts
returns-in-Err-clause-starts g c = denied 1 Starts New None c.args.place.now c.lend.new.place c.in-Err.code (λ p. record { off = λ e. e; others = λ e. (refl, e); closed = λ e. absurd (never-closed-new None p e); past = λ e. absurd (never-range New p e) }) c.in-Err.ensures
