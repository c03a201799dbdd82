use Rattle.std.proofs.Common.{◌≡◌, ap, sym, subst, ◌∙◌, ℕ, List, refl, arith}
use Rattle.std.specs.Prelude.{Some, Ok, Result}
use Rattle.envy_index_calls.specs.Indexed.{creation_puts}
use Rattle.envy_index_calls.specs.Ranged.{CreatesIn}
use Rattle.envy_index_calls.specs.declared.ranges.Whose.TheVariants.{Slot}
use Rattle.envy_index_calls.proofs.Denying.{Stays, denied}
use Rattle.envy_index_calls.proofs.Ranging.{Back, and-on, begun-own, given, on-held, range-in, range-words, room-held, words-live}
use Rattle.envy_index_calls.proofs.Returning.{called, left-is, made-changes, made-map, steady-back}
use Rattle.envy_index_calls.proofs.edits.map_create.Goals as goal

pub create_in-tried-requires-clause-begun : goal.create_in-tried-requires-clause-begun
create_in-tried-requires-clause-begun g c =
    let p = c.in-Ok.words.memory in
    let b = c.in-Ok.words.begun in
    let gv = given (Slot c.args.slot) (Some c.args.range) c.args.place.now c.lend.new.place p b c.in-Ok.ensures in
    let words = words-live b p gv.held in
    let own = begun-own c.args.place.now c.args.slot (Some c.args.range) p b gv in
    let fits = range-in c.args.place.now (Slot c.args.slot) c.args.range p b gv in
    and-on p.chart.on b (on-held b p gv.held) own

pub create_in-tried-requires-clause-room : goal.create_in-tried-requires-clause-room
create_in-tried-requires-clause-room g c = room-held c.in-Ok.words.memory c.in-Ok.words.begun c.left-left.result c.left-left.ensures

pub create_in-tried-requires-clause-range : goal.create_in-tried-requires-clause-range
create_in-tried-requires-clause-range g c =
    let p = c.in-Ok.words.memory in
    let b = c.in-Ok.words.begun in
    let gv = given (Slot c.args.slot) (Some c.args.range) c.args.place.now c.lend.new.place p b c.in-Ok.ensures in
    let words = words-live b p gv.held in
    let own = begun-own c.args.place.now c.args.slot (Some c.args.range) p b gv in
    let fits = range-in c.args.place.now (Slot c.args.slot) c.args.range p b gv in
    range-words c.args.range b p fits

pub returns : goal.returns
returns g c =
    let p = c.in-Ok.words.memory in
    let b = c.in-Ok.words.begun in
    let gv = given (Slot c.args.slot) (Some c.args.range) c.args.place.now c.lend.new.place p b c.in-Ok.ensures in
    let words = words-live b p gv.held in
    let own = begun-own c.args.place.now c.args.slot (Some c.args.range) p b gv in
    let fits = range-in c.args.place.now (Slot c.args.slot) c.args.range p b gv in
    let q = c.create_in-tried.result.0.memory in
    let d = c.create_in-tried.result.0.begun in
    let back : Back q d = record { opened = c.give_back.ensures.opened; shut = c.give_back.ensures.shut } in
    let e = c.create_in-tried.ensures in
    called creation_puts (CreatesIn c.args.slot c.args.range) (Slot c.args.slot) (Some c.args.range) c.args.place.now c.give_back.new.place p q b c.told_made.result gv c.give_back.ensures.back (steady-back creation_puts p q b d e.steady e.spends)
    (made-changes c.args.slot c.args.range c.left-left.result p q b d c.create_in-tried.result.1 c.told_made.result words back (left-is p c.left-left.result c.left-left.ensures) e.refused c.told_made.ensures e.attempts (made-map c.args.range p q b d c.create_in-tried.result.1 (range-words c.args.range b p fits) words back e.attempts e.marks))

pub returns-in-Err : goal.returns-in-Err
returns-in-Err g c = denied creation_puts (CreatesIn c.args.slot c.args.range) (Slot c.args.slot) (Some c.args.range) c.args.place.now c.lend.new.place c.in-Err.code (λ p. record { off = λ e. e; others = λ e. (refl, e); closed = λ e. (refl, e); past = λ e. (refl, e) }) c.in-Err.ensures
