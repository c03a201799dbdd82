use Rattle.std.proofs.Common.{◌≡◌, ap, sym, subst, ◌∙◌, ℕ, List, refl, arith, true, length}
use Rattle.std.specs.Prelude.{Some, Ok, Result}
use Rattle.envy_array.specs.Words.{Sheet}
use Rattle.envy_btree.specs.Depths.{insertion_puts}
use Rattle.envy_memory.specs.Sheets.{sheet_of}
use Rattle.envy_btree.specs.Index.{IsIndex}
use Rattle.envy_calls.specs.declared.code.Code.{Code}
use Rattle.envy_index_calls.specs.Attempts.{view_of}
use Rattle.envy_index_calls.specs.Indexed.{Pairs}
use Rattle.envy_index_calls.specs.Ranged.{Changed, HoldsMapIn, Sets}
use Rattle.envy_index_calls.specs.Ranges.{words_in}
use Rattle.envy_index_calls.specs.declared.ranges.Whose.TheVariants.{Slot}
use Rattle.envy_index_calls.proofs.Denying.{Stays, denied}
use Rattle.envy_index_calls.proofs.Ranging.{Back, and-on, begun-own, given, on-held, range-in, range-words, room-held, words-live}
use Rattle.envy_index_calls.proofs.Returning.{called, insert-changes, sets, set-stays, held-map, in-range, left-is, steady-back}
use Rattle.envy_index_calls.proofs.edits.map_insert.Goals as goal

pub insert_in-tried-requires-clause-begun : goal.insert_in-tried-requires-clause-begun
insert_in-tried-requires-clause-begun g c =
    let p = c.in-Ok.words.memory in
    let b = c.in-Ok.words.begun in
    let gv = given (Slot c.args.slot) (Some c.args.range) c.args.place.now c.lend.new.place p b c.in-Ok.ensures in
    let words = words-live b p gv.held in
    let own = begun-own c.args.place.now c.args.slot (Some c.args.range) p b gv in
    let fits = range-in c.args.place.now (Slot c.args.slot) c.args.range p b gv in
    and-on p.chart.on b (on-held b p gv.held) own

pub insert_in-tried-requires-clause-room : goal.insert_in-tried-requires-clause-room
insert_in-tried-requires-clause-room g c = room-held c.in-Ok.words.memory c.in-Ok.words.begun c.left-left.result c.left-left.ensures

pub insert_in-tried-requires-clause-range : goal.insert_in-tried-requires-clause-range
insert_in-tried-requires-clause-range g c =
    let p = c.in-Ok.words.memory in
    let b = c.in-Ok.words.begun in
    let gv = given (Slot c.args.slot) (Some c.args.range) c.args.place.now c.lend.new.place p b c.in-Ok.ensures in
    let words = words-live b p gv.held in
    let own = begun-own c.args.place.now c.args.slot (Some c.args.range) p b gv in
    let fits = range-in c.args.place.now (Slot c.args.slot) c.args.range p b gv in
    range-words c.args.range b p fits

pub insert_in-tried-requires-clause-map : goal.insert_in-tried-requires-clause-map
insert_in-tried-requires-clause-map g c =
    let p = c.in-Ok.words.memory in
    let b = c.in-Ok.words.begun in
    let gv = given (Slot c.args.slot) (Some c.args.range) c.args.place.now c.lend.new.place p b c.in-Ok.ensures in
    let words = words-live b p gv.held in
    let own = begun-own c.args.place.now c.args.slot (Some c.args.range) p b gv in
    let fits = range-in c.args.place.now (Slot c.args.slot) c.args.range p b gv in
    held-map c.args.place.now (Slot c.args.slot) c.args.range p b gv fits words c.requires

pub returns-clause-inserts : goal.returns-clause-inserts
returns-clause-inserts g c =
    let p = c.in-Ok.words.memory in
    let b = c.in-Ok.words.begun in
    let gv = given (Slot c.args.slot) (Some c.args.range) c.args.place.now c.lend.new.place p b c.in-Ok.ensures in
    let words = words-live b p gv.held in
    let own = begun-own c.args.place.now c.args.slot (Some c.args.range) p b gv in
    let fits = range-in c.args.place.now (Slot c.args.slot) c.args.range p b gv in
    let q = c.insert_in-tried.result.0.memory in
    let d = c.insert_in-tried.result.0.begun in
    let back : Back q d = record { opened = c.give_back.ensures.opened; shut = c.give_back.ensures.shut } in
    let e = c.insert_in-tried.ensures in
    called (insertion_puts c.args.range.words) (Changed c.args.slot c.args.range (Sets c.args.key c.args.value c.told_insert.new.before c.args.range)) (Slot c.args.slot) (Some c.args.range) c.args.place.now c.give_back.new.place p q b c.told_insert.result gv c.give_back.ensures.back (steady-back (insertion_puts c.args.range.words) p q b d e.steady e.spends) (
      insert-changes c.args.slot c.args.range p q b d c.insert_in-tried.result.1 c.told_insert.result _ _ words back c.told_insert.ensures e.attempts,
      λ es map. sets c.args.key c.args.value es c.args.range c.left-left.result p q b d c.insert_in-tried.result.1 c.told_insert.result _ _ words back (left-is p c.left-left.result c.left-left.ensures) c.told_insert.ensures (e.inserts es (subst (λ (ws : List ℕ). IsIndex ws es) (sym (in-range c.args.range b p words)) map)),
    )

pub returns-clause-unwritten : goal.returns-clause-unwritten
returns-clause-unwritten g c = set-stays c.insert_in-tried.result.1 c.told_insert.result _ _ c.told_insert.ensures

pub returns-in-Err-clause-inserts : goal.returns-in-Err-clause-inserts
returns-in-Err-clause-inserts g c = denied (insertion_puts c.args.range.words) (Changed c.args.slot c.args.range (Sets c.args.key c.args.value c.args.before.now c.args.range)) (Slot c.args.slot) (Some c.args.range) c.args.place.now c.lend.new.place c.in-Err.code (λ p. record { off = λ e. (e, λ es map. tt); others = λ e. ((refl, e), λ es map. tt); closed = λ e. ((refl, e), λ es map. tt); past = λ e. ((refl, e), λ es map. tt) }) c.in-Err.ensures
