use Rattle.std.proofs.Common.{ℕ, ◌*◌, subst, arith}
use Rattle.std.specs.Prelude.{◌&&◌}
use Rattle.envy_array.specs.Words.{Spends}
use Rattle.envy_base.specs.declared.page.TheConstants.{PAGE_WORDS}
use Rattle.envy_memory.specs.Lawful.{words_long}
use Rattle.envy_memory.specs.Sheets.{sheet_of}
use Rattle.envy_btree.specs.Answers.{removal_puts}
use Rattle.envy_index_calls.specs.Indexed.{Removes, MayServe}
use Rattle.envy_index_calls.proofs.Lending.{Back, Lent, lent, some-map, map-in, asks, keeps-back, removes, removed-stays, size-in}
use Rattle.envy_index_calls.proofs.changes.remove.Goals as goal

pub remove-removed-requires-clause-size : goal.remove-removed-requires-clause-size
remove-removed-requires-clause-size g c =
    let p = c.in-Ok.words.memory in
    let b = c.in-Ok.words.begun in
    let l = lent c.args.slot.now c.words_of.new.slot p b c.in-Ok.ensures.lends in
    size-in c.args.slot.now p b l

pub remove-removed-requires-clause-room : goal.remove-removed-requires-clause-room
remove-removed-requires-clause-room g c =
    let p = c.in-Ok.words.memory in
    let b = c.in-Ok.words.begun in
    let l = lent c.args.slot.now c.words_of.new.slot p b c.in-Ok.ensures.lends in
    omega (arith, MayServe.shadows (Lent.may l))

pub remove-removed-requires-clause-map : goal.remove-removed-requires-clause-map
remove-removed-requires-clause-map g c =
    let p = c.in-Ok.words.memory in
    let b = c.in-Ok.words.begun in
    let l = lent c.args.slot.now c.words_of.new.slot p b c.in-Ok.ensures.lends in
    let m = some-map c.args.slot.now p b l c.requires in
    (m.0, map-in c.args.slot.now p b m.0 l m.1)

pub returns-clause-removes : goal.returns-clause-removes
returns-clause-removes g c =
    let p = c.in-Ok.words.memory in
    let b = c.in-Ok.words.begun in
    let l = lent c.args.slot.now c.words_of.new.slot p b c.in-Ok.ensures.lends in
    let q = c.remove-removed.new.words.memory in
    let d = c.remove-removed.new.words.begun in
    let back : Back q d = record { shut = c.remove-removed.ensures.shut; stands = c.return_words.ensures.shut } in
    asks removal_puts (Removes c.args.key c.told_removal.new.value) c.args.slot.now c.return_words.new.slot p q b c.told_removal.result l c.return_words.ensures.back (keeps-back (removal_puts (PAGE_WORDS * p.chart.shape.pages)) p q b d c.remove-removed.ensures.keeps (subst (λ (n : ℕ). Spends (removal_puts n) (sheet_of p b) (sheet_of q d)) (words_long (p.chart.on && b) p.chart) c.remove-removed.ensures.spends)) (λ es h. removes c.args.key es p q b d c.remove-removed.result c.told_removal.result c.args.value.now c.told_removal.new.value back c.told_removal.ensures (c.remove-removed.ensures.removes es (map-in c.args.slot.now p b es l h)))

pub returns-clause-unwritten : goal.returns-clause-unwritten
returns-clause-unwritten g c = removed-stays c.remove-removed.result c.told_removal.result c.args.value.now c.told_removal.new.value c.told_removal.ensures
