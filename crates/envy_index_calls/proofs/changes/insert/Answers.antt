use Rattle.std.proofs.Common.{ℕ, ◌*◌, subst, arith}
use Rattle.std.specs.Prelude.{◌&&◌}
use Rattle.envy_array.specs.Words.{Spends}
use Rattle.envy_base.specs.declared.page.TheConstants.{PAGE_WORDS}
use Rattle.envy_memory.specs.Lawful.{words_long}
use Rattle.envy_memory.specs.Sheets.{sheet_of}
use Rattle.envy_btree.specs.Answers.{insert_puts}
use Rattle.envy_index_calls.specs.Indexed.{Inserts, MayServe}
use Rattle.envy_index_calls.proofs.Lending.{Back, Lent, lent, some-map, map-in, asks, keeps-back, inserts, old-stays, size-in}
use Rattle.envy_index_calls.proofs.changes.insert.Goals as goal

pub insert-inserted-requires-clause-size : goal.insert-inserted-requires-clause-size
insert-inserted-requires-clause-size g c =
    let p = c.in-Ok.words.memory in
    let b = c.in-Ok.words.begun in
    let l = lent c.args.slot.now c.words_of.new.slot p b c.in-Ok.ensures.lends in
    size-in c.args.slot.now p b l

pub insert-inserted-requires-clause-room : goal.insert-inserted-requires-clause-room
insert-inserted-requires-clause-room g c =
    let p = c.in-Ok.words.memory in
    let b = c.in-Ok.words.begun in
    let l = lent c.args.slot.now c.words_of.new.slot p b c.in-Ok.ensures.lends in
    omega (arith, MayServe.shadows (Lent.may l))

pub insert-inserted-requires-clause-map : goal.insert-inserted-requires-clause-map
insert-inserted-requires-clause-map g c =
    let p = c.in-Ok.words.memory in
    let b = c.in-Ok.words.begun in
    let l = lent c.args.slot.now c.words_of.new.slot p b c.in-Ok.ensures.lends in
    let m = some-map c.args.slot.now p b l c.requires in
    (m.0, map-in c.args.slot.now p b m.0 l m.1)

pub returns-clause-inserts : goal.returns-clause-inserts
returns-clause-inserts g c =
    let p = c.in-Ok.words.memory in
    let b = c.in-Ok.words.begun in
    let l = lent c.args.slot.now c.words_of.new.slot p b c.in-Ok.ensures.lends in
    let q = c.insert-inserted.new.words.memory in
    let d = c.insert-inserted.new.words.begun in
    let back : Back q d = record { shut = c.insert-inserted.ensures.shut; stands = c.return_words.ensures.shut } in
    asks insert_puts (Inserts c.args.key c.args.value c.told_insert.new.before) c.args.slot.now c.return_words.new.slot p q b c.told_insert.result l c.return_words.ensures.back (keeps-back (insert_puts (PAGE_WORDS * p.chart.shape.pages)) p q b d c.insert-inserted.ensures.keeps (subst (λ (n : ℕ). Spends (insert_puts n) (sheet_of p b) (sheet_of q d)) (words_long (p.chart.on && b) p.chart) c.insert-inserted.ensures.spends)) (λ es h. inserts c.args.key c.args.value es c.args.slot.now p q b d c.insert-inserted.result c.told_insert.result c.args.before.now c.told_insert.new.before l back c.told_insert.ensures (c.insert-inserted.ensures.inserts es (map-in c.args.slot.now p b es l h)))

pub returns-clause-unwritten : goal.returns-clause-unwritten
returns-clause-unwritten g c = old-stays c.insert-inserted.result c.told_insert.result c.args.before.now c.told_insert.new.before c.told_insert.ensures
