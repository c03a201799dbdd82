use Rattle.std.proofs.Common.{refl}
use Rattle.envy_memory.specs.Sheets.{sheet_of}
use Rattle.envy_index_calls.specs.Indexed.{Counts, Leaves}
use Rattle.envy_index_calls.proofs.Lending.{Back, Looked, declined, lent, looks, map-in, started-in, works-back, bad-count, count-left, counts, count-stays}
use Rattle.envy_index_calls.proofs.lookups.count.Goals as goal

pub returns-clause-counts : goal.returns-clause-counts
returns-clause-counts g c =
    let p = c.in-Ok.words.memory in
    let b = c.in-Ok.words.begun in
    let l = lent c.args.slot.now c.words_of.new.slot p b c.in-Ok.ensures.lends in
    let q = c.count-counted.new.words.memory in
    let d = c.count-counted.new.words.begun in
    let back : Back q d = record { shut = c.count-counted.ensures.shut (started-in c.args.slot.now p b l); stands = c.return_words.ensures.shut } in
    let looked : Looked c.args.slot.now p q b d = record { lent = l; works = c.count-counted.ensures.works; back = back } in
    let says = c.count-counted.ensures.counts in
    looks Leaves (Counts c.told_count.new.number) c.args.slot.now c.return_words.new.slot p q b c.told_count.result l c.return_words.ensures.back (works-back p q b d c.count-counted.ensures.works c.count-counted.ensures.spends)
    (count-left c.args.slot.now p q b d c.count-counted.result c.told_count.result c.args.number.now c.told_count.new.number looked c.told_count.ensures c.count-counted.ensures.power (bad-count c.args.slot.now p q b d c.count-counted.result l says))
    (λ es h. counts es (sheet_of p b) (sheet_of q d) c.count-counted.result c.told_count.result c.args.number.now c.told_count.new.number c.told_count.ensures (says es (map-in c.args.slot.now p b es l h)))

pub returns-clause-unwritten : goal.returns-clause-unwritten
returns-clause-unwritten g c = count-stays c.count-counted.result c.told_count.result c.args.number.now c.told_count.new.number c.told_count.ensures

pub returns-in-Err-clause-counts : goal.returns-in-Err-clause-counts
returns-in-Err-clause-counts g c = declined Leaves (Counts c.args.number.now) c.args.slot.now c.words_of.new.slot c.in-Err.code (λ p why. (refl, why)) (λ p why. (refl, why)) (λ es. tt) (λ es. tt) c.in-Err.ensures.lends
