use Rattle.std.proofs.Common.{refl}
use Rattle.envy_btree.specs.Nearest.{IsGreatestTo}
use Rattle.envy_index_calls.specs.Indexed.{Finds, LeavesOrMisses}
use Rattle.envy_index_calls.proofs.Lending.{Back, Looked, declined, lent, looks, map-in, started-in, works-back, bad-pair, pair-left, finds, pair-stays, size-in}
use Rattle.envy_index_calls.proofs.lookups.last.Goals as goal

pub last-found-requires : goal.last-found-requires
last-found-requires g c =
    let p = c.in-Ok.words.memory in
    let b = c.in-Ok.words.begun in
    let l = lent c.args.slot.now c.words_of.new.slot p b c.in-Ok.ensures.lends in
    record { size = size-in c.args.slot.now p b l }

pub returns-clause-finds : goal.returns-clause-finds
returns-clause-finds g c =
    let p = c.in-Ok.words.memory in
    let b = c.in-Ok.words.begun in
    let l = lent c.args.slot.now c.words_of.new.slot p b c.in-Ok.ensures.lends in
    let q = c.last-found.new.words.memory in
    let d = c.last-found.new.words.begun in
    let back : Back q d = record { shut = c.last-found.ensures.shut (started-in c.args.slot.now p b l); stands = c.return_words.ensures.shut } in
    let looked : Looked c.args.slot.now p q b d = record { lent = l; works = c.last-found.ensures.works; back = back } in
    let says = c.last-found.ensures.finds in
    looks LeavesOrMisses (Finds (IsGreatestTo c.args.key) c.told_pair.new.pair) c.args.slot.now c.return_words.new.slot p q b c.told_pair.result l c.return_words.ensures.back (works-back p q b d c.last-found.ensures.works c.last-found.ensures.spends)
    (pair-left c.args.slot.now p q b d c.last-found.result c.told_pair.result c.args.pair.now c.told_pair.new.pair looked c.told_pair.ensures c.last-found.ensures.power (bad-pair (IsGreatestTo c.args.key) c.args.slot.now p q b d c.last-found.result l says))
    (λ es h. finds (IsGreatestTo c.args.key) es p q b d c.last-found.result c.told_pair.result c.args.pair.now c.told_pair.new.pair c.told_pair.ensures (says es (map-in c.args.slot.now p b es l h)))

pub returns-clause-unwritten : goal.returns-clause-unwritten
returns-clause-unwritten g c = pair-stays c.last-found.result c.told_pair.result c.args.pair.now c.told_pair.new.pair c.told_pair.ensures

pub returns-in-Err-clause-finds : goal.returns-in-Err-clause-finds
returns-in-Err-clause-finds g c = declined LeavesOrMisses (Finds (IsGreatestTo c.args.key) c.args.pair.now) c.args.slot.now c.words_of.new.slot c.in-Err.code (λ p why. (refl, why)) (λ p why. (refl, why)) (λ es. tt) (λ es. tt) c.in-Err.ensures.lends
