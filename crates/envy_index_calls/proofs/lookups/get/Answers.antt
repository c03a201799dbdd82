use Rattle.std.proofs.Common.{refl}
use Rattle.envy_memory.specs.Sheets.{sheet_of}
use Rattle.envy_index_calls.specs.Indexed.{Gets, LeavesOrMisses}
use Rattle.envy_index_calls.proofs.Lending.{Back, Looked, declined, lent, looks, map-in, started-in, works-back, bad-value, value-left, gets, value-stays, size-in}
use Rattle.envy_index_calls.proofs.lookups.get.Goals as goal

pub get-found-requires : goal.get-found-requires
get-found-requires g c =
    let p = c.in-Ok.words.memory in
    let b = c.in-Ok.words.begun in
    let l = lent c.args.slot.now c.words_of.new.slot p b c.in-Ok.ensures.lends in
    record { size = size-in c.args.slot.now p b l }

pub returns-clause-gets : goal.returns-clause-gets
returns-clause-gets g c =
    let p = c.in-Ok.words.memory in
    let b = c.in-Ok.words.begun in
    let l = lent c.args.slot.now c.words_of.new.slot p b c.in-Ok.ensures.lends in
    let q = c.get-found.new.words.memory in
    let d = c.get-found.new.words.begun in
    let back : Back q d = record { shut = c.get-found.ensures.shut (started-in c.args.slot.now p b l); stands = c.return_words.ensures.shut } in
    let looked : Looked c.args.slot.now p q b d = record { lent = l; works = c.get-found.ensures.works; back = back } in
    let says = c.get-found.ensures.gets in
    looks LeavesOrMisses (Gets c.args.key c.told_value.new.value) c.args.slot.now c.return_words.new.slot p q b c.told_value.result l c.return_words.ensures.back (works-back p q b d c.get-found.ensures.works c.get-found.ensures.spends)
    (value-left c.args.slot.now p q b d c.get-found.result c.told_value.result c.args.value.now c.told_value.new.value looked c.told_value.ensures c.get-found.ensures.power (bad-value c.args.key c.args.slot.now p q b d c.get-found.result l says))
    (λ es h. gets c.args.key es (sheet_of p b) (sheet_of q d) c.get-found.result c.told_value.result c.args.value.now c.told_value.new.value c.told_value.ensures (says es (map-in c.args.slot.now p b es l h)))

pub returns-clause-unwritten : goal.returns-clause-unwritten
returns-clause-unwritten g c = value-stays c.get-found.result c.told_value.result c.args.value.now c.told_value.new.value c.told_value.ensures

pub returns-in-Err-clause-gets : goal.returns-in-Err-clause-gets
returns-in-Err-clause-gets g c = declined LeavesOrMisses (Gets c.args.key c.args.value.now) c.args.slot.now c.words_of.new.slot c.in-Err.code (λ p why. (refl, why)) (λ p why. (refl, why)) (λ es. tt) (λ es. tt) c.in-Err.ensures.lends
