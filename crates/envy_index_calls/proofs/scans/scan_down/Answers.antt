use Rattle.std.proofs.Common.{refl, ◌≡◌, ◌≤◌, ℕ, length, drop}
use Rattle.envy_btree.specs.Answers.{IsWritten}
use Rattle.envy_btree.specs.Nearest.{pairs_to}
use Rattle.envy_index_calls.specs.Indexed.{Leaves, Pairs, Scans}
use Rattle.envy_index_calls.specs.Scanned.{pairs_in}
use Rattle.envy_index_calls.proofs.Lending.{Back, Looked, declined, lent, looks, map-in, started-in, shut-after, works-back, bad-scan, count-left, count-stays, done-within, scans, size-in}
use Rattle.envy_index_calls.proofs.scans.scan_down.Goals as goal

pub fill-filled-requires : goal.fill-filled-requires
fill-filled-requires g c =
    let p = c.in-Ok.words.memory in
    let b = c.in-Ok.words.begun in
    let l = lent c.args.slot.now c.words_of.new.slot p b c.in-Ok.ensures.lends in
    record { size = size-in c.args.slot.now p b l }

pub returns-clause-scans : goal.returns-clause-scans
returns-clause-scans g c =
    let p = c.in-Ok.words.memory in
    let b = c.in-Ok.words.begun in
    let l = lent c.args.slot.now c.words_of.new.slot p b c.in-Ok.ensures.lends in
    let q = c.fill-filled.new.words.memory in
    let d = c.fill-filled.new.words.begun in
    let saw = c.fill-filled.ensures.looks in
    let back : Back q d = record { shut = shut-after p q b d saw.works (started-in c.args.slot.now p b l); stands = c.return_words.ensures.shut } in
    let looked : Looked c.args.slot.now p q b d = record { lent = l; works = saw.works; back = back } in
    let was = c.args.out.now in
    let now = c.fill-filled.new.out in
    let wrote = λ (es : Pairs) (n : ℕ). IsWritten (pairs_to c.args.key es) (pairs_in was) (pairs_in now) n in
    looks Leaves (Scans (pairs_to c.args.key) was now c.told.new.count) c.args.slot.now c.return_words.new.slot p q b c.told.result l c.return_words.ensures.back (works-back p q b d saw.works saw.spends)
    (count-left c.args.slot.now p q b d c.fill-filled.result c.told.result c.args.count.now c.told.new.count looked c.told.ensures c.fill-filled.ensures.power (bad-scan wrote c.args.slot.now p b c.fill-filled.result l c.fill-filled.ensures.scans))
    (λ es h. scans (pairs_to c.args.key) was now es c.fill-filled.result c.told.result c.args.count.now c.told.new.count c.told.ensures (c.fill-filled.ensures.scans es (map-in c.args.slot.now p b es l h)))

pub returns-clause-few : goal.returns-clause-few
returns-clause-few g c = done-within (λ (n : ℕ). n ≤ length c.args.out.now) c.fill-filled.result c.told.result c.args.count.now c.told.new.count c.told.ensures c.fill-filled.ensures.few

pub returns-clause-rest : goal.returns-clause-rest
returns-clause-rest g c = done-within (λ (n : ℕ). drop n (pairs_in c.fill-filled.new.out) ≡ drop n (pairs_in c.args.out.now)) c.fill-filled.result c.told.result c.args.count.now c.told.new.count c.told.ensures c.fill-filled.ensures.rest

pub returns-clause-unwritten : goal.returns-clause-unwritten
returns-clause-unwritten g c = count-stays c.fill-filled.result c.told.result c.args.count.now c.told.new.count c.told.ensures

pub returns-in-Err-clause-scans : goal.returns-in-Err-clause-scans
returns-in-Err-clause-scans g c = declined Leaves (Scans (pairs_to c.args.key) c.args.out.now c.args.out.now c.args.count.now) c.args.slot.now c.words_of.new.slot c.in-Err.code (λ p why. (refl, why)) (λ p why. (refl, why)) (λ es. tt) (λ es. tt) c.in-Err.ensures.lends
