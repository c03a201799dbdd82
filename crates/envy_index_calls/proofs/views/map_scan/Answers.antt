use Rattle.std.proofs.Common.{◌≡◌, ap, sym, subst, ◌∙◌, ◌^◌, ◌≤◌, ℕ, List, length, drop, refl}
use Rattle.std.specs.Prelude.{Some, Option}
use Rattle.envy_array.specs.Words.{Sheet}
use Rattle.envy_memory.specs.Lawful.{lawful_sheet}
use Rattle.envy_memory.specs.Sheets.{sheet_of}
use Rattle.envy_range.specs.Ranges.{within}
use Rattle.envy_btree.specs.Answers.{IsWritten}
use Rattle.envy_btree.specs.Index.{IsIndex}
use Rattle.envy_btree.specs.Looking.{Powers}
use Rattle.envy_btree.specs.Nearest.{pairs_from, pairs_to}
use Rattle.envy_index_calls.specs.Attempts.{view_of}
use Rattle.envy_index_calls.specs.Indexed.{Scans}
use Rattle.envy_index_calls.specs.Ranged.{Kept}
use Rattle.envy_index_calls.specs.Ranges.{IsRange}
use Rattle.envy_index_calls.specs.Scanned.{pairs_in}
use Rattle.envy_index_calls.specs.declared.ranges.Whose.TheVariants.{Any}
use Rattle.envy_index_calls.proofs.Attempting.{Through, size-in, spends-below, through, view-is}
use Rattle.envy_index_calls.proofs.Denying.{Stays, denied, never-closed}
use Rattle.envy_index_calls.proofs.Lending.{scans, count-stays, done-within}
use Rattle.envy_index_calls.proofs.Ranging.{Back, given, range-in, range-words}
use Rattle.envy_index_calls.proofs.Returning.{called}
use Rattle.envy_index_calls.proofs.Viewing.{index-in, looked, never-scan, count-keeps, view-then, works-then}
use Rattle.envy_index_calls.proofs.views.map_scan.Goals as goal

pub of-view-requires-clause-fits : goal.of-view-requires-clause-fits
of-view-requires-clause-fits g c =
    let p = c.in-Ok.words.memory in
    let b = c.in-Ok.words.begun in
    let gv = given Any (Some c.args.range) c.args.place.now c.lend.new.place p b c.in-Ok.ensures in
    IsRange.fits (range-words c.args.range b p (range-in c.args.place.now Any c.args.range p b gv))

pub fill-filled-requires : goal.fill-filled-requires
fill-filled-requires g c =
    let p = c.in-Ok.words.memory in
    let b = c.in-Ok.words.begun in
    let gv = given Any (Some c.args.range) c.args.place.now c.lend.new.place p b c.in-Ok.ensures in
    let fits = range-words c.args.range b p (range-in c.args.place.now Any c.args.range p b gv) in
    let v = c.of-view.result in
    let old = sheet_of p b in
    let lent : sheet_of v.words.memory v.words.begun ≡ old = rw c.of-view.ensures.words refl in
    let ahead = within v.first v.count (sheet_of v.words.memory v.words.begun) in
    let entry : ahead ≡ view_of c.args.range old = view-is c.args.range v.first v.count old (sheet_of v.words.memory v.words.begun) c.of-view.ensures.first c.of-view.ensures.count lent in
    record { size = subst (λ (s : Sheet). length s.words ≤ 2 ^ 29) (sym entry) (size-in c.args.range old fits) }

pub returns-clause-scans : goal.returns-clause-scans
returns-clause-scans g c =
    let p = c.in-Ok.words.memory in
    let b = c.in-Ok.words.begun in
    let gv = given Any (Some c.args.range) c.args.place.now c.lend.new.place p b c.in-Ok.ensures in
    let fits = range-words c.args.range b p (range-in c.args.place.now Any c.args.range p b gv) in
    let v = c.of-view.result in
    let old = sheet_of p b in
    let lent : sheet_of v.words.memory v.words.begun ≡ old = rw c.of-view.ensures.words refl in
    let ahead = within v.first v.count (sheet_of v.words.memory v.words.begun) in
    let entry : ahead ≡ view_of c.args.range old = view-is c.args.range v.first v.count old (sheet_of v.words.memory v.words.begun) c.of-view.ensures.first c.of-view.ensures.count lent in
    let m = c.fill-filled.new.words in
    let below = sheet_of m.words.memory m.words.begun in
    let view = within m.first m.count below in
    let q = c.into_words.result.memory in
    let d = c.into_words.result.begun in
    let came : below ≡ sheet_of q d = rw c.into_words.ensures.same refl in
    let th : Through c.args.range 0 old below view = through c.args.range m.first m.count 0 old below ahead entry (lawful_sheet p b c.in-Ok.words.few) (lawful_sheet m.words.memory m.words.begun m.words.few) fits c.fill-filled.ensures.looks.works in
    let back : Back q d = record { opened = c.give_back.ensures.opened; shut = c.give_back.ensures.shut } in
    let l = looked c.args.place.now c.args.range p q b d ahead view below gv fits entry th came (λ on. (c.fill-filled.ensures.looks.same on).0) back in
    let then : view ≡ view_of c.args.range (sheet_of q d) = view-then c.args.range old view below (sheet_of q d) th came in
    let done = works-then c.args.range p q b d view below th came (spends-below 0 v.first v.count m.first m.count old (sheet_of v.words.memory v.words.begun) below lent c.fill-filled.ensures.looks.spends) in
    called 0 (Kept c.args.range (Scans (pairs_from c.args.key) c.args.out.now c.fill-filled.new.out c.told.new.count)) Any (Some c.args.range) c.args.place.now c.give_back.new.place p q b c.told.result gv c.give_back.ensures.back done (
      count-keeps c.args.place.now c.args.range p q b d c.fill-filled.result c.told.result c.args.count.now c.told.new.count l c.told.ensures (subst (λ (s : Sheet). Powers c.fill-filled.result s) then c.fill-filled.ensures.power) (λ is es map. never-scan (λ (n : ℕ). IsWritten (pairs_from c.args.key es) (pairs_in c.args.out.now) (pairs_in c.fill-filled.new.out) n) c.fill-filled.result (c.fill-filled.ensures.scans es (subst (λ (s : Sheet). IsIndex s.words es) (sym entry) (index-in c.args.place.now c.args.range p b es gv map))) is),
      λ es map. scans (pairs_from c.args.key) c.args.out.now c.fill-filled.new.out es c.fill-filled.result c.told.result c.args.count.now c.told.new.count c.told.ensures (c.fill-filled.ensures.scans es (subst (λ (s : Sheet). IsIndex s.words es) (sym entry) (index-in c.args.place.now c.args.range p b es gv map))),
    )

pub returns-clause-unwritten : goal.returns-clause-unwritten
returns-clause-unwritten g c = count-stays c.fill-filled.result c.told.result c.args.count.now c.told.new.count c.told.ensures

pub returns-in-Err-clause-scans : goal.returns-in-Err-clause-scans
returns-in-Err-clause-scans g c = denied 0 (Kept c.args.range (Scans (pairs_from c.args.key) c.args.out.now c.args.out.now c.args.count.now)) Any (Some c.args.range) c.args.place.now c.lend.new.place c.in-Err.code (λ p. record { off = λ e. (e, λ es map. tt); others = λ e. ((refl, e), λ es map. tt); closed = λ e. absurd (never-closed (Some c.args.range) p e); past = λ e. ((refl, e), λ es map. tt) }) c.in-Err.ensures

pub returns-clause-few : goal.returns-clause-few
returns-clause-few g c = done-within (λ (n : ℕ). n ≤ length c.args.out.now) c.fill-filled.result c.told.result c.args.count.now c.told.new.count c.told.ensures c.fill-filled.ensures.few

pub returns-clause-rest : goal.returns-clause-rest
returns-clause-rest g c = done-within (λ (n : ℕ). drop n (pairs_in c.fill-filled.new.out) ≡ drop n (pairs_in c.args.out.now)) c.fill-filled.result c.told.result c.args.count.now c.told.new.count c.told.ensures c.fill-filled.ensures.rest
