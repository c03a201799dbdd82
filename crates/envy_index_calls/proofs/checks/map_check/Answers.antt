use Rattle.std.proofs.Common.{◌≡◌, ap, sym, subst, ◌∙◌, ◌^◌, ◌≤◌, ◌≢◌, ℕ, List, length, refl}
use Rattle.std.specs.Prelude.{Some, IfErr, OnOk}
use Rattle.envy_array.specs.Words.{Sheet}
use Rattle.envy_memory.specs.Lawful.{lawful_sheet}
use Rattle.envy_memory.specs.Sheets.{sheet_of}
use Rattle.envy_range.specs.Ranges.{within}
use Rattle.envy_btree.specs.Index.{IsIndex}
use Rattle.envy_tree_check.specs.Faults.{Causes}
use Rattle.envy_tree_check.specs.Grown.{Powers}
use Rattle.envy_tree_check.specs.declared.fault.MapFault.TheVariants.{Off as MapOff}
use Rattle.envy_index_calls.specs.Attempts.{view_of}
use Rattle.envy_index_calls.specs.Checked.{Checks}
use Rattle.envy_index_calls.specs.Indexed.{Pairs}
use Rattle.envy_index_calls.specs.Ranges.{IsRange}
use Rattle.envy_index_calls.specs.declared.ranges.Whose.TheVariants.{Any}
use Rattle.envy_index_calls.proofs.Attempting.{Through, size-in, spends-below, through, view-is}
use Rattle.envy_index_calls.proofs.Checking.{checked, check-stays}
use Rattle.envy_index_calls.proofs.Denying.{denied, never-closed}
use Rattle.envy_index_calls.proofs.Ranging.{Back, given, range-in, range-words, words-live}
use Rattle.envy_index_calls.proofs.Returning.{called, in-range}
use Rattle.envy_index_calls.proofs.Viewing.{looked, view-then, works-then}
use Rattle.envy_index_calls.proofs.checks.map_check.Goals as goal

pub of-view-requires-clause-fits : goal.of-view-requires-clause-fits
of-view-requires-clause-fits g c =
    let p = c.in-Ok.words.memory in
    let b = c.in-Ok.words.begun in
    let gv = given Any (Some c.args.range) c.args.place.now c.lend.new.place p b c.in-Ok.ensures in
    IsRange.fits (range-words c.args.range b p (range-in c.args.place.now Any c.args.range p b gv))

pub check-checked-requires : goal.check-checked-requires
check-checked-requires g c =
    let p = c.in-Ok.words.memory in
    let b = c.in-Ok.words.begun in
    let gv = given Any (Some c.args.range) c.args.place.now c.lend.new.place p b c.in-Ok.ensures in
    let fits = range-words c.args.range b p (range-in c.args.place.now Any c.args.range p b gv) in
    let v = c.of-view.result in
    let old = sheet_of p b in
    let lent : sheet_of v.words.memory v.words.begun ≡ old = rw c.of-view.ensures.words refl in
    let ahead = within v.first v.count (sheet_of v.words.memory v.words.begun) in
    let entry : ahead ≡ view_of c.args.range old = view-is c.args.range v.first v.count old (sheet_of v.words.memory v.words.begun) c.of-view.ensures.first c.of-view.ensures.count lent in
    record { size = subst (λ (s : Sheet). length s.words ≤ 2 ^ 29) (sym entry) (size-in c.args.range old fits) }

pub returns-clause-checks : goal.returns-clause-checks
returns-clause-checks g c =
    let p = c.in-Ok.words.memory in
    let b = c.in-Ok.words.begun in
    let gv = given Any (Some c.args.range) c.args.place.now c.lend.new.place p b c.in-Ok.ensures in
    let fits = range-words c.args.range b p (range-in c.args.place.now Any c.args.range p b gv) in
    let v = c.of-view.result in
    let old = sheet_of p b in
    let lent : sheet_of v.words.memory v.words.begun ≡ old = rw c.of-view.ensures.words refl in
    let ahead = within v.first v.count (sheet_of v.words.memory v.words.begun) in
    let entry : ahead ≡ view_of c.args.range old = view-is c.args.range v.first v.count old (sheet_of v.words.memory v.words.begun) c.of-view.ensures.first c.of-view.ensures.count lent in
    let m = c.check-checked.new.words in
    let below = sheet_of m.words.memory m.words.begun in
    let view = within m.first m.count below in
    let q = c.into_words.result.memory in
    let d = c.into_words.result.begun in
    let came : below ≡ sheet_of q d = rw c.into_words.ensures.same refl in
    let looks = c.check-checked.ensures.looks in
    let th : Through c.args.range 0 old below view = through c.args.range m.first m.count 0 old below ahead entry (lawful_sheet p b c.in-Ok.words.few) (lawful_sheet m.words.memory m.words.begun m.words.few) fits looks.works in
    let back : Back q d = record { opened = c.give_back.ensures.opened; shut = c.give_back.ensures.shut } in
    let l = looked c.args.place.now c.args.range p q b d ahead view below gv fits entry th came (λ on. (looks.same on).0) back in
    let then : view ≡ view_of c.args.range (sheet_of q d) = view-then c.args.range old view below (sheet_of q d) th came in
    let done = works-then c.args.range p q b d view below th came (spends-below 0 v.first v.count m.first m.count old (sheet_of v.words.memory v.words.begun) below lent looks.spends) in
    let x = c.check-checked.result in
    let power = subst (λ (s : Sheet). Powers (view_of c.args.range old).words x s) then (subst (λ (s : Sheet). Powers s.words x view) entry c.check-checked.ensures.power) in
    called 0 (Checks c.args.range c.told_check.new.rule) Any (Some c.args.range) c.args.place.now c.give_back.new.place p q b c.told_check.result gv c.give_back.ensures.back done (
    checked c.args.place.now c.args.range p q b d x c.told_check.result c.args.rule.now c.told_check.new.rule l (in-range c.args.range b p (words-live b p gv.held)) c.told_check.ensures power
    (subst (λ (s : Sheet). OnOk x ((es : Pairs) × IsIndex s.words es)) entry c.check-checked.ensures.stands)
    (subst (λ (s : Sheet). IfErr x (λ e. Causes s.words e)) entry c.check-checked.ensures.causes)
    (subst (λ (s : Sheet). IfErr x (λ e. e ≢ MapOff → (es : Pairs) → IsIndex s.words es → ⊥)) entry c.check-checked.ensures.none)
    )

pub returns-clause-unwritten : goal.returns-clause-unwritten
returns-clause-unwritten g c = check-stays c.check-checked.result c.told_check.result c.args.rule.now c.told_check.new.rule c.told_check.ensures

pub returns-in-Err-clause-checks : goal.returns-in-Err-clause-checks
returns-in-Err-clause-checks g c = denied 0 (Checks c.args.range c.args.rule.now) Any (Some c.args.range) c.args.place.now c.lend.new.place c.in-Err.code (λ p. record { off = λ e. e; others = λ e. (refl, e); closed = λ e. absurd (never-closed (Some c.args.range) p e); past = λ e. (refl, e) }) c.in-Err.ensures
