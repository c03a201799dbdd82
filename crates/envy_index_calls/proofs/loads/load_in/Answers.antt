use Rattle.std.proofs.Common.{ℕ, ◌≡◌, ◌+◌, ◌*◌, ◌-◌, ◌/◌, ◌^◌, ◌≤◌, ◌∙◌, false, ap, length, sym, subst, arith}
use Rattle.envy_array.specs.Words.{Sheet, Spends}
use Rattle.envy_btree.specs.Depths.{insertion_pages, most_levels}
use Rattle.envy_btree.specs.Index.{most_pairs}
use Rattle.envy_range.specs.Lawful.{inside-long}
use Rattle.envy_range.specs.Ranges.{outside, within}
use Rattle.envy_index_calls.specs.Attempts.{Steady, view_of}
use Rattle.envy_index_calls.specs.Loading.{LoadsNew, load_puts}
use Rattle.envy_index_calls.specs.Ranges.{IsRange}
use Rattle.envy_index_calls.specs.Scanned.{pairs_in}
use Rattle.envy_index_calls.proofs.Attempting.{least-in, size-in, spends-below, view-is}
use Rattle.envy_index_calls.proofs.Storing.{Kept, kept-through}
use Rattle.envy_index_calls.proofs.loads.load_in.Goals as goal

pub load_new-loaded-requires-clause-shut : goal.load_new-loaded-requires-clause-shut
load_new-loaded-requires-clause-shut g c =
    let old = g.W.Words.sheet c.args.words in
    let v = c.of-view.result in
    let ahead = within v.first v.count (g.W.Words.sheet v.words) in
    let entry : ahead ≡ view_of c.args.range old = view-is c.args.range v.first v.count old (g.W.Words.sheet v.words) c.of-view.ensures.first c.of-view.ensures.count (ap g.W.Words.sheet c.of-view.ensures.words) in
    subst (λ (s : Sheet). s.started ≡ false) (sym entry) c.requires.shut

pub load_new-loaded-requires-clause-room : goal.load_new-loaded-requires-clause-room
load_new-loaded-requires-clause-room g c =
    let old = g.W.Words.sheet c.args.words in
    let v = c.of-view.result in
    let ahead = within v.first v.count (g.W.Words.sheet v.words) in
    let entry : ahead ≡ view_of c.args.range old = view-is c.args.range v.first v.count old (g.W.Words.sheet v.words) c.of-view.ensures.first c.of-view.ensures.count (ap g.W.Words.sheet c.of-view.ensures.words) in
    subst (λ (s : Sheet). insertion_pages (most_levels (length s.words)) ≤ s.room) (sym entry) (subst (λ (n : ℕ). insertion_pages (most_levels n) ≤ old.room) (sym (inside-long c.args.range.first c.args.range.words old.words (IsRange.fits c.requires.range))) c.requires.room)

pub load_new-loaded-requires-clause-least : goal.load_new-loaded-requires-clause-least
load_new-loaded-requires-clause-least g c =
    let old = g.W.Words.sheet c.args.words in
    let v = c.of-view.result in
    let ahead = within v.first v.count (g.W.Words.sheet v.words) in
    let entry : ahead ≡ view_of c.args.range old = view-is c.args.range v.first v.count old (g.W.Words.sheet v.words) c.of-view.ensures.first c.of-view.ensures.count (ap g.W.Words.sheet c.of-view.ensures.words) in
    subst (λ (s : Sheet). 640 ≤ length s.words) (sym entry) (least-in c.args.range old c.requires.range)

pub load_new-loaded-requires-clause-size : goal.load_new-loaded-requires-clause-size
load_new-loaded-requires-clause-size g c =
    let old = g.W.Words.sheet c.args.words in
    let v = c.of-view.result in
    let ahead = within v.first v.count (g.W.Words.sheet v.words) in
    let entry : ahead ≡ view_of c.args.range old = view-is c.args.range v.first v.count old (g.W.Words.sheet v.words) c.of-view.ensures.first c.of-view.ensures.count (ap g.W.Words.sheet c.of-view.ensures.words) in
    subst (λ (s : Sheet). length s.words ≤ 2 ^ 29) (sym entry) (size-in c.args.range old c.requires.range)

pub load_new-loaded-requires-clause-few : goal.load_new-loaded-requires-clause-few
load_new-loaded-requires-clause-few g c =
    let old = g.W.Words.sheet c.args.words in
    let v = c.of-view.result in
    let ahead = within v.first v.count (g.W.Words.sheet v.words) in
    let entry : ahead ≡ view_of c.args.range old = view-is c.args.range v.first v.count old (g.W.Words.sheet v.words) c.of-view.ensures.first c.of-view.ensures.count (ap g.W.Words.sheet c.of-view.ensures.words) in
    subst (λ (s : Sheet). length c.args.pairs.now ≤ most_pairs s.words) (sym entry) (subst (λ (n : ℕ). length c.args.pairs.now ≤ 14 * ((n - 64) / 64 - 8)) (sym (inside-long c.args.range.first c.args.range.words old.words (IsRange.fits c.requires.range))) c.requires.few)

pub returns-clause-shut : goal.returns-clause-shut
returns-clause-shut g c = subst (λ (s : Sheet). s.started ≡ false) (sym (ap g.W.Words.sheet c.into_words.ensures.same)) c.load_new-loaded.ensures.shut

pub returns-clause-steady : goal.returns-clause-steady
returns-clause-steady g c =
    let old = g.W.Words.sheet c.args.words in
    let v = c.of-view.result in
    let m = c.load_new-loaded.new.words in
    let mid = g.W.Words.sheet m.words in
    let ahead = within v.first v.count (g.W.Words.sheet v.words) in
    let entry : ahead ≡ view_of c.args.range old = view-is c.args.range v.first v.count old (g.W.Words.sheet v.words) c.of-view.ensures.first c.of-view.ensures.count (ap g.W.Words.sheet c.of-view.ensures.words) in
    let kept : Kept c.args.range old mid (within m.first m.count mid) = kept-through c.args.range m.first m.count old mid ahead entry (g.met.W.Words.lawful c.args.words) (g.met.W.Words.lawful m.words) c.requires.shut c.load_new-loaded.ensures.keeps in
    subst (λ (s : Sheet). Steady old s) (sym (ap g.W.Words.sheet c.into_words.ensures.same)) kept.steady

pub returns-clause-spends : goal.returns-clause-spends
returns-clause-spends g c =
    let old = g.W.Words.sheet c.args.words in
    let v = c.of-view.result in
    let m = c.load_new-loaded.new.words in
    let mid = g.W.Words.sheet m.words in
    let ahead = within v.first v.count (g.W.Words.sheet v.words) in
    let entry : ahead ≡ view_of c.args.range old = view-is c.args.range v.first v.count old (g.W.Words.sheet v.words) c.of-view.ensures.first c.of-view.ensures.count (ap g.W.Words.sheet c.of-view.ensures.words) in
    let n = length c.args.pairs.now in
    subst (λ (s : Sheet). Spends (load_puts c.args.range.words n) old s) (sym (ap g.W.Words.sheet c.into_words.ensures.same)) (spends-below (load_puts c.args.range.words n) v.first v.count m.first m.count old (g.W.Words.sheet v.words) mid (ap g.W.Words.sheet c.of-view.ensures.words) (subst (λ (k : ℕ). Spends (load_puts k n) ahead (within m.first m.count mid)) (ap (λ (s : Sheet). length s.words) entry ∙ inside-long c.args.range.first c.args.range.words old.words (IsRange.fits c.requires.range)) c.load_new-loaded.ensures.spends))

pub returns-clause-beside : goal.returns-clause-beside
returns-clause-beside g c =
    let old = g.W.Words.sheet c.args.words in
    let v = c.of-view.result in
    let m = c.load_new-loaded.new.words in
    let mid = g.W.Words.sheet m.words in
    let ahead = within v.first v.count (g.W.Words.sheet v.words) in
    let entry : ahead ≡ view_of c.args.range old = view-is c.args.range v.first v.count old (g.W.Words.sheet v.words) c.of-view.ensures.first c.of-view.ensures.count (ap g.W.Words.sheet c.of-view.ensures.words) in
    let kept : Kept c.args.range old mid (within m.first m.count mid) = kept-through c.args.range m.first m.count old mid ahead entry (g.met.W.Words.lawful c.args.words) (g.met.W.Words.lawful m.words) c.requires.shut c.load_new-loaded.ensures.keeps in
    subst (λ (s : Sheet). outside c.args.range.first c.args.range.words s.kept ≡ outside c.args.range.first c.args.range.words old.kept) (sym (ap g.W.Words.sheet c.into_words.ensures.same)) kept.beside

pub returns-clause-loads : goal.returns-clause-loads
returns-clause-loads g c =
    let old = g.W.Words.sheet c.args.words in
    let v = c.of-view.result in
    let m = c.load_new-loaded.new.words in
    let mid = g.W.Words.sheet m.words in
    let ahead = within v.first v.count (g.W.Words.sheet v.words) in
    let entry : ahead ≡ view_of c.args.range old = view-is c.args.range v.first v.count old (g.W.Words.sheet v.words) c.of-view.ensures.first c.of-view.ensures.count (ap g.W.Words.sheet c.of-view.ensures.words) in
    let kept : Kept c.args.range old mid (within m.first m.count mid) = kept-through c.args.range m.first m.count old mid ahead entry (g.met.W.Words.lawful c.args.words) (g.met.W.Words.lawful m.words) c.requires.shut c.load_new-loaded.ensures.keeps in
    let said = subst (λ (s : Sheet). LoadsNew (pairs_in c.args.pairs.now) s c.load_new-loaded.result (view_of c.args.range mid)) entry (subst (λ (s : Sheet). LoadsNew (pairs_in c.args.pairs.now) ahead c.load_new-loaded.result s) kept.same c.load_new-loaded.ensures.loads) in
    subst (λ (s : Sheet). LoadsNew (pairs_in c.args.pairs.now) (view_of c.args.range old) c.load_new-loaded.result (view_of c.args.range s)) (sym (ap g.W.Words.sheet c.into_words.ensures.same)) said
