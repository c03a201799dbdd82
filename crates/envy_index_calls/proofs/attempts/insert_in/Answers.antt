use Rattle.std.proofs.Common.{◌≡◌, ap, sym, subst, ◌∙◌, ℕ, ◌+◌, ◌^◌, ◌≤◌, true, length, List, arith}
use Rattle.std.specs.Prelude.{Ok, Err, Option}
use Rattle.envy_array.specs.Words.{Sheet, Spends}
use Rattle.envy_array.proofs.Working.{Spends-then}
use Rattle.envy_range.specs.Lawful.{inside-long}
use Rattle.envy_range.specs.Ranges.{within}
use Rattle.envy_btree.specs.Depths.{insertion_pages, insertion_puts}
use Rattle.envy_btree.specs.Index.{IsIndex}
use Rattle.envy_btree.specs.Within.{InsertsWithin}
use Rattle.envy_index_calls.specs.Attempts.{Attempts, HasFailed, Settles, Steady, view_of}
use Rattle.envy_index_calls.specs.Ranges.{IsRange}
use Rattle.envy_index_calls.proofs.Attempting.{Through, Viewed, failed-below, moved, room-in, saw-insert, settled, settled-insert, size-in, spends-below, steady-trans, through, view-is}
use Rattle.envy_index_calls.proofs.attempts.insert_in.Goals as goal

pub insert_within-inserted-requires-clause-begun : goal.insert_within-inserted-requires-clause-begun
insert_within-inserted-requires-clause-begun g c =
    let old = g.W.Words.sheet c.args.words in
    let v = c.of-view.result in
    let ahead = within v.first v.count (g.W.Words.sheet v.words) in
    let entry : ahead ≡ view_of c.args.range old = view-is c.args.range v.first v.count old (g.W.Words.sheet v.words) c.of-view.ensures.first c.of-view.ensures.count (ap g.W.Words.sheet c.of-view.ensures.words) in
    subst (λ (s : Sheet). s.started ≡ true) (sym entry) c.requires.begun

pub insert_within-inserted-requires-clause-room : goal.insert_within-inserted-requires-clause-room
insert_within-inserted-requires-clause-room g c =
    let old = g.W.Words.sheet c.args.words in
    let v = c.of-view.result in
    let ahead = within v.first v.count (g.W.Words.sheet v.words) in
    let entry : ahead ≡ view_of c.args.range old = view-is c.args.range v.first v.count old (g.W.Words.sheet v.words) c.of-view.ensures.first c.of-view.ensures.count (ap g.W.Words.sheet c.of-view.ensures.words) in
    subst (λ (s : Sheet). length s.pages + c.args.left ≤ s.room) (sym entry) (room-in c.args.range old c.args.left c.requires.room)

pub insert_within-inserted-requires-clause-size : goal.insert_within-inserted-requires-clause-size
insert_within-inserted-requires-clause-size g c =
    let old = g.W.Words.sheet c.args.words in
    let v = c.of-view.result in
    let ahead = within v.first v.count (g.W.Words.sheet v.words) in
    let entry : ahead ≡ view_of c.args.range old = view-is c.args.range v.first v.count old (g.W.Words.sheet v.words) c.of-view.ensures.first c.of-view.ensures.count (ap g.W.Words.sheet c.of-view.ensures.words) in
    subst (λ (s : Sheet). length s.words ≤ 2 ^ 29) (sym entry) (size-in c.args.range old c.requires.range)

pub insert_within-inserted-requires-clause-map : goal.insert_within-inserted-requires-clause-map
insert_within-inserted-requires-clause-map g c =
    let old = g.W.Words.sheet c.args.words in
    let v = c.of-view.result in
    let ahead = within v.first v.count (g.W.Words.sheet v.words) in
    let entry : ahead ≡ view_of c.args.range old = view-is c.args.range v.first v.count old (g.W.Words.sheet v.words) c.of-view.ensures.first c.of-view.ensures.count (ap g.W.Words.sheet c.of-view.ensures.words) in
    subst (λ (s : Sheet). (es : List (ℕ × ℕ)) × IsIndex s.words es) (sym entry) c.requires.map

pub returns-in-Ok-clause-steady : goal.returns-in-Ok-clause-steady
returns-in-Ok-clause-steady g c =
    let old = g.W.Words.sheet c.args.words in
    let v = c.of-view.result in
    let m = c.insert_within-inserted.new.words in
    let mid = g.W.Words.sheet m.words in
    let ahead = within v.first v.count (g.W.Words.sheet v.words) in
    let entry : ahead ≡ view_of c.args.range old = view-is c.args.range v.first v.count old (g.W.Words.sheet v.words) c.of-view.ensures.first c.of-view.ensures.count (ap g.W.Words.sheet c.of-view.ensures.words) in
    let th : Through c.args.range c.args.left old mid (within m.first m.count mid) = through c.args.range m.first m.count c.args.left old mid ahead entry (g.met.W.Words.lawful c.args.words) (g.met.W.Words.lawful m.words) c.requires.range c.insert_within-inserted.ensures.works in
    subst (λ (s : Sheet). Steady old s) (sym (ap g.W.Words.sheet c.into_words-words.ensures.same)) th.viewed.steady

pub returns-in-Ok-clause-spends : goal.returns-in-Ok-clause-spends
returns-in-Ok-clause-spends g c =
    let old = g.W.Words.sheet c.args.words in
    let v = c.of-view.result in
    let m = c.insert_within-inserted.new.words in
    let mid = g.W.Words.sheet m.words in
    let ahead = within v.first v.count (g.W.Words.sheet v.words) in
    let entry : ahead ≡ view_of c.args.range old = view-is c.args.range v.first v.count old (g.W.Words.sheet v.words) c.of-view.ensures.first c.of-view.ensures.count (ap g.W.Words.sheet c.of-view.ensures.words) in
    let th : Through c.args.range c.args.left old mid (within m.first m.count mid) = through c.args.range m.first m.count c.args.left old mid ahead entry (g.met.W.Words.lawful c.args.words) (g.met.W.Words.lawful m.words) c.requires.range c.insert_within-inserted.ensures.works in
    subst (λ (s : Sheet). Spends (insertion_puts c.args.range.words) old s) (sym (ap g.W.Words.sheet c.into_words-words.ensures.same)) (spends-below (insertion_puts c.args.range.words) v.first v.count m.first m.count old (g.W.Words.sheet v.words) mid (ap g.W.Words.sheet c.of-view.ensures.words) (subst (λ (n : ℕ). Spends (insertion_puts n) ahead (within m.first m.count mid)) (ap (λ (s : Sheet). length s.words) entry ∙ inside-long c.args.range.first c.args.range.words old.words (IsRange.fits c.requires.range)) c.insert_within-inserted.ensures.spends))

pub returns-in-Ok-clause-attempts : goal.returns-in-Ok-clause-attempts
returns-in-Ok-clause-attempts g c =
    let old = g.W.Words.sheet c.args.words in
    let v = c.of-view.result in
    let m = c.insert_within-inserted.new.words in
    let mid = g.W.Words.sheet m.words in
    let ahead = within v.first v.count (g.W.Words.sheet v.words) in
    let entry : ahead ≡ view_of c.args.range old = view-is c.args.range v.first v.count old (g.W.Words.sheet v.words) c.of-view.ensures.first c.of-view.ensures.count (ap g.W.Words.sheet c.of-view.ensures.words) in
    let th : Through c.args.range c.args.left old mid (within m.first m.count mid) = through c.args.range m.first m.count c.args.left old mid ahead entry (g.met.W.Words.lawful c.args.words) (g.met.W.Words.lawful m.words) c.requires.range c.insert_within-inserted.ensures.works in
    let map = subst (λ (s : Sheet). (es : List (ℕ × ℕ)) × IsIndex s.words es) (sym entry) c.requires.map in
    let said = subst (λ (s : Sheet). InsertsWithin c.args.key c.args.value map.0 insertion_pages c.args.left s (Ok c.in-Ok.was) (view_of c.args.range mid)) entry (subst (λ (s : Sheet). InsertsWithin c.args.key c.args.value map.0 insertion_pages c.args.left ahead (Ok c.in-Ok.was) s) th.same (c.in-Ok.ensures.inserts map.0 map.1)) in
    subst (λ (s : Sheet). Attempts c.args.range old (Ok c.in-Ok.was) s) (sym (ap g.W.Words.sheet c.into_words-words.ensures.same)) (moved c.args.range c.args.left old mid c.in-Ok.was c.requires.begun th.viewed th.works said.0)

pub returns-in-Ok-clause-inserts : goal.returns-in-Ok-clause-inserts
returns-in-Ok-clause-inserts g c es x =
    let old = g.W.Words.sheet c.args.words in
    let v = c.of-view.result in
    let m = c.insert_within-inserted.new.words in
    let mid = g.W.Words.sheet m.words in
    let ahead = within v.first v.count (g.W.Words.sheet v.words) in
    let entry : ahead ≡ view_of c.args.range old = view-is c.args.range v.first v.count old (g.W.Words.sheet v.words) c.of-view.ensures.first c.of-view.ensures.count (ap g.W.Words.sheet c.of-view.ensures.words) in
    let th : Through c.args.range c.args.left old mid (within m.first m.count mid) = through c.args.range m.first m.count c.args.left old mid ahead entry (g.met.W.Words.lawful c.args.words) (g.met.W.Words.lawful m.words) c.requires.range c.insert_within-inserted.ensures.works in
    let ahead_x = subst (λ (s : Sheet). IsIndex s.words es) (sym entry) x in
    subst (λ (s : Sheet). InsertsWithin c.args.key c.args.value es insertion_pages c.args.left (view_of c.args.range old) (Ok c.in-Ok.was) (view_of c.args.range s)) (sym (ap g.W.Words.sheet c.into_words-words.ensures.same))
    (subst (λ (s : Sheet). InsertsWithin c.args.key c.args.value es insertion_pages c.args.left s (Ok c.in-Ok.was) (view_of c.args.range mid)) entry (subst (λ (s : Sheet). InsertsWithin c.args.key c.args.value es insertion_pages c.args.left ahead (Ok c.in-Ok.was) s) th.same (c.in-Ok.ensures.inserts es ahead_x)))

pub settle-fault-requires : goal.settle-fault-requires
settle-fault-requires g c =
    let old = g.W.Words.sheet c.args.words in
    let v = c.of-view.result in
    let m = c.insert_within-inserted.new.words in
    let mid = g.W.Words.sheet m.words in
    let ahead = within v.first v.count (g.W.Words.sheet v.words) in
    let entry : ahead ≡ view_of c.args.range old = view-is c.args.range v.first v.count old (g.W.Words.sheet v.words) c.of-view.ensures.first c.of-view.ensures.count (ap g.W.Words.sheet c.of-view.ensures.words) in
    let th : Through c.args.range c.args.left old mid (within m.first m.count mid) = through c.args.range m.first m.count c.args.left old mid ahead entry (g.met.W.Words.lawful c.args.words) (g.met.W.Words.lawful m.words) c.requires.range c.insert_within-inserted.ensures.works in
    let map = subst (λ (s : Sheet). (es : List (ℕ × ℕ)) × IsIndex s.words es) (sym entry) c.requires.map in
    let said = subst (λ (s : Sheet). InsertsWithin c.args.key c.args.value map.0 insertion_pages c.args.left s (Err c.in-Err.fault) (view_of c.args.range mid)) entry (subst (λ (s : Sheet). InsertsWithin c.args.key c.args.value map.0 insertion_pages c.args.left ahead (Err c.in-Err.fault) s) th.same (c.in-Err.ensures.inserts map.0 map.1)) in
    subst (λ (s : Sheet). HasFailed c.in-Err.fault s) (sym (ap g.W.Words.sheet c.into_words-words.ensures.same)) (failed-below (Option ℕ) c.args.range c.args.left old mid c.in-Err.fault c.requires.begun th.works (saw-insert c.args.key c.args.value map.0 c.args.left (view_of c.args.range old) (view_of c.args.range mid) (Err c.in-Err.fault) said))

pub returns-in-Err-clause-steady : goal.returns-in-Err-clause-steady
returns-in-Err-clause-steady g c =
    let old = g.W.Words.sheet c.args.words in
    let v = c.of-view.result in
    let m = c.insert_within-inserted.new.words in
    let mid = g.W.Words.sheet m.words in
    let ahead = within v.first v.count (g.W.Words.sheet v.words) in
    let entry : ahead ≡ view_of c.args.range old = view-is c.args.range v.first v.count old (g.W.Words.sheet v.words) c.of-view.ensures.first c.of-view.ensures.count (ap g.W.Words.sheet c.of-view.ensures.words) in
    let th : Through c.args.range c.args.left old mid (within m.first m.count mid) = through c.args.range m.first m.count c.args.left old mid ahead entry (g.met.W.Words.lawful c.args.words) (g.met.W.Words.lawful m.words) c.requires.range c.insert_within-inserted.ensures.works in
    let now = g.W.Words.sheet c.settle-fault.new.words in
    steady-trans old mid now th.viewed.steady (subst (λ (s : Sheet). Steady s now) (ap g.W.Words.sheet c.into_words-words.ensures.same) c.settle-fault.ensures.steady)

pub returns-in-Err-clause-spends : goal.returns-in-Err-clause-spends
returns-in-Err-clause-spends g c =
    let old = g.W.Words.sheet c.args.words in
    let v = c.of-view.result in
    let m = c.insert_within-inserted.new.words in
    let mid = g.W.Words.sheet m.words in
    let ahead = within v.first v.count (g.W.Words.sheet v.words) in
    let entry : ahead ≡ view_of c.args.range old = view-is c.args.range v.first v.count old (g.W.Words.sheet v.words) c.of-view.ensures.first c.of-view.ensures.count (ap g.W.Words.sheet c.of-view.ensures.words) in
    let th : Through c.args.range c.args.left old mid (within m.first m.count mid) = through c.args.range m.first m.count c.args.left old mid ahead entry (g.met.W.Words.lawful c.args.words) (g.met.W.Words.lawful m.words) c.requires.range c.insert_within-inserted.ensures.works in
    let now = g.W.Words.sheet c.settle-fault.new.words in
    Spends-then (insertion_puts c.args.range.words) 0 (insertion_puts c.args.range.words) _ _ _ (omega arith) (spends-below (insertion_puts c.args.range.words) v.first v.count m.first m.count old (g.W.Words.sheet v.words) mid (ap g.W.Words.sheet c.of-view.ensures.words) (subst (λ (n : ℕ). Spends (insertion_puts n) ahead (within m.first m.count mid)) (ap (λ (s : Sheet). length s.words) entry ∙ inside-long c.args.range.first c.args.range.words old.words (IsRange.fits c.requires.range)) c.insert_within-inserted.ensures.spends)) (subst (λ (s : Sheet). Spends 0 s now) (ap g.W.Words.sheet c.into_words-words.ensures.same) c.settle-fault.ensures.spends)

pub returns-in-Err-clause-attempts : goal.returns-in-Err-clause-attempts
returns-in-Err-clause-attempts g c =
    let old = g.W.Words.sheet c.args.words in
    let v = c.of-view.result in
    let m = c.insert_within-inserted.new.words in
    let mid = g.W.Words.sheet m.words in
    let ahead = within v.first v.count (g.W.Words.sheet v.words) in
    let entry : ahead ≡ view_of c.args.range old = view-is c.args.range v.first v.count old (g.W.Words.sheet v.words) c.of-view.ensures.first c.of-view.ensures.count (ap g.W.Words.sheet c.of-view.ensures.words) in
    let th : Through c.args.range c.args.left old mid (within m.first m.count mid) = through c.args.range m.first m.count c.args.left old mid ahead entry (g.met.W.Words.lawful c.args.words) (g.met.W.Words.lawful m.words) c.requires.range c.insert_within-inserted.ensures.works in
    let map = subst (λ (s : Sheet). (es : List (ℕ × ℕ)) × IsIndex s.words es) (sym entry) c.requires.map in
    let said = subst (λ (s : Sheet). InsertsWithin c.args.key c.args.value map.0 insertion_pages c.args.left s (Err c.in-Err.fault) (view_of c.args.range mid)) entry (subst (λ (s : Sheet). InsertsWithin c.args.key c.args.value map.0 insertion_pages c.args.left ahead (Err c.in-Err.fault) s) th.same (c.in-Err.ensures.inserts map.0 map.1)) in
    let now = g.W.Words.sheet c.settle-fault.new.words in
    let is = ap g.W.Words.sheet c.into_words-words.ensures.same in
    settled (Option ℕ) c.args.range c.args.left old mid now c.in-Err.fault c.settle-fault.result c.requires.range c.requires.begun th.viewed th.works (saw-insert c.args.key c.args.value map.0 c.args.left (view_of c.args.range old) (view_of c.args.range mid) (Err c.in-Err.fault) said) (subst (λ (s : Sheet). Settles c.in-Err.fault s c.settle-fault.result now) is c.settle-fault.ensures.settles) (subst (λ (s : Sheet). Steady s now) is c.settle-fault.ensures.steady)

pub returns-in-Err-clause-inserts : goal.returns-in-Err-clause-inserts
returns-in-Err-clause-inserts g c es x =
    let old = g.W.Words.sheet c.args.words in
    let v = c.of-view.result in
    let m = c.insert_within-inserted.new.words in
    let mid = g.W.Words.sheet m.words in
    let ahead = within v.first v.count (g.W.Words.sheet v.words) in
    let entry : ahead ≡ view_of c.args.range old = view-is c.args.range v.first v.count old (g.W.Words.sheet v.words) c.of-view.ensures.first c.of-view.ensures.count (ap g.W.Words.sheet c.of-view.ensures.words) in
    let th : Through c.args.range c.args.left old mid (within m.first m.count mid) = through c.args.range m.first m.count c.args.left old mid ahead entry (g.met.W.Words.lawful c.args.words) (g.met.W.Words.lawful m.words) c.requires.range c.insert_within-inserted.ensures.works in
    let ahead_x = subst (λ (s : Sheet). IsIndex s.words es) (sym entry) x in
    let now = g.W.Words.sheet c.settle-fault.new.words in
    let is = ap g.W.Words.sheet c.into_words-words.ensures.same in
    settled-insert c.args.range c.args.key c.args.value es c.args.left (view_of c.args.range old) mid now c.in-Err.fault c.settle-fault.result (subst (λ (s : Sheet). Settles c.in-Err.fault s c.settle-fault.result now) is c.settle-fault.ensures.settles) (subst (λ (s : Sheet). Steady s now) is c.settle-fault.ensures.steady)
    (subst (λ (s : Sheet). InsertsWithin c.args.key c.args.value es insertion_pages c.args.left s (Err c.in-Err.fault) (view_of c.args.range mid)) entry (subst (λ (s : Sheet). InsertsWithin c.args.key c.args.value es insertion_pages c.args.left ahead (Err c.in-Err.fault) s) th.same (c.in-Err.ensures.inserts es ahead_x)))
