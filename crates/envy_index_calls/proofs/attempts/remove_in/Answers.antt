use Rattle.std.proofs.Common.{◌≡◌, ap, sym, subst, ◌∙◌, ℕ, ◌+◌, ◌^◌, ◌≤◌, true, length, List, arith}
use Rattle.std.specs.Prelude.{Ok, Err, Option}
use Rattle.envy_array.specs.Words.{Sheet, Spends}
use Rattle.envy_array.proofs.Working.{Spends-then}
use Rattle.envy_range.specs.Lawful.{inside-long}
use Rattle.envy_range.specs.Ranges.{within}
use Rattle.envy_btree.specs.Depths.{dropping_puts, removal_pages}
use Rattle.envy_btree.specs.Index.{IsIndex}
use Rattle.envy_btree.specs.Within.{RemovesWithin}
use Rattle.envy_index_calls.specs.Attempts.{Attempts, HasFailed, Settles, Steady, view_of}
use Rattle.envy_index_calls.specs.Ranges.{IsRange}
use Rattle.envy_index_calls.proofs.Attempting.{Through, Viewed, all-stay, failed-below, moved, room-in, saw-removal, settled, settled-removal, size-in, spends-below, steady-trans, through, view-is}
use Rattle.envy_index_calls.proofs.attempts.remove_in.Goals as goal

pub remove_within-removed-requires-clause-begun : goal.remove_within-removed-requires-clause-begun
remove_within-removed-requires-clause-begun g c =
    let old = g.W.Words.sheet c.args.words in
    let v = c.of-view.result in
    let ahead = within v.first v.count (g.W.Words.sheet v.words) in
    let entry : ahead ≡ view_of c.args.range old = view-is c.args.range v.first v.count old (g.W.Words.sheet v.words) c.of-view.ensures.first c.of-view.ensures.count (ap g.W.Words.sheet c.of-view.ensures.words) in
    subst (λ (s : Sheet). s.started ≡ true) (sym entry) c.requires.begun

pub remove_within-removed-requires-clause-room : goal.remove_within-removed-requires-clause-room
remove_within-removed-requires-clause-room g c =
    let old = g.W.Words.sheet c.args.words in
    let v = c.of-view.result in
    let ahead = within v.first v.count (g.W.Words.sheet v.words) in
    let entry : ahead ≡ view_of c.args.range old = view-is c.args.range v.first v.count old (g.W.Words.sheet v.words) c.of-view.ensures.first c.of-view.ensures.count (ap g.W.Words.sheet c.of-view.ensures.words) in
    subst (λ (s : Sheet). length s.pages + c.args.left ≤ s.room) (sym entry) (room-in c.args.range old c.args.left c.requires.room)

pub remove_within-removed-requires-clause-size : goal.remove_within-removed-requires-clause-size
remove_within-removed-requires-clause-size g c =
    let old = g.W.Words.sheet c.args.words in
    let v = c.of-view.result in
    let ahead = within v.first v.count (g.W.Words.sheet v.words) in
    let entry : ahead ≡ view_of c.args.range old = view-is c.args.range v.first v.count old (g.W.Words.sheet v.words) c.of-view.ensures.first c.of-view.ensures.count (ap g.W.Words.sheet c.of-view.ensures.words) in
    subst (λ (s : Sheet). length s.words ≤ 2 ^ 29) (sym entry) (size-in c.args.range old c.requires.range)

pub remove_within-removed-requires-clause-map : goal.remove_within-removed-requires-clause-map
remove_within-removed-requires-clause-map g c =
    let old = g.W.Words.sheet c.args.words in
    let v = c.of-view.result in
    let ahead = within v.first v.count (g.W.Words.sheet v.words) in
    let entry : ahead ≡ view_of c.args.range old = view-is c.args.range v.first v.count old (g.W.Words.sheet v.words) c.of-view.ensures.first c.of-view.ensures.count (ap g.W.Words.sheet c.of-view.ensures.words) in
    subst (λ (s : Sheet). (es : List (ℕ × ℕ)) × IsIndex s.words es) (sym entry) c.requires.map

pub returns-in-Ok-clause-steady : goal.returns-in-Ok-clause-steady
returns-in-Ok-clause-steady g c =
    let old = g.W.Words.sheet c.args.words in
    let v = c.of-view.result in
    let m = c.remove_within-removed.new.words in
    let mid = g.W.Words.sheet m.words in
    let ahead = within v.first v.count (g.W.Words.sheet v.words) in
    let entry : ahead ≡ view_of c.args.range old = view-is c.args.range v.first v.count old (g.W.Words.sheet v.words) c.of-view.ensures.first c.of-view.ensures.count (ap g.W.Words.sheet c.of-view.ensures.words) in
    let th : Through c.args.range c.args.left old mid (within m.first m.count mid) = through c.args.range m.first m.count c.args.left old mid ahead entry (g.met.W.Words.lawful c.args.words) (g.met.W.Words.lawful m.words) c.requires.range c.remove_within-removed.ensures.works in
    subst (λ (s : Sheet). Steady old s) (sym (ap g.W.Words.sheet c.into_words-words.ensures.same)) th.viewed.steady

pub returns-in-Ok-clause-spends : goal.returns-in-Ok-clause-spends
returns-in-Ok-clause-spends g c =
    let old = g.W.Words.sheet c.args.words in
    let v = c.of-view.result in
    let m = c.remove_within-removed.new.words in
    let mid = g.W.Words.sheet m.words in
    let ahead = within v.first v.count (g.W.Words.sheet v.words) in
    let entry : ahead ≡ view_of c.args.range old = view-is c.args.range v.first v.count old (g.W.Words.sheet v.words) c.of-view.ensures.first c.of-view.ensures.count (ap g.W.Words.sheet c.of-view.ensures.words) in
    let th : Through c.args.range c.args.left old mid (within m.first m.count mid) = through c.args.range m.first m.count c.args.left old mid ahead entry (g.met.W.Words.lawful c.args.words) (g.met.W.Words.lawful m.words) c.requires.range c.remove_within-removed.ensures.works in
    subst (λ (s : Sheet). Spends (dropping_puts c.args.range.words) old s) (sym (ap g.W.Words.sheet c.into_words-words.ensures.same)) (spends-below (dropping_puts c.args.range.words) v.first v.count m.first m.count old (g.W.Words.sheet v.words) mid (ap g.W.Words.sheet c.of-view.ensures.words) (subst (λ (n : ℕ). Spends (dropping_puts n) ahead (within m.first m.count mid)) (ap (λ (s : Sheet). length s.words) entry ∙ inside-long c.args.range.first c.args.range.words old.words (IsRange.fits c.requires.range)) c.remove_within-removed.ensures.spends))

pub returns-in-Ok-clause-attempts : goal.returns-in-Ok-clause-attempts
returns-in-Ok-clause-attempts g c =
    let old = g.W.Words.sheet c.args.words in
    let v = c.of-view.result in
    let m = c.remove_within-removed.new.words in
    let mid = g.W.Words.sheet m.words in
    let ahead = within v.first v.count (g.W.Words.sheet v.words) in
    let entry : ahead ≡ view_of c.args.range old = view-is c.args.range v.first v.count old (g.W.Words.sheet v.words) c.of-view.ensures.first c.of-view.ensures.count (ap g.W.Words.sheet c.of-view.ensures.words) in
    let th : Through c.args.range c.args.left old mid (within m.first m.count mid) = through c.args.range m.first m.count c.args.left old mid ahead entry (g.met.W.Words.lawful c.args.words) (g.met.W.Words.lawful m.words) c.requires.range c.remove_within-removed.ensures.works in
    let map = subst (λ (s : Sheet). (es : List (ℕ × ℕ)) × IsIndex s.words es) (sym entry) c.requires.map in
    let said = subst (λ (s : Sheet). RemovesWithin c.args.key map.0 removal_pages c.args.left s (Ok c.in-Ok.was) (view_of c.args.range mid)) entry (subst (λ (s : Sheet). RemovesWithin c.args.key map.0 removal_pages c.args.left ahead (Ok c.in-Ok.was) s) th.same (c.in-Ok.ensures.removes map.0 map.1)) in
    subst (λ (s : Sheet). Attempts c.args.range old (Ok c.in-Ok.was) s) (sym (ap g.W.Words.sheet c.into_words-words.ensures.same)) (moved c.args.range c.args.left old mid c.in-Ok.was c.requires.begun th.viewed th.works said.0)

pub returns-in-Ok-clause-removes : goal.returns-in-Ok-clause-removes
returns-in-Ok-clause-removes g c es x =
    let old = g.W.Words.sheet c.args.words in
    let v = c.of-view.result in
    let m = c.remove_within-removed.new.words in
    let mid = g.W.Words.sheet m.words in
    let ahead = within v.first v.count (g.W.Words.sheet v.words) in
    let entry : ahead ≡ view_of c.args.range old = view-is c.args.range v.first v.count old (g.W.Words.sheet v.words) c.of-view.ensures.first c.of-view.ensures.count (ap g.W.Words.sheet c.of-view.ensures.words) in
    let th : Through c.args.range c.args.left old mid (within m.first m.count mid) = through c.args.range m.first m.count c.args.left old mid ahead entry (g.met.W.Words.lawful c.args.words) (g.met.W.Words.lawful m.words) c.requires.range c.remove_within-removed.ensures.works in
    let ahead_x = subst (λ (s : Sheet). IsIndex s.words es) (sym entry) x in
    subst (λ (s : Sheet). RemovesWithin c.args.key es removal_pages c.args.left (view_of c.args.range old) (Ok c.in-Ok.was) (view_of c.args.range s)) (sym (ap g.W.Words.sheet c.into_words-words.ensures.same))
    (subst (λ (s : Sheet). RemovesWithin c.args.key es removal_pages c.args.left s (Ok c.in-Ok.was) (view_of c.args.range mid)) entry (subst (λ (s : Sheet). RemovesWithin c.args.key es removal_pages c.args.left ahead (Ok c.in-Ok.was) s) th.same (c.in-Ok.ensures.removes es ahead_x)))

pub settle-fault-requires : goal.settle-fault-requires
settle-fault-requires g c =
    let old = g.W.Words.sheet c.args.words in
    let v = c.of-view.result in
    let m = c.remove_within-removed.new.words in
    let mid = g.W.Words.sheet m.words in
    let ahead = within v.first v.count (g.W.Words.sheet v.words) in
    let entry : ahead ≡ view_of c.args.range old = view-is c.args.range v.first v.count old (g.W.Words.sheet v.words) c.of-view.ensures.first c.of-view.ensures.count (ap g.W.Words.sheet c.of-view.ensures.words) in
    let th : Through c.args.range c.args.left old mid (within m.first m.count mid) = through c.args.range m.first m.count c.args.left old mid ahead entry (g.met.W.Words.lawful c.args.words) (g.met.W.Words.lawful m.words) c.requires.range c.remove_within-removed.ensures.works in
    let map = subst (λ (s : Sheet). (es : List (ℕ × ℕ)) × IsIndex s.words es) (sym entry) c.requires.map in
    let said = subst (λ (s : Sheet). RemovesWithin c.args.key map.0 removal_pages c.args.left s (Err c.in-Err.fault) (view_of c.args.range mid)) entry (subst (λ (s : Sheet). RemovesWithin c.args.key map.0 removal_pages c.args.left ahead (Err c.in-Err.fault) s) th.same (c.in-Err.ensures.removes map.0 map.1)) in
    subst (λ (s : Sheet). HasFailed c.in-Err.fault s) (sym (ap g.W.Words.sheet c.into_words-words.ensures.same)) (failed-below (Option ℕ) c.args.range c.args.left old mid c.in-Err.fault c.requires.begun th.works (saw-removal c.args.key map.0 c.args.left (view_of c.args.range old) (view_of c.args.range mid) (Err c.in-Err.fault) said))

pub returns-in-Err-clause-steady : goal.returns-in-Err-clause-steady
returns-in-Err-clause-steady g c =
    let old = g.W.Words.sheet c.args.words in
    let v = c.of-view.result in
    let m = c.remove_within-removed.new.words in
    let mid = g.W.Words.sheet m.words in
    let ahead = within v.first v.count (g.W.Words.sheet v.words) in
    let entry : ahead ≡ view_of c.args.range old = view-is c.args.range v.first v.count old (g.W.Words.sheet v.words) c.of-view.ensures.first c.of-view.ensures.count (ap g.W.Words.sheet c.of-view.ensures.words) in
    let th : Through c.args.range c.args.left old mid (within m.first m.count mid) = through c.args.range m.first m.count c.args.left old mid ahead entry (g.met.W.Words.lawful c.args.words) (g.met.W.Words.lawful m.words) c.requires.range c.remove_within-removed.ensures.works in
    let now = g.W.Words.sheet c.settle-fault.new.words in
    steady-trans old mid now th.viewed.steady (subst (λ (s : Sheet). Steady s now) (ap g.W.Words.sheet c.into_words-words.ensures.same) c.settle-fault.ensures.steady)

pub returns-in-Err-clause-spends : goal.returns-in-Err-clause-spends
returns-in-Err-clause-spends g c =
    let old = g.W.Words.sheet c.args.words in
    let v = c.of-view.result in
    let m = c.remove_within-removed.new.words in
    let mid = g.W.Words.sheet m.words in
    let ahead = within v.first v.count (g.W.Words.sheet v.words) in
    let entry : ahead ≡ view_of c.args.range old = view-is c.args.range v.first v.count old (g.W.Words.sheet v.words) c.of-view.ensures.first c.of-view.ensures.count (ap g.W.Words.sheet c.of-view.ensures.words) in
    let th : Through c.args.range c.args.left old mid (within m.first m.count mid) = through c.args.range m.first m.count c.args.left old mid ahead entry (g.met.W.Words.lawful c.args.words) (g.met.W.Words.lawful m.words) c.requires.range c.remove_within-removed.ensures.works in
    let now = g.W.Words.sheet c.settle-fault.new.words in
    Spends-then (dropping_puts c.args.range.words) 0 (dropping_puts c.args.range.words) _ _ _ (omega arith) (spends-below (dropping_puts c.args.range.words) v.first v.count m.first m.count old (g.W.Words.sheet v.words) mid (ap g.W.Words.sheet c.of-view.ensures.words) (subst (λ (n : ℕ). Spends (dropping_puts n) ahead (within m.first m.count mid)) (ap (λ (s : Sheet). length s.words) entry ∙ inside-long c.args.range.first c.args.range.words old.words (IsRange.fits c.requires.range)) c.remove_within-removed.ensures.spends)) (subst (λ (s : Sheet). Spends 0 s now) (ap g.W.Words.sheet c.into_words-words.ensures.same) c.settle-fault.ensures.spends)

pub returns-in-Err-clause-attempts : goal.returns-in-Err-clause-attempts
returns-in-Err-clause-attempts g c =
    let old = g.W.Words.sheet c.args.words in
    let v = c.of-view.result in
    let m = c.remove_within-removed.new.words in
    let mid = g.W.Words.sheet m.words in
    let ahead = within v.first v.count (g.W.Words.sheet v.words) in
    let entry : ahead ≡ view_of c.args.range old = view-is c.args.range v.first v.count old (g.W.Words.sheet v.words) c.of-view.ensures.first c.of-view.ensures.count (ap g.W.Words.sheet c.of-view.ensures.words) in
    let th : Through c.args.range c.args.left old mid (within m.first m.count mid) = through c.args.range m.first m.count c.args.left old mid ahead entry (g.met.W.Words.lawful c.args.words) (g.met.W.Words.lawful m.words) c.requires.range c.remove_within-removed.ensures.works in
    let map = subst (λ (s : Sheet). (es : List (ℕ × ℕ)) × IsIndex s.words es) (sym entry) c.requires.map in
    let said = subst (λ (s : Sheet). RemovesWithin c.args.key map.0 removal_pages c.args.left s (Err c.in-Err.fault) (view_of c.args.range mid)) entry (subst (λ (s : Sheet). RemovesWithin c.args.key map.0 removal_pages c.args.left ahead (Err c.in-Err.fault) s) th.same (c.in-Err.ensures.removes map.0 map.1)) in
    let now = g.W.Words.sheet c.settle-fault.new.words in
    let is = ap g.W.Words.sheet c.into_words-words.ensures.same in
    settled (Option ℕ) c.args.range c.args.left old mid now c.in-Err.fault c.settle-fault.result c.requires.range c.requires.begun th.viewed th.works (saw-removal c.args.key map.0 c.args.left (view_of c.args.range old) (view_of c.args.range mid) (Err c.in-Err.fault) said) (subst (λ (s : Sheet). Settles c.in-Err.fault s c.settle-fault.result now) is c.settle-fault.ensures.settles) (subst (λ (s : Sheet). Steady s now) is c.settle-fault.ensures.steady)

pub returns-in-Err-clause-removes : goal.returns-in-Err-clause-removes
returns-in-Err-clause-removes g c es x =
    let old = g.W.Words.sheet c.args.words in
    let v = c.of-view.result in
    let m = c.remove_within-removed.new.words in
    let mid = g.W.Words.sheet m.words in
    let ahead = within v.first v.count (g.W.Words.sheet v.words) in
    let entry : ahead ≡ view_of c.args.range old = view-is c.args.range v.first v.count old (g.W.Words.sheet v.words) c.of-view.ensures.first c.of-view.ensures.count (ap g.W.Words.sheet c.of-view.ensures.words) in
    let th : Through c.args.range c.args.left old mid (within m.first m.count mid) = through c.args.range m.first m.count c.args.left old mid ahead entry (g.met.W.Words.lawful c.args.words) (g.met.W.Words.lawful m.words) c.requires.range c.remove_within-removed.ensures.works in
    let ahead_x = subst (λ (s : Sheet). IsIndex s.words es) (sym entry) x in
    let now = g.W.Words.sheet c.settle-fault.new.words in
    let is = ap g.W.Words.sheet c.into_words-words.ensures.same in
    settled-removal c.args.range c.args.key es c.args.left (view_of c.args.range old) mid now c.in-Err.fault c.settle-fault.result (subst (λ (s : Sheet). Settles c.in-Err.fault s c.settle-fault.result now) is c.settle-fault.ensures.settles) (subst (λ (s : Sheet). Steady s now) is c.settle-fault.ensures.steady)
    (subst (λ (s : Sheet). RemovesWithin c.args.key es removal_pages c.args.left s (Err c.in-Err.fault) (view_of c.args.range mid)) entry (subst (λ (s : Sheet). RemovesWithin c.args.key es removal_pages c.args.left ahead (Err c.in-Err.fault) s) th.same (c.in-Err.ensures.removes es ahead_x)))

pub returns-in-Ok-clause-absent : goal.returns-in-Ok-clause-absent
returns-in-Ok-clause-absent g c is =
    let old = g.W.Words.sheet c.args.words in
    let v = c.of-view.result in
    let m = c.remove_within-removed.new.words in
    let mid = g.W.Words.sheet m.words in
    let ahead = within v.first v.count (g.W.Words.sheet v.words) in
    let entry : ahead ≡ view_of c.args.range old = view-is c.args.range v.first v.count old (g.W.Words.sheet v.words) c.of-view.ensures.first c.of-view.ensures.count (ap g.W.Words.sheet c.of-view.ensures.words) in
    let th : Through c.args.range c.args.left old mid (within m.first m.count mid) = through c.args.range m.first m.count c.args.left old mid ahead entry (g.met.W.Words.lawful c.args.words) (g.met.W.Words.lawful m.words) c.requires.range c.remove_within-removed.ensures.works in
    let map = subst (λ (s : Sheet). (es : List (ℕ × ℕ)) × IsIndex s.words es) (sym entry) c.requires.map in
    let said = c.in-Ok.ensures.removes map.0 map.1 in
    let same = c.in-Ok.ensures.absent is in
    ap (λ (s : Sheet). s.words) (ap g.W.Words.sheet c.into_words-words.ensures.same) ∙ all-stay c.args.range old mid c.requires.range said.0 th.viewed (ap (λ (s : Sheet). s.words) (sym th.same) ∙ same ∙ ap (λ (s : Sheet). s.words) entry)
