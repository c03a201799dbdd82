use Rattle.std.proofs.Common.{◌≡◌, ap, sym, subst, ◌∙◌, ℕ, ◌≤◌, false, IsTrue, length}
use Rattle.std.specs.Prelude.{Ok, Err, Result}
use Rattle.envy_array.specs.Words.{Fails, Sheet}
use Rattle.envy_base.specs.Counting.{Rose}
use Rattle.envy_base.specs.declared.board.Trouble.{Trouble}
use Rattle.envy_range.specs.Ranges.{within}
use Rattle.envy_btree.specs.declared.fault.ChangeFault.TheVariants.{Bad}
use Rattle.envy_index_calls.specs.Attempts.{Attempts, Settles, Steady, view_of}
use Rattle.envy_index_calls.proofs.Attempting.{Through, bad-as, dark-as, front-in, moved, settled, through, view-is}
use Rattle.envy_index_calls.proofs.attempts.create_in.Goals as goal

pub mark_blank-marked-requires-clause-size : goal.mark_blank-marked-requires-clause-size
mark_blank-marked-requires-clause-size g c =
    let old = g.W.Words.sheet c.args.words in
    let v = c.of-view.result in
    let ahead = within v.first v.count (g.W.Words.sheet v.words) in
    let entry : ahead ≡ view_of c.args.range old = view-is c.args.range v.first v.count old (g.W.Words.sheet v.words) c.of-view.ensures.first c.of-view.ensures.count (ap g.W.Words.sheet c.of-view.ensures.words) in
    subst (λ (s : Sheet). 5 ≤ length s.words) (sym entry) (front-in c.args.range old c.requires.range)

pub returns-in-Ok-clause-attempts : goal.returns-in-Ok-clause-attempts
returns-in-Ok-clause-attempts g c =
    let old = g.W.Words.sheet c.args.words in
    let v = c.of-view.result in
    let m = c.mark_blank-marked.new.words in
    let mid = g.W.Words.sheet m.words in
    let ahead = within v.first v.count (g.W.Words.sheet v.words) in
    let entry : ahead ≡ view_of c.args.range old = view-is c.args.range v.first v.count old (g.W.Words.sheet v.words) c.of-view.ensures.first c.of-view.ensures.count (ap g.W.Words.sheet c.of-view.ensures.words) in
    let th : Through c.args.range 1 old mid (within m.first m.count mid) = through c.args.range m.first m.count 1 old mid ahead entry (g.met.W.Words.lawful c.args.words) (g.met.W.Words.lawful m.words) c.requires.range c.mark_blank-marked.ensures.works in
    let is = ap g.W.Words.sheet c.into_words-words.ensures.same in
    subst (λ (s : Sheet). Attempts c.args.range old (Ok c.in-Ok.field-0) s) (sym is) (moved c.args.range 1 old mid c.in-Ok.field-0 c.requires.begun th.viewed th.works c.in-Ok.ensures.fails)

pub returns-in-Err-Off-clause-attempts : goal.returns-in-Err-Off-clause-attempts
returns-in-Err-Off-clause-attempts g c =
    let old = g.W.Words.sheet c.args.words in
    let v = c.of-view.result in
    let m = c.mark_blank-marked.new.words in
    let mid = g.W.Words.sheet m.words in
    let ahead = within v.first v.count (g.W.Words.sheet v.words) in
    let entry : ahead ≡ view_of c.args.range old = view-is c.args.range v.first v.count old (g.W.Words.sheet v.words) c.of-view.ensures.first c.of-view.ensures.count (ap g.W.Words.sheet c.of-view.ensures.words) in
    let th : Through c.args.range 1 old mid (within m.first m.count mid) = through c.args.range m.first m.count 1 old mid ahead entry (g.met.W.Words.lawful c.args.words) (g.met.W.Words.lawful m.words) c.requires.range c.mark_blank-marked.ensures.works in
    let is = ap g.W.Words.sheet c.into_words-words.ensures.same in
    let off = rw c.in-Err-Off.is at c.in-Err-Off.field-0-is in
    let dark = dark-as Unit ahead (within m.first m.count mid) c.mark_blank-marked.result (c.in-Err-Off.is ∙ ap (λ x. Err x) off) c.mark_blank-marked.ensures.fails in
    subst (λ (s : Sheet). (s.on ≡ false) × (s.kept ≡ old.kept)) (sym is) (dark, th.viewed.kept)

pub returns-in-Err-Bad-clause-attempts : goal.returns-in-Err-Bad-clause-attempts
returns-in-Err-Bad-clause-attempts g c =
    let old = g.W.Words.sheet c.args.words in
    let v = c.of-view.result in
    let m = c.mark_blank-marked.new.words in
    let mid = g.W.Words.sheet m.words in
    let ahead = within v.first v.count (g.W.Words.sheet v.words) in
    let entry : ahead ≡ view_of c.args.range old = view-is c.args.range v.first v.count old (g.W.Words.sheet v.words) c.of-view.ensures.first c.of-view.ensures.count (ap g.W.Words.sheet c.of-view.ensures.words) in
    let th : Through c.args.range 1 old mid (within m.first m.count mid) = through c.args.range m.first m.count 1 old mid ahead entry (g.met.W.Words.lawful c.args.words) (g.met.W.Words.lawful m.words) c.requires.range c.mark_blank-marked.ensures.works in
    let is = ap g.W.Words.sheet c.into_words-words.ensures.same in
    let now = g.W.Words.sheet c.settle-fault.new.words in
    let off = rw c.in-Err-Bad.is at c.in-Err-Bad.field-0-is in
    let bad = bad-as Unit ahead (within m.first m.count mid) c.mark_blank-marked.result (c.in-Err-Bad.is ∙ ap (λ x. Err x) off) c.mark_blank-marked.ensures.fails in
    settled Unit c.args.range 1 old mid now Bad c.settle-fault.result c.requires.range c.requires.begun th.viewed th.works (subst (λ (s : Sheet). IsTrue mid.on × Rose s.bads mid.bads) entry bad) (subst (λ (s : Sheet). Settles Bad s c.settle-fault.result now) is c.settle-fault.ensures.settles) (subst (λ (s : Sheet). Steady s now) is c.settle-fault.ensures.steady)
