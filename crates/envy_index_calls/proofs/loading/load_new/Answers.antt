use Rattle.std.proofs.Common.{ℕ, ◌≤◌, ◌^◌, ◌∙◌, ap, length, sym, subst, arith}
use Rattle.std.specs.Prelude.{Ok, Err, Result}
use Rattle.envy_base.specs.declared.board.Trouble.{Trouble}
use Rattle.envy_array.specs.Words.{Spends}
use Rattle.envy_array.proofs.Working.{Spends-more, Spends-trans}
use Rattle.envy_btree.specs.Depths.{insertion_pages, most_levels}
use Rattle.envy_btree.specs.Index.{most_pairs}
use Rattle.envy_index_calls.specs.Loading.{Marks, leaf_puts, load_puts}
use Rattle.envy_index_calls.specs.Scanned.{pairs_in}
use Rattle.envy_index_calls.proofs.Feeding.{Keeps-trans, begins, new-bad, new-of, new-off}
use Rattle.envy_index_calls.proofs.loading.load_new.Goals as goal

pub load_leaves-requires-clause-room : goal.load_leaves-requires-clause-room
load_leaves-requires-clause-room g c =
    let old = g.W.Words.sheet c.args.words.now in
    let mid = g.W.Words.sheet c.mark_alone.new.words in
    let k = c.mark_alone.ensures.keeps in
    subst (λ (n : ℕ). insertion_pages (most_levels n) ≤ mid.room) (sym k.long) (subst (λ (n : ℕ). insertion_pages (most_levels (length old.words)) ≤ n) (sym k.room) c.requires.room)

pub load_leaves-requires-clause-size : goal.load_leaves-requires-clause-size
load_leaves-requires-clause-size g c = subst (λ (n : ℕ). n ≤ 2 ^ 29) (sym c.mark_alone.ensures.keeps.long) c.requires.size

pub load_leaves-requires-clause-map : goal.load_leaves-requires-clause-map
load_leaves-requires-clause-map g c =
    let old = g.W.Words.sheet c.args.words.now in
    let mid = g.W.Words.sheet c.mark_alone.new.words in
    (begins old mid ((g.met.W.Words.lawful c.args.words.now).shut c.requires.shut) c.requires.least (g.met.W.Words.lawful c.mark_alone.new.words) c.mark_alone.ensures.shut c.in-Ok.ensures.marks.1).map

pub load_leaves-requires-clause-root : goal.load_leaves-requires-clause-root
load_leaves-requires-clause-root g c =
    let old = g.W.Words.sheet c.args.words.now in
    let mid = g.W.Words.sheet c.mark_alone.new.words in
    (begins old mid ((g.met.W.Words.lawful c.args.words.now).shut c.requires.shut) c.requires.least (g.met.W.Words.lawful c.mark_alone.new.words) c.mark_alone.ensures.shut c.in-Ok.ensures.marks.1).root

pub load_leaves-requires-clause-few : goal.load_leaves-requires-clause-few
load_leaves-requires-clause-few g c = omega (arith, c.requires.few, c.mark_alone.ensures.keeps.long)

pub returns-in-Ok-clause-keeps : goal.returns-in-Ok-clause-keeps
returns-in-Ok-clause-keeps g c = Keeps-trans (g.W.Words.sheet c.args.words.now) (g.W.Words.sheet c.mark_alone.new.words) (g.W.Words.sheet c.load_leaves.new.words) c.mark_alone.ensures.keeps c.load_leaves.ensures.keeps

pub returns-in-Ok-clause-spends : goal.returns-in-Ok-clause-spends
returns-in-Ok-clause-spends g c =
    let old = g.W.Words.sheet c.args.words.now in
    let mid = g.W.Words.sheet c.mark_alone.new.words in
    let new = g.W.Words.sheet c.load_leaves.new.words in
    Spends-trans 6 (leaf_puts (length old.words) (length c.args.pairs.now)) old mid new c.mark_alone.ensures.spends (subst (λ (n : ℕ). Spends (leaf_puts n (length c.args.pairs.now)) mid new) c.mark_alone.ensures.keeps.long c.load_leaves.ensures.spends)

pub returns-in-Ok-clause-shut : goal.returns-in-Ok-clause-shut
returns-in-Ok-clause-shut g c = c.load_leaves.ensures.shut

pub returns-in-Ok-clause-loads : goal.returns-in-Ok-clause-loads
returns-in-Ok-clause-loads g c =
    let old = g.W.Words.sheet c.args.words.now in
    let mid = g.W.Words.sheet c.mark_alone.new.words in
    let new = g.W.Words.sheet c.load_leaves.new.words in
    new-of (pairs_in c.args.pairs.now) old mid new c.load_leaves.result (g.met.W.Words.lawful c.load_leaves.new.words) c.mark_alone.ensures.keeps.bads c.load_leaves.ensures.keeps.bads c.load_leaves.ensures.shut c.load_leaves.ensures.loads

pub returns-in-Err-Off-clause-spends : goal.returns-in-Err-Off-clause-spends
returns-in-Err-Off-clause-spends g c =
    let old = g.W.Words.sheet c.args.words.now in
    let mid = g.W.Words.sheet c.mark_alone.new.words in
    Spends-more 6 (load_puts (length old.words) (length c.args.pairs.now)) old mid (omega arith) c.mark_alone.ensures.spends

pub returns-in-Err-Off-clause-loads : goal.returns-in-Err-Off-clause-loads
returns-in-Err-Off-clause-loads g c =
    let old = g.W.Words.sheet c.args.words.now in
    let mid = g.W.Words.sheet c.mark_alone.new.words in
    let off = c.in-Err-Off.field-0-is in
    new-off (pairs_in c.args.pairs.now) old mid ((g.met.W.Words.lawful c.args.words.now).shut c.requires.shut) c.requires.least (subst (λ (r : Result Unit Trouble). Marks old r mid) (c.in-Err-Off.is ∙ ap (λ x. Err x) off) c.mark_alone.ensures.marks)

pub returns-in-Err-Bad-clause-spends : goal.returns-in-Err-Bad-clause-spends
returns-in-Err-Bad-clause-spends g c =
    let old = g.W.Words.sheet c.args.words.now in
    let mid = g.W.Words.sheet c.mark_alone.new.words in
    Spends-more 6 (load_puts (length old.words) (length c.args.pairs.now)) old mid (omega arith) c.mark_alone.ensures.spends

pub returns-in-Err-Bad-clause-loads : goal.returns-in-Err-Bad-clause-loads
returns-in-Err-Bad-clause-loads g c =
    let old = g.W.Words.sheet c.args.words.now in
    let mid = g.W.Words.sheet c.mark_alone.new.words in
    let bad = c.in-Err-Bad.field-0-is in
    new-bad (pairs_in c.args.pairs.now) old mid (subst (λ (r : Result Unit Trouble). Marks old r mid) (c.in-Err-Bad.is ∙ ap (λ x. Err x) bad) c.mark_alone.ensures.marks)
