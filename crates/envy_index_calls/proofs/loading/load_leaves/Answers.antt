use Rattle.std.proofs.Common.{ℕ, ◌≤◌, ◌≡◌, ◌<◌, sym, subst, ap, length, arith}
use Rattle.std.proofs.lemmas.List.{length-map}
use Rattle.envy_array.specs.Words.{Spends}
use Rattle.envy_btree.specs.Answers.{insert_puts}
use Rattle.envy_index_calls.specs.Loading.{leaf_puts}
use Rattle.envy_index_calls.specs.Scanned.{pair_in, pairs_in}
use Rattle.envy_index_calls.proofs.Feeding.{Keeps-refl, Keeps-trans, leaf-spends, loaded-none, loads-failed, spends-none}
use Rattle.envy_index_calls.proofs.loading.load_leaves.Goals as goal

pub loop-done-init : goal.loop-done-init
loop-done-init g c =
    let old = g.W.Words.sheet c.args.words.now in
    record {
      on = c.requires.on;
      shut = c.requires.shut;
      keeps = Keeps-refl old;
      spends = spends-none (insert_puts (length old.words)) old;
      loaded = loaded-none old.words (pairs_in c.args.pairs.now) c.requires.map c.requires.root;
    }

pub loop-done-preserved : goal.loop-done-preserved
loop-done-preserved g c =
    let old = g.W.Words.sheet c.args.words.now in
    let mid = g.W.Words.sheet c.loop-done.words in
    let new = g.W.Words.sheet c.load_leaf.new.words in
    let here = c.loop-done.invariant in
    let leaf = c.in_ok-done.ensures in
    record {
      on = leaf.loads.0;
      shut = leaf.shut;
      keeps = Keeps-trans old mid new here.keeps leaf.keeps;
      spends = leaf-spends c.loop-done.done c.in_ok-done.done (insert_puts (length old.words)) old mid new leaf.loads.1 leaf.loads.2 here.spends (subst (λ (n : ℕ). Spends (insert_puts n) mid new) here.keeps.long leaf.spends);
      loaded = leaf.loads.3;
    }

pub returns-in_err-done-clause-keeps : goal.returns-in_err-done-clause-keeps
returns-in_err-done-clause-keeps g c = Keeps-trans (g.W.Words.sheet c.args.words.now) (g.W.Words.sheet c.loop-done.words) (g.W.Words.sheet c.load_leaf.new.words) c.loop-done.invariant.keeps c.load_leaf.ensures.keeps

pub returns-in_err-done-clause-spends : goal.returns-in_err-done-clause-spends
returns-in_err-done-clause-spends g c =
    let old = g.W.Words.sheet c.args.words.now in
    let mid = g.W.Words.sheet c.loop-done.words in
    let new = g.W.Words.sheet c.load_leaf.new.words in
    let here = c.loop-done.invariant in
    let same = length-map c.args.pairs.now pair_in in
    let more : c.loop-done.done < length (pairs_in c.args.pairs.now) = omega (arith, c.loop-done-test.true, same) in
    subst (λ (n : ℕ). Spends (leaf_puts (length old.words) n) old new) same (leaf-spends c.loop-done.done (length (pairs_in c.args.pairs.now)) (insert_puts (length old.words)) old mid new more (here.loaded.rear more) here.spends (subst (λ (n : ℕ). Spends (insert_puts n) mid new) here.keeps.long c.load_leaf.ensures.spends))

pub returns-in_err-done-clause-loads : goal.returns-in_err-done-clause-loads
returns-in_err-done-clause-loads g c =
    let old = g.W.Words.sheet c.args.words.now in
    let mid = g.W.Words.sheet c.loop-done.words in
    let new = g.W.Words.sheet c.load_leaf.new.words in
    loads-failed (pairs_in c.args.pairs.now) c.loop-done.done old mid new c.from_residual.result _ c.loop-done.invariant.keeps.bads c.load_leaf.ensures.keeps.bads c.in_err-done.ensures.loads c.from_residual.ensures.1
