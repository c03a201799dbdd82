use Rattle.std.proofs.Common.{◌≡◌, ◌+◌, ◌*◌, ◌%◌, ◌<◌, ◌≤◌, ◌∙◌, ap, sym, subst, length, get_or, refl, arith}
use Rattle.envy_heap.specs.Pieces.{at, head}
use Rattle.envy_btree.specs.Rules.{kind_at, slot_at}
use Rattle.envy_btree.proofs.Viewing.{Looks-refl, Looks-trans, load-looks}
use Rattle.envy_tree_check.specs.declared.fault.MapFault.TheVariants.{Off}
use Rattle.envy_tree_check.proofs.Descending.{Descends, are-levels, deep-ails, descends-more, descends-none, node-ails}
use Rattle.envy_tree_check.proofs.Faulting.{err-dims, err-if}
use Rattle.envy_tree_check.proofs.Totals.{used-within}
use Rattle.envy_tree_check.proofs.levels.levels_of.Goals as goal

pub loop-level-init : goal.loop-level-init
loop-level-init g c = record {
  looks = Looks-refl _;
  on = c.requires.on;
  same = refl;
  below = c.requires.below;
  way = descends-none _ c.args.root;
}

pub load-requires : goal.load-requires
load-requires g c =
    let within = used-within (g.W.Words.sheet c.args.words.now).words c.loop-level.piece c.args.used c.loop-level.invariant.below c.requires.most in
    omega (arith, within, ap length c.loop-level.invariant.same)

pub load-requires-in-loop-level : goal.load-requires-in-loop-level
load-requires-in-loop-level g c =
    let within = used-within (g.W.Words.sheet c.args.words.now).words c.loop-level.piece c.args.used c.loop-level.invariant.below c.requires.most in
    omega (arith, within, ap length c.loop-level.invariant.same, ap length c.in_ok-word.ensures.answer.2)

pub returns-in_err-word-clause-ails : goal.returns-in_err-word-clause-ails
returns-in_err-word-clause-ails g c free = err-if _ c.from_residual.result Off c.from_residual.ensures.1 tt

pub returns-then-word-eq0-clause-levels : goal.returns-then-word-eq0-clause-levels
returns-then-word-eq0-clause-levels g c =
    let word = c.in_ok-word.ensures.answer.1 ∙ ap (λ w. get_or w (head c.loop-level.piece) 0) c.loop-level.invariant.same in
    are-levels _ _ _ _ c.loop-level.invariant.way (subst (λ x. x % 2 ≡ 0) word c.if-word-eq0.true)

pub returns-then-child-limit-clause-ails : goal.returns-then-child-limit-clause-ails
returns-then-child-limit-clause-ails g c free =
    let word = c.in_ok-word.ensures.answer.1 ∙ ap (λ w. get_or w (head c.loop-level.piece) 0) c.loop-level.invariant.same in
    let child = c.in_ok-child.ensures.answer.1 ∙ ap (λ w. get_or w (at c.loop-level.piece 32) 0) (c.in_ok-word.ensures.answer.2 ∙ c.loop-level.invariant.same) in
    let odd : kind_at (g.W.Words.sheet c.args.words.now).words c.loop-level.piece ≡ 1 = subst (λ x. x % 2 ≡ 1) word (omega arith) in
    node-ails _ free _ _ _ c.in_ok-child.child c.loop-level.invariant.way odd (child ∙ ap (λ x. get_or (g.W.Words.sheet c.args.words.now).words x 0) (let e : at c.loop-level.piece 32 ≡ at c.loop-level.piece 32 + 0 = omega arith in e)) (omega (arith, c.requires.used))

pub loop-level-preserved : goal.loop-level-preserved
loop-level-preserved g c =
    let word = c.in_ok-word.ensures.answer.1 ∙ ap (λ w. get_or w (head c.loop-level.piece) 0) c.loop-level.invariant.same in
    let same = c.in_ok-child.ensures.answer.2 ∙ c.in_ok-word.ensures.answer.2 ∙ c.loop-level.invariant.same in
    let child = c.in_ok-child.ensures.answer.1 ∙ ap (λ w. get_or w (at c.loop-level.piece 32) 0) (c.in_ok-word.ensures.answer.2 ∙ c.loop-level.invariant.same) in
    let odd : kind_at (g.W.Words.sheet c.args.words.now).words c.loop-level.piece ≡ 1 = subst (λ x. x % 2 ≡ 1) word (omega arith) in
    record {
      looks = Looks-trans _ _ _ c.loop-level.invariant.looks (Looks-trans _ _ _ (load-looks _ _ _ c.load.result c.load.ensures.works c.load.ensures.spends c.load.ensures.answer) (load-looks _ _ _ c.load-in-loop-level.result c.load-in-loop-level.ensures.works c.load-in-loop-level.ensures.spends c.load-in-loop-level.ensures.answer));
      on = c.in_ok-child.ensures.answer.0;
      same = same;
      below = omega arith;
      way = descends-more _ _ _ _ _ c.loop-level.invariant.way odd (child ∙ ap (λ x. get_or (g.W.Words.sheet c.args.words.now).words x 0) (let e : at c.loop-level.piece 32 ≡ at c.loop-level.piece 32 + 0 = omega arith in e));
    }

pub returns-clause-ails : goal.returns-clause-ails
returns-clause-ails g c free = deep-ails _ free _ _ (subst (λ x. Descends (g.W.Words.sheet c.args.words.now).words c.args.root c.loop-level.piece x) (let e : c.loop-level.level ≡ 7 = omega arith in e) c.loop-level.invariant.way)
