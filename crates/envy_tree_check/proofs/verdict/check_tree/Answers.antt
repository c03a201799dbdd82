use Rattle.std.proofs.Common.{◌≡◌, ◌≢◌, ◌+◌, ◌-◌, ◌<◌, ◌≤◌, ◌∙◌, ap, sym, subst, length, get_or, refl, inl, arith}
use Rattle.envy_heap.specs.Pieces.{IsHeap, pieces}
use Rattle.envy_btree.proofs.Viewing.{Looks-trans, load-looks}
use Rattle.envy_tree_check.specs.Faults.{Ails, Causes}
use Rattle.envy_tree_check.specs.Grown.{AreLevels, AreMarked, Dims}
use Rattle.envy_tree_check.specs.declared.fault.MapFault.TheVariants.{Node, Off}
use Rattle.envy_tree_check.proofs.Descending.{root-ails}
use Rattle.envy_tree_check.proofs.Faulting.{ails-cause, err-dims, err-if}
use Rattle.envy_tree_check.proofs.Verdicts.{causes-from, powers-same, seen-from}
use Rattle.envy_tree_check.proofs.verdict.check_tree.Goals as goal

pub returns-in_err-root-clause-power : goal.returns-in_err-root-clause-power
returns-in_err-root-clause-power g c = err-dims _ c.from_residual.result Off _ c.from_residual.ensures.1 c.in_err-root.ensures.answer

pub returns-in_err-root-clause-causes : goal.returns-in_err-root-clause-causes
returns-in_err-root-clause-causes g c free heap m = err-if _ c.from_residual.result Off c.from_residual.ensures.1 tt

pub returns-then-root-eq0-clause-seen : goal.returns-then-root-eq0-clause-seen
returns-then-root-eq0-clause-seen g c free heap m = inl (sym c.in_ok-root.ensures.answer.1 ∙ c.if-root-eq0.true, refl, refl)

pub returns-then-root-last-clause-causes : goal.returns-then-root-last-clause-causes
returns-then-root-last-clause-causes g c free heap m =
    let ws = (g.W.Words.sheet c.args.words.now).words in
    ails-cause ws free (c.in_ok-root.root - 1) Node heap (omega (arith, c.in_ok-root.ensures.answer.1)) (root-ails ws free (c.in_ok-root.root - 1) (omega (arith, c.requires.used)))

pub levels_of-requires : goal.levels_of-requires
levels_of-requires g c =
    let same = c.in_ok-root.ensures.answer.2 in
    record {
      size = subst (λ w. 640 ≤ length w) (sym same) c.requires.size;
      on = c.in_ok-root.ensures.answer.0;
      used = c.requires.used ∙ ap (λ w. get_or w 2 0) (sym same);
      most = subst (λ w. c.args.used ≤ pieces w) (sym same) c.requires.most;
      below = omega arith;
    }

pub returns-in_err-levels-clause-looks : goal.returns-in_err-levels-clause-looks
returns-in_err-levels-clause-looks g c = Looks-trans _ _ _ (load-looks 0 _ _ c.load.result c.load.ensures.works c.load.ensures.spends c.load.ensures.answer) c.levels_of.ensures.looks

pub returns-in_err-levels-clause-power : goal.returns-in_err-levels-clause-power
returns-in_err-levels-clause-power g c = err-dims _ c.from_residual-in_err-levels.result c.in_err-levels.field-0.0 _ c.from_residual-in_err-levels.ensures.1 (subst (λ w. Dims w c.in_err-levels.field-0.0 (g.W.Words.sheet c.levels_of.new.words)) c.in_ok-root.ensures.answer.2 c.in_err-levels.ensures.power)

pub returns-in_err-levels-clause-causes : goal.returns-in_err-levels-clause-causes
returns-in_err-levels-clause-causes g c free heap m =
    let ws = (g.W.Words.sheet c.args.words.now).words in
    let ails = subst (λ w. Ails w free (c.in_ok-root.root - 1) c.in_err-levels.field-0.0) c.in_ok-root.ensures.answer.2 (c.in_err-levels.ensures.ails free) in
    err-if (λ e. Causes ws e) c.from_residual-in_err-levels.result c.in_err-levels.field-0.0 c.from_residual-in_err-levels.ensures.1 (ails-cause ws free (c.in_ok-root.root - 1) c.in_err-levels.field-0.0 heap (omega (arith, c.in_ok-root.ensures.answer.1)) ails)

pub check_under-requires : goal.check_under-requires
check_under-requires g c =
    let same = (c.levels_of.ensures.looks.same c.in_ok-levels.ensures.power).0 ∙ c.in_ok-root.ensures.answer.2 in
    record {
      size = subst (λ w. 640 ≤ length w) (sym same) c.requires.size;
      used = c.requires.used ∙ ap (λ w. get_or w 2 0) (sym same);
      most = subst (λ w. c.args.used ≤ pieces w) (sym same) c.requires.most;
      long = c.requires.long;
      below = omega arith;
      first = λ root. refl;
    }

pub returns-clause-looks : goal.returns-clause-looks
returns-clause-looks g c = Looks-trans _ _ _ (load-looks 0 _ _ c.load.result c.load.ensures.works c.load.ensures.spends c.load.ensures.answer) (Looks-trans _ _ _ c.levels_of.ensures.looks c.check_under.ensures.looks)

pub returns-clause-power : goal.returns-clause-power
returns-clause-power g c =
    let same = (c.levels_of.ensures.looks.same c.in_ok-levels.ensures.power).0 ∙ c.in_ok-root.ensures.answer.2 in
    powers-same _ _ c.check_under.result _ same c.check_under.ensures.power

pub returns-clause-seen : goal.returns-clause-seen
returns-clause-seen g c free heap m =
    let ws = (g.W.Words.sheet c.args.words.now).words in
    let same = (c.levels_of.ensures.looks.same c.in_ok-levels.ensures.power).0 ∙ c.in_ok-root.ensures.answer.2 in
    let named : get_or ws 0 0 ≡ (c.in_ok-root.root - 1) + 1 = omega (arith, c.in_ok-root.ensures.answer.1) in
    let e = c.check_under.ensures in
    seen-from ws _ free c.in_ok-levels.levels (c.in_ok-root.root - 1) c.check_under.result same named (e.grows free (subst (λ w. IsHeap w free) (sym same) heap) (subst (λ w. AreMarked w free c.args.marks.now) (sym same) m)) e.nodes e.pairs

pub returns-clause-causes : goal.returns-clause-causes
returns-clause-causes g c free heap m =
    let ws = (g.W.Words.sheet c.args.words.now).words in
    let same = (c.levels_of.ensures.looks.same c.in_ok-levels.ensures.power).0 ∙ c.in_ok-root.ensures.answer.2 in
    let named : get_or ws 0 0 ≡ (c.in_ok-root.root - 1) + 1 = omega (arith, c.in_ok-root.ensures.answer.1) in
    let levels = subst (λ w. AreLevels w (c.in_ok-root.root - 1) c.in_ok-levels.levels) c.in_ok-root.ensures.answer.2 c.in_ok-levels.ensures.levels in
    causes-from ws _ free c.in_ok-levels.levels (c.in_ok-root.root - 1) c.check_under.result same heap named levels (c.check_under.ensures.sickens free (subst (λ w. AreMarked w free c.args.marks.now) (sym same) m))
