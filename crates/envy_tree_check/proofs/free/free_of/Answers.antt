use Rattle.std.proofs.Common.{◌≡◌, ◌+◌, ◌*◌, ◌-◌, ◌<◌, ◌≤◌, ◌∙◌, ap, sym, subst, length, get_or, arith}
use Rattle.envy_heap.specs.Pieces.{head}
use Rattle.envy_btree.proofs.Viewing.{Looks-trans, load-looks}
use Rattle.envy_tree_check.specs.declared.fault.MapFault.TheVariants.{Off, FreeList}
use Rattle.envy_tree_check.proofs.Faulting.{err-dims, err-if}
use Rattle.envy_tree_check.proofs.Freeing.{walked-all, walked-long, walked-more, walked-none, walked-past}
use Rattle.envy_tree_check.proofs.free.free_of.Goals as goal

pub returns-in_err-link-clause-power : goal.returns-in_err-link-clause-power
returns-in_err-link-clause-power g c = err-dims _ c.from_residual.result Off _ c.from_residual.ensures.1 c.in_err-link.ensures.answer

pub returns-in_err-link-clause-causes : goal.returns-in_err-link-clause-causes
returns-in_err-link-clause-causes g c = err-if _ c.from_residual.result Off c.from_residual.ensures.1 tt

pub loop-free-init : goal.loop-free-init
loop-free-init g c = record {
  looks = load-looks 1 _ _ c.load.result c.load.ensures.works c.load.ensures.spends c.load.ensures.answer;
  on = c.in_ok-link.ensures.answer.0;
  same = c.in_ok-link.ensures.answer.2;
  walked = walked-none _ c.args.used _ c.in_ok-link.link c.in_ok-link.ensures.answer.1;
}

pub returns-then-link-eq0-clause-looks : goal.returns-then-link-eq0-clause-looks
returns-then-link-eq0-clause-looks g c = c.loop-free.invariant.looks

pub returns-then-link-eq0-clause-free : goal.returns-then-link-eq0-clause-free
returns-then-link-eq0-clause-free g c = walked-all _ _ _ _ _ _ c.loop-free.invariant.walked c.if-link-eq0.true c.requires.size c.requires.used c.requires.most c.requires.long c.requires.blank

pub returns-then-link-last-clause-causes : goal.returns-then-link-last-clause-causes
returns-then-link-last-clause-causes g c = walked-past _ _ _ _ _ _ c.loop-free.invariant.walked (omega arith) c.requires.size c.requires.used c.requires.most

pub loop-free-preserved : goal.loop-free-preserved
loop-free-preserved g c = record {
  looks = Looks-trans _ _ _ c.loop-free.invariant.looks (load-looks _ _ _ c.load-in-loop-free.result c.load-in-loop-free.ensures.works c.load-in-loop-free.ensures.spends c.load-in-loop-free.ensures.answer);
  on = c.in_ok-next.ensures.answer.0;
  same = c.in_ok-next.ensures.answer.2 ∙ c.loop-free.invariant.same;
  walked = walked-more _ _ _ _ _ _ _ _ c.loop-free.invariant.walked c.if-link-eq0.false (omega arith) (c.in_ok-next.ensures.answer.1 ∙ ap (λ w. get_or w (head (c.loop-free.link - 1)) 0) c.loop-free.invariant.same) c.mark.ensures;
}

pub returns-clause-causes : goal.returns-clause-causes
returns-clause-causes g c = walked-long _ _ _ _ _ _ c.loop-free.invariant.walked (omega arith) c.requires.size c.requires.used c.requires.most
