use Rattle.std.proofs.Common.{◌∙◌, ◌-◌}
use Rattle.envy_space.proofs.TreeLemmas.{AreNodes-set, IsTree-all, before-fits, before-low, before-some, right-before, scores-below}
use Rattle.envy_space.proofs.nodes.mend_all.Goals as goal

pub loop-i-preserved : goal.loop-i-preserved
loop-i-preserved c =
    let n = c.args.places in
    let at = c.loop-i.i in
    let i = c.loop-i.invariant in
    let nodes = c.loop-i.nodes in
    let e = c.better_below.result in
    let low = before-low at n c.loop-i-test.true i.3 in (
      AreNodes-set n (at - 1) nodes e i.0 low,
      scores-below n (at - 1) nodes e low ∙ i.1,
      before-some at c.loop-i-test.true,
      before-fits at n i.3,
      right-before n at nodes e i.0 c.loop-i-test.true i.3 c.better_below.ensures i.4,
    )

pub returns-clause-tree : goal.returns-clause-tree
returns-clause-tree c = IsTree-all c.args.places c.loop-i.i c.loop-i.nodes c.loop-i-test.false c.loop-i.invariant.0 c.loop-i.invariant.4
