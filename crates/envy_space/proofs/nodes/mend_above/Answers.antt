use Rattle.std.proofs.Common.{◌∙◌, ◌/◌, sym}
use Rattle.envy_space.proofs.TreeLemmas.{AreNodes-set, IsTree-stays, IsTree-top, half-below, half-some, half-twice, right-mended, scores-below}
use Rattle.envy_space.proofs.nodes.mend_above.Goals as goal

pub returns-then-is-clause-tree : goal.returns-then-is-clause-tree
returns-then-is-clause-tree c =
    IsTree-stays c.args.places (c.loop-at.at / 2) c.loop-at.nodes c.loop-at.invariant.0 c.loop-at.invariant.4 (sym c.node.ensures ∙ c.is.ensures c.if-is.true ∙ c.better_below-entry.ensures)

pub returns-then-is-clause-scores : goal.returns-then-is-clause-scores
returns-then-is-clause-scores c = c.loop-at.invariant.1

pub loop-at-preserved : goal.loop-at-preserved
loop-at-preserved c =
    let at = c.loop-at.at in
    let n = c.args.places in
    let i = c.loop-at.invariant in
    let low = half-below at n i.3 in
    let some = half-some at c.loop-at-test.true in
    let nodes = c.loop-at.nodes in
    let e = c.better_below-entry.result in (
      AreNodes-set n (at / 2) nodes e i.0 low,
      scores-below n (at / 2) nodes e low ∙ i.1,
      some,
      half-twice at n c.loop-at-test.true i.3,
      right-mended n (at / 2) nodes e i.0 some low c.better_below-entry.ensures i.4,
    )

pub returns-clause-tree : goal.returns-clause-tree
returns-clause-tree c = IsTree-top c.args.places c.loop-at.at c.loop-at.nodes c.loop-at-test.false c.loop-at.invariant.0 c.loop-at.invariant.4
