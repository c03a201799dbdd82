use Rattle.std.proofs.Common.{◌∙◌, ◌/◌, refl, sym}
use Rattle.std.proofs.lemmas.Bool.{false≢true}
use Rattle.envy_space.specs.Winners.{IsTree}
use Rattle.envy_space.proofs.TreeLemmas.{AreNodes-set, IsTree-beside, IsTree-stays, half-below, half-some, right-mended, risen-above, scores-below}
use Rattle.envy_space.proofs.nodes.raise_one.Goals as goal

pub returns-then-node-above-clause-nodes : goal.returns-then-node-above-clause-nodes
returns-then-node-above-clause-nodes c = c.requires.nodes

pub returns-then-node-above-clause-scores : goal.returns-then-node-above-clause-scores
returns-then-node-above-clause-scores c = refl

pub returns-then-node-above-clause-others : goal.returns-then-node-above-clause-others
returns-then-node-above-clause-others c j one lt apart =
    IsTree.right (IsTree-beside c.args.places c.args.at c.args.nodes.now c.node.result c.node-above.result c.requires.nodes c.requires.others c.requires.risen c.node.ensures c.node-above.ensures c.if-node-above.true) j one lt

pub returns-then-node-above-clause-same : goal.returns-then-node-above-clause-same
returns-then-node-above-clause-same c same =
    IsTree-beside c.args.places c.args.at c.args.nodes.now c.node.result c.node-above.result c.requires.nodes c.requires.others c.requires.risen c.node.ensures c.node-above.ensures c.if-node-above.true

pub returns-then-node-above-clause-risen : goal.returns-then-node-above-clause-risen
returns-then-node-above-clause-risen c on = absurd (false≢true on)

pub returns-then-is-clause-nodes : goal.returns-then-is-clause-nodes
returns-then-is-clause-nodes c = c.requires.nodes

pub returns-then-is-clause-scores : goal.returns-then-is-clause-scores
returns-then-is-clause-scores c = refl

pub returns-then-is-clause-others : goal.returns-then-is-clause-others
returns-then-is-clause-others c j one lt apart =
    IsTree.right (IsTree-stays c.args.places (c.args.at / 2) c.args.nodes.now c.requires.nodes c.requires.others (sym c.node-above.ensures ∙ c.is.ensures c.if-is.true ∙ c.risen_better-entry.ensures.better)) j one lt

pub returns-then-is-clause-same : goal.returns-then-is-clause-same
returns-then-is-clause-same c same =
    IsTree-stays c.args.places (c.args.at / 2) c.args.nodes.now c.requires.nodes c.requires.others (sym c.node-above.ensures ∙ c.is.ensures c.if-is.true ∙ c.risen_better-entry.ensures.better)

pub returns-then-is-clause-risen : goal.returns-then-is-clause-risen
returns-then-is-clause-risen c on = absurd (false≢true on)

pub returns-clause-nodes : goal.returns-clause-nodes
returns-clause-nodes c = AreNodes-set c.args.places (c.args.at / 2) c.args.nodes.now c.risen_better-entry.result c.requires.nodes (half-below c.args.at c.args.places c.requires.within)

pub returns-clause-scores : goal.returns-clause-scores
returns-clause-scores c = scores-below c.args.places (c.args.at / 2) c.args.nodes.now c.risen_better-entry.result (half-below c.args.at c.args.places c.requires.within)

pub returns-clause-others : goal.returns-clause-others
returns-clause-others c =
    right-mended c.args.places (c.args.at / 2) c.args.nodes.now c.risen_better-entry.result c.requires.nodes (half-some c.args.at c.requires.some) (half-below c.args.at c.args.places c.requires.within) c.risen_better-entry.ensures.better c.requires.others

pub returns-clause-same : goal.returns-clause-same
returns-clause-same c same = absurd (false≢true (sym same))

pub returns-clause-risen : goal.returns-clause-risen
returns-clause-risen c on =
    risen-above c.args.places c.args.at c.args.nodes.now c.risen_better-entry.result c.requires.nodes c.requires.within c.requires.others c.risen_better-entry.ensures.level
