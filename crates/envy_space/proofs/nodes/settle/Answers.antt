use Rattle.std.proofs.Common.{◌+◌, ap, sym, ◌≡◌, ◌∙◌}
use Rattle.envy_space.specs.declared.nodes.Entry.{Entry}
use Rattle.envy_space.specs.Winners.{node}
use Rattle.envy_space.proofs.NodeLemmas.{scores-place, scores-same}
use Rattle.envy_space.proofs.nodes.settle.Goals as goal

pub returns-then-score-entry-clause-scores : goal.returns-then-score-entry-clause-scores
returns-then-score-entry-clause-scores c =
    let there : (node c.args.nodes.now (c.args.places + c.args.entry.place)).score ≡ c.args.entry.score = ap (λ (e : Entry). e.score) (sym c.node-score.ensures) ∙ c.if-score-entry.true in
    sym (scores-same c.args.places c.args.entry.place c.args.entry.score c.args.nodes.now there)

pub returns-then-score-entry-2-clause-scores : goal.returns-then-score-entry-2-clause-scores
returns-then-score-entry-2-clause-scores c = c.raise_above.ensures.scores ∙ scores-place c.args.places c.args.entry.place c.args.nodes.now c.args.entry

pub returns-else-score-entry-2-clause-scores : goal.returns-else-score-entry-2-clause-scores
returns-else-score-entry-2-clause-scores c = c.mend_above.ensures.scores ∙ scores-place c.args.places c.args.entry.place c.args.nodes.now c.args.entry
