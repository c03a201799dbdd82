use Rattle.std.proofs.Common.{ℕ, List, set, ◌∙◌, ap}
use Rattle.envy_space.proofs.NodeLemmas.{replicate-set}
use Rattle.envy_space.proofs.nodes.lay.Goals as goal

pub returns-clause-late : goal.returns-clause-late
returns-clause-late c =
    ap (λ (xs : List ℕ). set xs 0 c.args.score) (c.mend_all.ensures.scores ∙ c.lay_places.ensures.scores)
    ∙ replicate-set c.args.places 0 c.args.score c.requires.some
