use Rattle.std.proofs.Common.{◌∙◌, ◌<◌, sym, ap, arith}
use Rattle.std.proofs.lemmas.List.{ext_get_or, length-replicate, get_or-replicate}
use Rattle.envy_space.specs.declared.nodes.Entry.{Entry}
use Rattle.envy_space.proofs.NodeLemmas.{length-scores, score_at}
use Rattle.envy_space.proofs.nodes.lay_places.Goals as goal

pub returns-clause-scores : goal.returns-clause-scores
returns-clause-scores c =
    let long = length-scores c.args.places c.loop-place.nodes (omega arith) in
    ext_get_or 0 _ _ (long ∙ sym (length-replicate c.args.places c.args.score))
    (λ k lt. let low : k < c.args.places = omega arith in
    score_at c.args.places k c.loop-place.nodes ∙ ap (λ (e : Entry). e.score) (c.loop-place.invariant k (omega arith)) ∙ sym (get_or-replicate c.args.places k c.args.score 0 low))
