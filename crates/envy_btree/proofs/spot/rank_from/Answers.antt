use Rattle.envy_btree.proofs.Placing.{place-ranked}
use Rattle.envy_btree.proofs.spot.rank_from.Goals as goal

pub returns-clause-rank : goal.returns-clause-rank
returns-clause-rank g c =
    place-ranked (g.W.Words.sheet c.args.words.now).words c.args.a c.args.n c.args.key _ _ _ _ _ c.requires.within c.requires.rise c.in_ok-place.ensures.answer.1
