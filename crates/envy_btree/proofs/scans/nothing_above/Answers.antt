use Rattle.envy_btree.proofs.Calling.{all-below}
use Rattle.envy_btree.proofs.scans.nothing_above.Goals as goal

pub returns-clause-finds : goal.returns-clause-finds
returns-clause-finds g c es x =
    let s = c.in_ok-_pairs.ensures.counts es x in
    (s.0, all-below (g.W.Words.sheet c.args.words.now).words es x, s.2)
