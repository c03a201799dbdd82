use Rattle.envy_btree.proofs.search.+locate.Given as goal

abbrev pub decreases-locate : goal.decreases-locate
decreases-locate g l = l.level
