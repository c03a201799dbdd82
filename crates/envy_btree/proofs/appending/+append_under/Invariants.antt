use Rattle.envy_btree.proofs.appending.+append_under.Given as goal

abbrev pub decreases-append_under : goal.decreases-append_under
decreases-append_under g l = l.level
