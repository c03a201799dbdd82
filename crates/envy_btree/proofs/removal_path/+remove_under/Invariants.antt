use Rattle.envy_btree.proofs.removal_path.+remove_under.Given as goal

abbrev pub decreases-remove_under : goal.decreases-remove_under
decreases-remove_under g l = l.level
