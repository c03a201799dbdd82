use Rattle.envy_btree.proofs.insertion_path.+insert_under.Given as goal

abbrev pub decreases-insert_under : goal.decreases-insert_under
decreases-insert_under g l = l.level
