use Rattle.std.proofs.Common.{◌≡◌, ◌++◌, IfOk, sym, subst}
use Rattle.envy_btree.specs.declared.part.Part.{Part}
use Rattle.envy_btree.specs.declared.way.Way.{Way}
use Rattle.envy_btree.specs.Looking.{first_of, pair_at, pairs_after, pairs_by, place_by}
use Rattle.envy_btree.proofs.part.part_of.Goals as goal

pub returns-in-Up-clause-pairs : goal.returns-in-Up-clause-pairs
returns-in-Up-clause-pairs g c es x =
    subst (λ (w : Way). IfOk c.part_up.result (λ (x : Part). pairs_by w c.args.key es ≡ first_of (λ j. pair_at (g.W.Words.sheet c.args.words.now).words c.args.leaf.spot.piece (place_by w x.place j)) x.count ++ pairs_after w x.next es)) (sym c.in-Up.is) (c.part_up.ensures.pairs es x)

pub returns-in-Down-clause-pairs : goal.returns-in-Down-clause-pairs
returns-in-Down-clause-pairs g c es x =
    subst (λ (w : Way). IfOk c.part_down.result (λ (x : Part). pairs_by w c.args.key es ≡ first_of (λ j. pair_at (g.W.Words.sheet c.args.words.now).words c.args.leaf.spot.piece (place_by w x.place j)) x.count ++ pairs_after w x.next es)) (sym c.in-Down.is) (c.part_down.ensures.pairs es x)
