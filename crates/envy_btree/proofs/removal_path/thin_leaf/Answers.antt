use Rattle.std.proofs.Common.{arith}
use Rattle.envy_btree.proofs.Replacing.{leaf-same, leaf-narrowed-ok}
use Rattle.envy_btree.proofs.removal_path.thin_leaf.Goals as goal

pub returns-then-not-branch-clause-back : goal.returns-then-not-branch-clause-back
returns-then-not-branch-clause-back g c low high es rise ke se = leaf-same _ _ _ c.args.keys _ _ low high es _ c.requires.within c.requires.leaf (omega (arith, c.requires.many)) c.requires.few c.requires.place c.in_ok-ends_at.ensures.ends c.if-not-branch.true c.in_ok-ends_at.ensures.same rise ke se

pub returns-clause-back : goal.returns-clause-back
returns-clause-back g c low high es rise ke se = leaf-narrowed-ok _ _ _ _ c.args.keys _ _ low high es _ c.narrow.result c.requires.within c.requires.leaf c.requires.many c.requires.few c.requires.place.within c.in_ok-ends_at.ensures.ends c.if-not-branch.false c.in_ok-ends_at.ensures.same c.narrow.ensures.node c.narrow.ensures.only rise ke se
