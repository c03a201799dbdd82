use Rattle.std.proofs.Common.{arith}
use Rattle.envy_btree.proofs.Replacing.{leaf-replaced, leaf-widened}
use Rattle.envy_btree.proofs.insertion_path.grow_leaf.Goals as goal

pub returns-then-branch-clause-saved : goal.returns-then-branch-clause-saved
returns-then-branch-clause-saved g c low high es free rise ke se heap out = leaf-replaced _ _ _ _ c.args.keys _ _ _ low high es _ c.requires.within c.requires.leaf c.requires.few c.requires.place.within c.in_ok-ends_at.ensures.ends c.if-branch.true c.in_ok-ends_at.ensures.same c.in_ok-put.ensures.answer.1 rise ke se

pub returns-clause-saved : goal.returns-clause-saved
returns-clause-saved g c low high es free rise ke se heap out = leaf-widened _ _ _ _ c.args.keys _ _ _ low high es _ c.requires.within c.requires.leaf (omega (arith, c.requires.few, c.if-keys-eq31.false)) c.requires.place c.in_ok-ends_at.ensures.ends c.if-branch.false c.in_ok-ends_at.ensures.same c.in_ok-widen.ensures.node c.in_ok-widen.ensures.only rise ke se
