use Rattle.std.proofs.Common.{◌∙◌, refl, arith}
use Rattle.envy_btree.proofs.Following.{keys-more, values-more}
use Rattle.envy_btree.proofs.leaf_pairs.leaf_of.Goals as goal

pub loop-i-preserved : goal.loop-i-preserved
loop-i-preserved c =
    let mid = c.loop-i.invariant in
    record {
      keys = c.push.ensures.items ∙ keys-more c.args.pairs.now c.loop-i.i _ c.loop-i.keys.items c.loop-i-test.true mid.keys refl;
      slots = c.push-in-loop-i.ensures.items ∙ values-more c.args.pairs.now c.loop-i.i _ c.loop-i.slots.items c.loop-i-test.true mid.slots refl;
      long = omega (arith, c.push.ensures.len, mid.long);
      wide = omega (arith, c.push-in-loop-i.ensures.len, mid.wide);
    }
