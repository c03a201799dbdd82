use Rattle.std.proofs.Common.{◌≡◌, take}
use Rattle.arrayvec.specs.ArrayVec.{array_vec_len}
use Rattle.envy_btree.specs.Tree.{keys_of, values_of}
use Rattle.envy_btree.proofs.leaf_pairs.leaf_of.Given as goal

abbrev pub invariant-loop-i : goal.invariant-loop-i
invariant-loop-i l = record {
  keys : l.keys.items ≡ keys_of (take l.i l.pairs);
  slots : l.slots.items ≡ values_of (take l.i l.pairs);
  long : array_vec_len l.keys ≡ l.i;
  wide : array_vec_len l.slots ≡ l.i;
}
