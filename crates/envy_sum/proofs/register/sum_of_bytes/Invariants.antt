use Rattle.std.proofs.Common.{◌≡◌, ◌*◌}
use Rattle.envy_sum.specs.Register.{register_after, bit_of_bytes}
use Rattle.envy_sum.specs.Register.{all_ones}
use Rattle.envy_sum.proofs.register.sum_of_bytes.Given as goal

abbrev pub invariant-loop-byte : goal.invariant-loop-byte
invariant-loop-byte l = l.register ≡ register_after all_ones (bit_of_bytes l.bytes) (8 * l.byte-index)
