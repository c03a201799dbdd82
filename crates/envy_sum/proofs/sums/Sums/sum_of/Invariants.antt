use Rattle.std.proofs.Common.{◌≡◌, ◌*◌}
use Rattle.envy_sum.specs.Register.{register_after}
use Rattle.envy_sum.specs.Rows.{bit_of}
use Rattle.envy_sum.specs.Register.{all_ones}
use Rattle.envy_sum.proofs.sums.Sums.sum_of.Given as goal

abbrev pub invariant-loop-four : goal.invariant-loop-four
invariant-loop-four l = l.register ≡ register_after all_ones (bit_of l.row) (64 * (4 * l.four))
