use Rattle.std.proofs.Common.{◌≡◌}
use Rattle.std.specs.Int.{bit_at}
use Rattle.envy_sum.specs.Register.{register_after}
use Rattle.envy_sum.proofs.register.after_bits.Given as goal

abbrev pub invariant-loop-i : goal.invariant-loop-i
invariant-loop-i l = l.after ≡ register_after l.register (bit_at l.word) l.i
