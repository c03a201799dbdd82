use Rattle.std.proofs.Common.{◌≡◌, ◌*◌, length, refl, arith}
use Rattle.envy_sum.specs.Register.{all_ones}
use Rattle.envy_sum.specs.Register.{bit_of_bytes}
use Rattle.envy_sum.proofs.Words.{none_taken, summed, taken_number}
use Rattle.envy_sum.proofs.register.sum_of_bytes.Goals as goal

pub loop-byte-init : goal.loop-byte-init
loop-byte-init c = none_taken all_ones (bit_of_bytes c.args.bytes.now)

pub loop-byte-preserved : goal.loop-byte-preserved
loop-byte-preserved c =
    taken_number 8 c.args.bytes.now all_ones c.loop-byte.byte-index _ _ _ _ c.loop-byte.invariant c.after_bits-register.ensures c.from.ensures refl

pub returns : goal.returns
returns c =
    let all : 8 * c.loop-byte.byte-index ≡ 8 * length c.args.bytes.now = omega arith in
    summed (bit_of_bytes c.args.bytes.now) c.loop-byte.register _ _ c.loop-byte.invariant all
