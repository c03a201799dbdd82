use Rattle.std.proofs.Common.{◌≡◌, ◌+◌, ◌*◌, length, refl, arith}
use Rattle.envy_sum.specs.Register.{all_ones}
use Rattle.envy_sum.specs.Rows.{bit_of}
use Rattle.envy_sum.proofs.Words.{none_taken, summed, taken_number}
use Rattle.envy_sum.proofs.sums.Sums.sum_of.Goals as goal

pub loop-four-init : goal.loop-four-init
loop-four-init c = none_taken all_ones (bit_of c.args.row.now)

pub loop-four-preserved : goal.loop-four-preserved
loop-four-preserved c =
    let row = c.args.row.now in
    let q = 4 * c.loop-four.four in
    let first = taken_number 64 row all_ones q (q + 1) _ _ _ c.loop-four.invariant c.after_word-register.ensures refl refl in
    let second = taken_number 64 row all_ones (q + 1) (q + 2) _ _ _ first c.after_word-register-in-loop-four.ensures refl (omega arith) in
    let third = taken_number 64 row all_ones (q + 2) (q + 3) _ _ _ second c.after_word-register-in-loop-four-2.ensures refl (omega arith) in
    taken_number 64 row all_ones (q + 3) (4 * (c.loop-four.four + 1)) _ _ _ third c.after_word-register-in-loop-four-3.ensures refl (omega arith)

pub returns : goal.returns
returns c =
    let all : 64 * (4 * c.loop-four.four) ≡ 64 * length c.args.row.now = omega arith in
    summed (bit_of c.args.row.now) c.loop-four.register _ _ c.loop-four.invariant all
