use Rattle.std.proofs.Common.{arith, refl, get_or}
use Rattle.envy_journal.specs.Reading.{zeros}
use Rattle.envy_journal.proofs.Counting.{zeros_push, zero_in_zero, zero_in_other}
use Rattle.envy_journal.proofs.counted.zeros_of_few.Goals.{then-byte-eq0, else-byte-eq0}
use Rattle.envy_journal.proofs.counted.zeros_of_few.Goals as goal

pub loop-byte-init : goal.loop-byte-init
unfolding zeros
loop-byte-init c = (refl, omega arith)

pub loop-byte-preserved : goal.loop-byte-preserved
loop-byte-preserved c =
    let bytes = c.args.bytes.now in
    let i = c.loop-byte.byte-index in
    let was = c.loop-byte.invariant in
    let more = zeros_push bytes i c.loop-byte-test.true in
    elim c.if-byte-eq0.branch [
      | then-byte-eq0 w ↦ (let one = zero_in_zero (get_or bytes i 0) w.if-byte-eq0.true in omega (arith, w.count-is, was.0, more, one), omega (arith, w.count-is, was.1))
      | else-byte-eq0 w ↦ (let none = zero_in_other (get_or bytes i 0) w.if-byte-eq0.false in omega (arith, w.count-is, was.0, more, none), omega (arith, w.count-is, was.1))
    ]
