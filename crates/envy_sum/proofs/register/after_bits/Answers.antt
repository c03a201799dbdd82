use Rattle.std.proofs.Common.{sym, ap₂, ◌∙◌}
use Rattle.std.specs.Int.{bit_at}
use Rattle.std.proofs.lemmas.Nat.Bits.{shr_and_one}
use Rattle.envy_sum.specs.Register.{taken_in}
use Rattle.envy_sum.proofs.Steps.{register_after-suc}
use Rattle.envy_sum.proofs.Words.{none_taken}
use Rattle.envy_sum.proofs.register.after_bits.Goals as goal

pub loop-i-init : goal.loop-i-init
loop-i-init c = none_taken c.args.register (bit_at c.args.word)

pub loop-i-preserved : goal.loop-i-preserved
loop-i-preserved c =
    c.after_bit-after.ensures ∙ ap₂ taken_in c.loop-i.invariant (shr_and_one c.args.word c.loop-i.i)
    ∙ sym (register_after-suc c.args.register (bit_at c.args.word) c.loop-i.i)
