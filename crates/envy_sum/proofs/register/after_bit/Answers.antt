use Rattle.envy_sum.proofs.Steps.{taken_in-same, taken_in-other}
use Rattle.envy_sum.proofs.register.after_bit.Goals as goal

pub returns-then-register-bit : goal.returns-then-register-bit
returns-then-register-bit c = taken_in-same c.args.register c.args.bit c.if-register-bit.true

pub returns-else-register-bit : goal.returns-else-register-bit
returns-else-register-bit c = taken_in-other c.args.register c.args.bit c.if-register-bit.false
