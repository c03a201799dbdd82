use Rattle.std.proofs.Common.{arith}
use Rattle.envy_trace.proofs.write.write_line.Goals as goal

pub returns-in-Store-clause-ranges : goal.returns-in-Store-clause-ranges
returns-in-Store-clause-ranges c =
    rw c.in-Store.is (λ _. (omega arith, c.write_command-in-Store.ensures.ranges 1))

pub returns-in-Put-clause-ranges : goal.returns-in-Put-clause-ranges
returns-in-Put-clause-ranges c =
    rw c.in-Put.is (λ _. (omega arith, omega arith, c.write_command-in-Put.ensures.ranges 2))

pub returns-in-Cut-clause-ranges : goal.returns-in-Cut-clause-ranges
returns-in-Cut-clause-ranges c =
    rw c.in-Cut.is (λ place. (place, omega arith, c.write_command-in-Cut.ensures.ranges 1))

pub returns-in-Bad-clause-ranges : goal.returns-in-Bad-clause-ranges
returns-in-Bad-clause-ranges c =
    rw c.in-Bad.is (λ place. (place, omega arith, c.write_command-in-Bad.ensures.ranges 1))
