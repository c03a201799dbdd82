use Rattle.std.proofs.Common.{◌∙◌, sym, ap, subst, length}
use Rattle.envy_journal.specs.declared.operation.Operation.{Operation}
use Rattle.envy_journal.specs.Reading.{bytes_of}
use Rattle.envy_journal.specs.Whole.{IsWhole}
use Rattle.envy_journal.proofs.Written.{program_long}
use Rattle.envy_journal.proofs.operation.operation_size.Goals as goal

pub returns-in-Program-clause-size : goal.returns-in-Program-clause-size
returns-in-Program-clause-size c =
    let long = subst IsWhole c.in-Program.is c.requires in
    sym (ap (λ (o : Operation). length (bytes_of o)) c.in-Program.is ∙ program_long c.in-Program.row c.in-Program.page long)
