use Rattle.std.proofs.Common.{ℕ, ◌+◌, ◌++◌, ◌∙◌, take, sym, ap, subst, length, arith}
use Rattle.envy_journal.specs.declared.operation.Operation.{Operation}
use Rattle.envy_journal.specs.Reading.{bytes_of}
use Rattle.envy_journal.specs.Whole.{IsWhole}
use Rattle.envy_journal.proofs.Written.{program_long}
use Rattle.envy_journal.proofs.operation.write_operation.Goals as goal

pub write_program-requires : goal.write_program-requires
write_program-requires c =
    let long = ap (λ (o : Operation). length (bytes_of o)) c.in-Program.is ∙ program_long c.in-Program.row c.in-Program.page (subst IsWhole c.in-Program.is c.requires.whole) in
    omega (arith, long, c.requires.room)

pub returns-in-Program-clause-written : goal.returns-in-Program-clause-written
returns-in-Program-clause-written c =
    let long = ap (λ (o : Operation). length (bytes_of o)) c.in-Program.is ∙ program_long c.in-Program.row c.in-Program.page (subst IsWhole c.in-Program.is c.requires.whole) in
    ap (λ (n : ℕ). take (c.args.at + n) c.write_program.new.into) long
    ∙ c.write_program.ensures.written
    ∙ ap (λ (o : Operation). take c.args.at c.args.into.now ++ bytes_of o) (sym c.in-Program.is)
