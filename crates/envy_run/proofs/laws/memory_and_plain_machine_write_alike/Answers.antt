use Rattle.envy_run.proofs.Equating.{write-alike}
use Rattle.envy_run.proofs.laws.memory_and_plain_machine_write_alike.Goals as goal

pub returns : goal.returns
returns c setup returns_given bytes o p io jo run plain = write-alike c.step_gives_one_answer.ensures.one setup returns_given bytes o p io jo run plain
