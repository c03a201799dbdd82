use Rattle.test_relocations.proofs.CallLemmas.{fails_make, steps_make}
use Rattle.test_relocations.proofs.calls.a_step_is_a_call.Goals as goal

pub returns-clause-done : goal.returns-clause-done
returns-clause-done c = steps_make

pub returns-clause-bad : goal.returns-clause-bad
returns-clause-bad c = fails_make
