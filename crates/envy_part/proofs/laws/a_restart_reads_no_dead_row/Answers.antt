use Rattle.envy_part.proofs.Dead.{alike}
use Rattle.envy_part.proofs.laws.a_restart_reads_no_dead_row.Goals as goal

pub returns : goal.returns
returns c chart rows only = alike chart rows only
