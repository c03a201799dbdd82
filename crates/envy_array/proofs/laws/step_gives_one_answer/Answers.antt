use Rattle.envy_array.proofs.Total.{answered}
use Rattle.envy_array.proofs.laws.step_gives_one_answer.Goals as goal

pub returns-clause-some : goal.returns-clause-some
returns-clause-some c = answered
