use Rattle.envy_calls.proofs.Numbers.{below, same_number}
use Rattle.envy_calls.proofs.laws.no_two_answers_share_a_number.Goals as goal

pub returns : goal.returns
returns c = record { apart = same_number; few = below }
