use Rattle.envy_parted.proofs.Numbers.{same_part}
use Rattle.envy_parted.proofs.laws.no_two_answers_share_a_number.Goals as goal

pub returns : goal.returns
returns c x y is = let law = c.no_two_answers_share_a_number.ensures in same_part law.apart law.few x y is
