use Rattle.envy_places.proofs.Numbers.{same_code}
use Rattle.envy_places.proofs.laws.no_two_answers_share_a_number.Goals as goal

pub returns : goal.returns
returns c x y is = let law = c.no_two_answers_share_a_number.ensures in same_code law.apart law.few x y is
