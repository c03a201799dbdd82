use Rattle.envy_bank.proofs.ChipLaws.{chips-upset}
use Rattle.envy_bank.proofs.laws.upsets_reach_each_chip.Goals as goal

pub returns : goal.returns
returns c = chips-upset
