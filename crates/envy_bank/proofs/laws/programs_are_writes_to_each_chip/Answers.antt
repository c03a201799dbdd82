use Rattle.envy_bank.proofs.ChipLaws.{chips-programmed}
use Rattle.envy_bank.proofs.laws.programs_are_writes_to_each_chip.Goals as goal

pub returns : goal.returns
returns c = chips-programmed
