use Rattle.envy_bank.proofs.ChipLaws.{chips-erased}
use Rattle.envy_bank.proofs.laws.erases_are_writes_to_each_chip.Goals as goal

pub returns : goal.returns
returns c = chips-erased
