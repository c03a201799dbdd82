use Rattle.envy_bank.proofs.ChipLaws.{row-read}
use Rattle.envy_bank.proofs.laws.rows_are_read_from_the_chips.Goals as goal

pub returns : goal.returns
returns c = row-read
