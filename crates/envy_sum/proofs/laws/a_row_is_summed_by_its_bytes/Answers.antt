use Rattle.envy_sum.proofs.Bytes.{summed_by_bytes}
use Rattle.envy_sum.proofs.laws.a_row_is_summed_by_its_bytes.Goals as goal

pub returns : goal.returns
returns c = summed_by_bytes
