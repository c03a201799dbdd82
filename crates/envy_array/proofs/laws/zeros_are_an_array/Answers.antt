use Rattle.envy_array.proofs.Keeping.{IsArray-zeros}
use Rattle.envy_array.proofs.laws.zeros_are_an_array.Goals as goal

pub returns : goal.returns
returns c = IsArray-zeros
