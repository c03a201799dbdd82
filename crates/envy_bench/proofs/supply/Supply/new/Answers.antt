use Rattle.std.proofs.Common.{refl}
use Rattle.envy_bench.proofs.PlansLemmas.{NothingComes-unplanned}
use Rattle.envy_bench.proofs.supply.Supply.new.Goals as goal

pub returns-clause-quiet : goal.returns-clause-quiet
returns-clause-quiet c = NothingComes-unplanned _ refl refl
