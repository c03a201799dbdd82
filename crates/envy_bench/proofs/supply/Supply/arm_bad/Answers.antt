use Rattle.std.proofs.Common.{refl}
use Rattle.envy_bench.proofs.PlansLemmas.{BadComesAt-planned}
use Rattle.envy_bench.proofs.supply.Supply.arm_bad.Goals as goal

pub returns-clause-comes : goal.returns-clause-comes
returns-clause-comes c = BadComesAt-planned _ _ _ c.requires refl
