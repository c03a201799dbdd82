use Rattle.std.proofs.Common.{refl}
use Rattle.envy_bench.proofs.PlansLemmas.{CutComesAt-planned}
use Rattle.envy_bench.proofs.supply.Supply.arm_cut.Goals as goal

pub returns-clause-comes : goal.returns-clause-comes
returns-clause-comes c = CutComesAt-planned _ _ _ c.requires refl
