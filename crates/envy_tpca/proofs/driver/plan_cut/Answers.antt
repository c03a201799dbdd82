use Rattle.envy_tpca.proofs.Planning.{plans-one, cut-one}
use Rattle.envy_tpca.proofs.driver.plan_cut.Goals as goal

pub returns-then-i-every-eq0-clause-since : goal.returns-then-i-every-eq0-clause-since
returns-then-i-every-eq0-clause-since g c = plans-one _ c.args.every c.args.i c.args.memory.now c.arm_before.new.memory c.if-every-ne0.true c.if-i-every-eq0.true c.arm_before.ensures

pub returns-then-i-every-eq0-clause-last : goal.returns-then-i-every-eq0-clause-last
returns-then-i-every-eq0-clause-last g c = cut-one c.args.every c.args.i c.args.memory.now c.arm_before.new.memory c.if-every-ne0.true c.if-i-every-eq0.true c.arm_before.ensures
