use Rattle.envy_run.proofs.IndexLines.{plan-licence}
use Rattle.envy_run.proofs.IndexSpent.{puts-planned}
use Rattle.envy_run.proofs.index_answers.plan_bad.Goals as goal

pub returns-clause-licence : goal.returns-clause-licence
returns-clause-licence g c = plan-licence _ c.args.words.now.memory c.arm_bad.new.self.memory c.arm_bad.ensures.memory

pub returns-clause-spent : goal.returns-clause-spent
returns-clause-spent g c = puts-planned _ c.args.words.now.memory c.arm_bad.new.self.memory c.arm_bad.ensures.memory
