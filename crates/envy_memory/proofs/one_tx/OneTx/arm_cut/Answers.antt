use Rattle.std.proofs.Common.{ap}
use Rattle.envy_memory.specs.Picture.{Picture}
use Rattle.envy_memory.proofs.Ended.{few-as, planned-held}
use Rattle.envy_memory.proofs.one_tx.OneTx.arm_cut.Goals as goal

pub invariant_of-self : goal.invariant_of-self
invariant_of-self g c = record {
  few = few-as c.args.self.now.memory.chart c.arm_cut.new.self.chart (ap (λ (p : Picture). p.chart.shape) c.arm_cut.ensures) c.args.self.now.few;
  held = planned-held _ c.args.self.now.memory c.arm_cut.new.self c.args.self.now.begun c.arm_cut.ensures c.args.self.now.held;
}
