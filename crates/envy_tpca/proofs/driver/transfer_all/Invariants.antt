use Rattle.std.proofs.Common.{◌≡◌, ◌*◌}
use Rattle.envy_soundness.specs.Words.{durable}
use Rattle.envy_tpca.specs.Load.{after, first}
use Rattle.envy_tpca.specs.Loading.{CountsUncut}
use Rattle.envy_tpca.specs.Running.{IsAt}
use Rattle.envy_tpca.specs.Tpc.{deltas}
use Rattle.envy_tpca.specs.Trying.{Rests}
use Rattle.envy_tpca.proofs.driver.transfer_all.Given as goal

abbrev pub invariant-loop-i : goal.invariant-loop-i
invariant-loop-i g l = record {
  load : l.load ≡ after l.i l.initial.load;
  sum : l.deltas ≡ deltas (first l.i l.initial.load);
  rests : Rests (durable l.memory.chart) l.memory;
  reached : IsAt l.area l.initial.load l.every l.i l.initial.memory l.memory;
  uncut : CountsUncut (11 * l.i) l.initial.memory l.memory;
}
