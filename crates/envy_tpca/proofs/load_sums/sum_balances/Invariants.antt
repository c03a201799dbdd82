use Rattle.std.proofs.Common.{◌≡◌}
use Rattle.envy_soundness.specs.Words.{durable}
use Rattle.envy_tpca.specs.Loading.{Loaded}
use Rattle.envy_tpca.specs.Summing.{balances_in}
use Rattle.envy_tpca.proofs.load_sums.sum_balances.Given as goal

abbrev pub invariant-loop-k : goal.invariant-loop-k
invariant-loop-k g l = record {
  loaded : Loaded l.k l.initial.memory l.memory;
  sum : l.sum ≡ balances_in (durable l.initial.memory.chart) l.from l.k;
}
