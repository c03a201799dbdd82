use Rattle.envy_bench.specs.Calm.{IsQuiet}
use Rattle.envy_bench.specs.declared.calm.CalmBoard.{CalmBoard}
use Rattle.envy.proofs.calm_run.run_over_calm_boards.Goals as goal

pub returns-clause-told : goal.returns-clause-told
returns-clause-told g c = c.run.ensures.told (λ (board : CalmBoard) plans pulled. IsQuiet.cuts (board.calm plans pulled))
