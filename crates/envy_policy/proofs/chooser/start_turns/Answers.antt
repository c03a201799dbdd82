use Rattle.std.proofs.Common.{arith}
use Rattle.std.proofs.lemmas.List.FromFn.{fill_by_all}
use Rattle.envy_policy.specs.History.{last_in}
use Rattle.envy_policy.proofs.chooser.start_turns.Goals as goal

pub returns : goal.returns
returns c = fill_by_all (last_in c.args.positions c.args.run) c.loop-g.turns _ 0 (omega arith) (λ k below. c.loop-g.invariant k (omega arith))
