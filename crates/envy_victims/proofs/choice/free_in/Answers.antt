use Rattle.std.proofs.Common.{◌-◌, ◌∙◌, sym, arith}
use Rattle.envy_policy.proofs.Choosing.{first-in}
use Rattle.envy_space.specs.Pool.{free_at}
use Rattle.envy_victims.specs.Choosing.{frees}
use Rattle.envy_victims.proofs.ChoosingLemmas.{first-with, frees-long}
use Rattle.envy_victims.proofs.choice.free_in.Goals as goal
use Rattle.envy_base.specs.Shape.{positions_of}

pub returns : goal.returns
returns c =
    let pool = c.args.space.now in
    let b = c.bounds-first.ensures in
    first-in c.args.chooser.now (frees pool) c.args.partition _ _ c.lowest_free.result b.whole (frees-long pool ∙ sym c.requires.positions) b.first b.end
    (first-with (free_at pool) (positions_of pool.shape) _ _ c.lowest_free.result (omega arith) c.lowest_free.ensures)
