use Rattle.std.proofs.Common.{◌∙◌}
use Rattle.envy_journal.specs.Snapshot.{gathered}
use Rattle.envy_journal.proofs.Gathered.{makes_front, ok_goes}
use Rattle.envy_journal.proofs.log.Log.begin_second.Goals as goal

pub returns-clause-makes : goal.returns-clause-makes
returns-clause-makes g c =
    ok_goes c.begin_with.result c.begin_with.ensures.gathered (λ now. makes_front c.args.shape.now (gathered g.D.Replaceable.second c.begin_with.new.self) (now ∙ c.with_gate.ensures))
