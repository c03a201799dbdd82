use Rattle.envy_keep.proofs.Ends.{concludes-ok, concludes-err}
use Rattle.envy_keep.proofs.conclusion.last_sync.Goals as goal

pub returns-in-Ok : goal.returns-in-Ok
returns-in-Ok g c = concludes-ok c.args.memory.now c.sync.new.self c.in-Ok.ensures.synced c.in-Ok.ensures.answer c.sync.ensures.kept

pub returns-in-Err : goal.returns-in-Err
returns-in-Err g c = concludes-err c.args.memory.now c.sync.new.self _ c.requires c.in-Err.ensures.answer c.sync.ensures.kept
