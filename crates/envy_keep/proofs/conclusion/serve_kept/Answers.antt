use Rattle.std.proofs.Common.{ap}
use Rattle.envy_io.specs.Taking.{Taking}
use Rattle.envy_serve.specs.Ends.{Ends, Serves}
use Rattle.envy_keep.proofs.Ends.{done-on, keeps-served, off-at}
use Rattle.envy_keep.proofs.conclusion.serve_kept.Goals as goal

pub conclude-status-requires : goal.conclude-status-requires
conclude-status-requires g c is =
    let (start, kept) = c.requires.begun in
    let (turns, s) = c.serve-served.ensures.serves start kept in
    done-on start c.serve-served.new.service.memory c.serve-served.result.end turns (Ends.served (Serves.ends s)) is

pub returns-clause-served : goal.returns-clause-served
returns-clause-served g c start kept =
    keeps-served (g.D.Device.left_since c.close-device.result.0) (g.D.Device.moment c.close-device.result.0) c.conclude-status.new.memory c.close-device.ensures.leaves start c.serve-served.new.service.memory c.serve-served.result.end c.conclude-status.result.0 c.conclude-status.result.1 c.serve-served.result.lines c.serve-served.result.taken _ _ (ap (λ (t : Taking). t.taken) c.new-2.ensures) c.conclude-status.ensures.why c.conclude-status.ensures.status (c.serve-served.ensures.serves start kept)

pub returns-clause-stopped : goal.returns-clause-stopped
returns-clause-stopped g c six =
    let (start, kept) = c.requires.begun in
    let (turns, s) = c.serve-served.ensures.serves start kept in
    (c.close-device.ensures.few, c.close-device.ensures.ended (off-at start c.serve-served.new.service.memory c.conclude-status.new.memory c.serve-served.result.end c.conclude-status.result.0 turns (Ends.served (Serves.ends s)) c.conclude-status.ensures.status six))
