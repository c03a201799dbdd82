use Rattle.std.proofs.Common.{◌≡◌}
use Rattle.envy_journal.specs.Journal.{journal_state, kept}
use Rattle.envy_synced.specs.Disk.{notes_of}
use Rattle.envy_synced.proofs.Going.{puts_go, puts_told, went}
use Rattle.envy_synced.proofs.kept.KeptBoard.put.Goals as goal

pub invariant_of-self : goal.invariant_of-self
invariant_of-self g c =
    let k = c.args.self.now in
    let j = k.journal in
    let new = c.put.new.journal in
    let seen = g.D.Device.seen in
    let a = g.B.Board.state j.board in
    let b = g.B.Board.state new.board in
    let was = g.met.B.Steady.steady j.board in
    let now = g.met.B.Steady.steady new.board in
    let e = c.put.ensures in
    record { kept = went seen g.D.Device.moment g.D.Device.hindered g.D.Device.left_since j.dead a j.log new.log k.synced.value.log k.before.value.log (journal_state new.dead b) was.on k.kept (puts_go (kept seen new.log ≡ kept seen j.log) (journal_state j.dead a) (journal_state new.dead b) c.args.w c.args.v c.put.result e.state e.kept) e.hindered e.any_moment e.still; light = e.light }

pub returns : goal.returns
returns g c =
    let k = c.args.self.now in
    let j = k.journal in
    let new = c.put.new.journal in
    let seen = g.D.Device.seen in
    let moment = g.D.Device.moment in
    let s = journal_state j.dead (g.B.Board.state j.board) in
    let t = journal_state new.dead (g.B.Board.state new.board) in
    puts_told (notes_of seen moment g.D.Device.hindered k.synced.value.log k.before.value.log) s t c.args.w c.args.v c.put.result c.put.ensures.state
