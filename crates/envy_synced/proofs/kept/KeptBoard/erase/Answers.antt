use Rattle.std.proofs.Common.{◌≡◌}
use Rattle.envy_journal.specs.Journal.{journal_state, kept}
use Rattle.envy_synced.specs.Disk.{notes_of}
use Rattle.envy_synced.proofs.Going.{erases_go, erases_told, went}
use Rattle.envy_synced.proofs.kept.KeptBoard.erase.Goals as goal

pub invariant_of-self : goal.invariant_of-self
invariant_of-self g c =
    let k = c.args.self.now in
    let j = k.journal in
    let new = c.erase.new.journal in
    let seen = g.D.Device.seen in
    let a = g.B.Board.state j.board in
    let b = g.B.Board.state new.board in
    let was = g.met.B.Steady.steady j.board in
    let now = g.met.B.Steady.steady new.board in
    let e = c.erase.ensures in
    record { kept = went seen g.D.Device.moment g.D.Device.hindered g.D.Device.left_since j.dead a j.log new.log k.synced.value.log k.before.value.log (journal_state new.dead b) was.on k.kept (erases_go (kept seen new.log ≡ kept seen j.log) j.dead new.dead a b was now c.args.segment c.erase.result e.state e.kept) e.hindered e.any_moment e.still; light = e.light }

pub returns : goal.returns
returns g c =
    let k = c.args.self.now in
    let j = k.journal in
    let new = c.erase.new.journal in
    let seen = g.D.Device.seen in
    let moment = g.D.Device.moment in
    let s = journal_state j.dead (g.B.Board.state j.board) in
    let t = journal_state new.dead (g.B.Board.state new.board) in
    erases_told (notes_of seen moment g.D.Device.hindered k.synced.value.log k.before.value.log) s t c.args.segment c.erase.result c.erase.ensures.state
