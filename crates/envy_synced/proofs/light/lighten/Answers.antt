use Rattle.std.proofs.Common.{◌≡◌, ◌∙◌, Bool, sym, ap}
use Rattle.envy_journal.specs.Journal.{journal_state}
use Rattle.envy_synced.proofs.Lightened.{cut_behind}
use Rattle.envy_synced.proofs.light.lighten.Goals as goal

pub returns-in-Ok-clause-same : goal.returns-in-Ok-clause-same
returns-in-Ok-clause-same g c =
    let did = c.in-Ok.ensures in
    let dead : c.condense.new.self.dead ≡ c.args.journal.now.dead = did.alive.1 ∙ sym did.alive.0 in
    λ i. journal_state (dead i) (g.B.Board.state (did.board i))

pub returns-in-Err-clause-off : goal.returns-in-Err-clause-off
returns-in-Err-clause-off g c on =
    let j = c.args.journal.now in
    let new = c.condense.new.self in
    cut_behind j.dead new.dead (g.B.Board.state j.board) (g.B.Board.state new.board) (ap (λ (x : g.row.B.Denot). g.B.Board.state x) c.condense.ensures.board) c.in-Err.ensures.dead on
