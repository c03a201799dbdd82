use Rattle.envy_synced.proofs.Going.{journal_off}
use Rattle.envy_synced.proofs.kept.Kept.into_journal.Goals as goal

pub returns-clause-ended : goal.returns-clause-ended
returns-clause-ended g c off =
    let j = c.args.self.journal in
    j.ended (journal_off j.dead (g.B.Board.state j.board) (g.met.B.Steady.steady j.board).on off)
