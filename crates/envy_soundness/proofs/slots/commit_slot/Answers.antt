use Rattle.envy_map.specs.Fields.{chart}
use Rattle.envy_soundness.proofs.SlotLaw.{Commits-put}
use Rattle.envy_soundness.proofs.slots.commit_slot.Goals as goal

pub returns-clause-commits : goal.returns-clause-commits
returns-clause-commits g c = Commits-put (chart (g.B.Board.state c.args.board.now)) (chart (g.B.Board.state c.set_slot.new.board)) c.args.t c.set_slot.result c.requires.sound c.requires.slot c.set_slot.ensures.writes
