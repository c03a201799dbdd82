use Rattle.envy_map.specs.Fields.{chart}
use Rattle.envy_soundness.proofs.SlotLaw.{SameWords-unused}
use Rattle.envy_soundness.proofs.slots.set_unused_slot.Goals as goal

pub returns-clause-same : goal.returns-clause-same
returns-clause-same g c = SameWords-unused (chart (g.B.Board.state c.args.board.now)) (chart (g.B.Board.state c.set_slot.new.board)) c.args.t c.args.slot c.set_slot.result c.requires.sound c.requires.slot c.requires.unused c.set_slot.ensures.writes
