use Rattle.std.proofs.Common.{sym, ◌∙◌, arith}
use Rattle.envy_map.proofs.Readings.{undo-is}
use Rattle.envy_map.proofs.probe.undo.Goals as goal

pub returns-clause-reads : goal.returns-clause-reads
returns-clause-reads g c =
    (c.in_ok-word.ensures.0, c.decode_undo.ensures.value ∙ sym (undo-is (g.B.Board.state c.args.board.now) c.args.page _ c.in_ok-word.word (g.met.B.Board.lawful c.args.board.now) c.requires (grind arith) c.in_ok-word.ensures.1))
