use Rattle.std.proofs.Common.{refl}
use Rattle.envy_map.specs.Fields.{chart}
use Rattle.envy_map.specs.Writes.{with_frame_word}
use Rattle.envy_soundness.proofs.Composition.{Counted-put, Wears-put}
use Rattle.envy_soundness.proofs.FrameLaw.{Stored-word, Shadowed-word}
use Rattle.envy_soundness.proofs.frame.change_frame_word.Goals as goal

pub returns-clause-free : goal.returns-clause-free
returns-clause-free g c = λ free. Stored-word (chart (g.B.Board.state c.args.board.now)) (chart (g.B.Board.state c.set_frame_word.new.board)) c.args.page c.args.frame c.args.i c.args.word c.set_frame_word.result c.requires.sound c.requires.place c.requires.here free c.set_frame_word.ensures.writes

pub returns-clause-owned : goal.returns-clause-owned
returns-clause-owned g c = λ owned. Shadowed-word (chart (g.B.Board.state c.args.board.now)) (chart (g.B.Board.state c.set_frame_word.new.board)) c.args.page c.args.frame c.args.i c.args.word c.set_frame_word.result c.requires.sound c.requires.place c.requires.here owned c.set_frame_word.ensures.writes

pub returns-clause-counted : goal.returns-clause-counted
returns-clause-counted g c = Counted-put (chart (g.B.Board.state c.args.board.now)) (chart (g.B.Board.state c.set_frame_word.new.board)) (with_frame_word c.args.frame c.args.i c.args.word) c.set_frame_word.result c.set_frame_word.ensures.writes

pub returns-clause-worn : goal.returns-clause-worn
returns-clause-worn g c = Wears-put (chart (g.B.Board.state c.args.board.now)) (chart (g.B.Board.state c.set_frame_word.new.board)) (with_frame_word c.args.frame c.args.i c.args.word) c.set_frame_word.result refl c.set_frame_word.ensures.writes
