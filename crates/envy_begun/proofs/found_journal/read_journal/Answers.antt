use Rattle.std.proofs.Common.{inl, inr, sym, subst}
use Rattle.envy_base.specs.declared.shape.Shape.{Shape}
use Rattle.envy_begun.specs.Unserved.{HasNoWords, Refrains}
use Rattle.envy_journal.specs.Content.{HasMisfit}
use Rattle.envy_journal.specs.Reading.{operations}
use Rattle.envy_begun.proofs.Again.{audited-refrains, opens-whole, refrains-for}
use Rattle.envy_begun.proofs.found_journal.read_journal.Goals as goal

pub returns-in-Ok-clause-words : goal.returns-in-Ok-clause-words
returns-in-Ok-clause-words g c =
    opens-whole (g.B.Board.state c.args.board.now).shape c.args.bytes.now (g.B.Board.state c.replayed.new.board) c.in_ok-end.ensures.opened c.args.setup.now c.requires.shape c.in-Ok.ensures.whole

pub returns-in-Err-clause-refused : goal.returns-in-Err-clause-refused
returns-in-Err-clause-refused g c =
    audited-refrains (g.B.Board.state c.args.board.now).shape c.args.bytes.now (g.B.Board.state c.replayed.new.board) c.in_ok-end.ensures.opened c.args.setup.now c.requires.shape (g.met.B.Board.lawful c.replayed.new.board) c.requires.setup c.in-Err.open_fault c.in-Err.ensures.refused
