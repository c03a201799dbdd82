use Rattle.std.proofs.Common.{◌∙◌, ap}
use Rattle.envy_begun.proofs.Opening.{long_head}
use Rattle.envy_journal.specs.Content.{Content, after}
use Rattle.envy_journal.specs.Reading.{operations}
use Rattle.envy_begun.proofs.found_journal.replayed.Goals as goal

pub replay_file-requires : goal.replay_file-requires
replay_file-requires g c = long_head (g.B.Board.state c.args.board.now).shape c.args.bytes.now c.requires.head

pub returns-in-Ok-clause-opened : goal.returns-in-Ok-clause-opened
returns-in-Ok-clause-opened g c =
    let old = g.B.Board.state c.args.board.now in
    record {
      head = c.requires.head;
      shape = c.replay_file.ensures.shape;
      content = c.in-Ok.ensures.content ∙ ap (λ (x : Content). after old.shape.rows (operations c.args.bytes.now) x) c.requires.blank;
      ends = c.in-Ok.ensures.end.unbroken;
    }

pub returns-in-Err-Damaged-clause-refused : goal.returns-in-Err-Damaged-clause-refused
returns-in-Err-Damaged-clause-refused g c = (c.in-Err-Damaged.ensures.damaged c.in-Err-Damaged.place c.in-Err-Damaged.field-0-is).1
