use Rattle.std.proofs.Common.{inl, inr, refl, ◌∙◌, arith}
use Rattle.envy_base.specs.Shape.{IsShape}
use Rattle.envy_map.specs.Fields.{chart}
use Rattle.envy_memory.proofs.AttachLemmas.{formatted-sound}
use Rattle.envy_run.specs.Loading.{HasTaken}
use Rattle.envy_run.specs.declared.endings.Ending.TheVariants.{OutOfMemory, PowerLost}
use Rattle.envy_run.proofs.Checked.{shape-of-checked}
use Rattle.envy_run.proofs.Resumed.{image-ended, image-traced, image-unread}
use Rattle.envy_run.proofs.resume_run.serve_image.Goals as goal

pub attach-requires-clause-formatted : goal.attach-requires-clause-formatted
attach-requires-clause-formatted g c = formatted-sound (chart (g.B.Board.state c.args.board)) c.requires.sound.0.0 c.requires.sound.1

pub returns-in-Err-default-Memory-clause-does : goal.returns-in-Err-default-Memory-clause-does
returns-in-Err-default-Memory-clause-does g c =
    let (from, t) = c.requires.taken in
    let (k, on) = rw c.in-Err-default-Memory.field-0-1-is at c.in-Err-default-Memory.ensures in
    image-unread c.args.setup (g.B.Board.state c.args.board) c.requires.installed g.B.Board.state OutOfMemory c.taken-taken.result c.in-Err-default-Memory.board c.stopped_at.result (g.S.Source.feed c.args.source.now) (g.K.Sink.drain c.args.sink.now) c.stopped_at.ensures (c.taken-taken.ensures ∙ HasTaken.taken t) k (inl (refl, on))

pub returns-in-Err-default-Dead-clause-does : goal.returns-in-Err-default-Dead-clause-does
returns-in-Err-default-Dead-clause-does g c =
    let (from, t) = c.requires.taken in
    let (k, off, lives) = rw c.in-Err-default-Dead.field-0-1-is at c.in-Err-default-Dead.ensures in
    image-unread c.args.setup (g.B.Board.state c.args.board) c.requires.installed g.B.Board.state PowerLost c.taken-taken.result c.in-Err-default-Dead.board c.stopped_at-in-Err-default-Dead.result (g.S.Source.feed c.args.source.now) (g.K.Sink.drain c.args.sink.now) c.stopped_at-in-Err-default-Dead.ensures (c.taken-taken.ensures ∙ HasTaken.taken t) k (inr (refl, off, lives))

pub serve-served-requires-clause-begun : goal.serve-served-requires-clause-begun
serve-served-requires-clause-begun g c =
    (_, image-traced c.args.setup (g.B.Board.state c.args.board) c.requires.installed c.in-Ok.memory (IsShape.entries (shape-of-checked c.args.setup c.requires.setup)) c.in-Ok.ensures)

pub returns-clause-does : goal.returns-clause-does
returns-clause-does g c =
    let (from, t) = c.requires.taken in
    image-ended c.args.setup (g.B.Board.state c.args.board) c.requires.installed g.B.Board.state c.in-Ok.memory c.serve-served.new.service.memory c.serve-served.result.end c.serve-served.result.lines c.serve-served.result.taken c.args.lines.taken c.into_board.result c.finished_with.result (record { from = g.S.Source.feed c.args.source.now; feed = g.S.Source.feed c.serve-served.new.source; to = g.K.Sink.drain c.args.sink.now; sink = g.K.Sink.drain c.serve-served.new.sink }) c.finished_with.ensures c.into_board.ensures.same (HasTaken.taken t) (let few = c.serve-served.ensures.few in let read = c.serve-served.ensures.read in omega arith) (IsShape.entries (shape-of-checked c.args.setup c.requires.setup)) c.in-Ok.ensures c.serve-served.ensures.serves
