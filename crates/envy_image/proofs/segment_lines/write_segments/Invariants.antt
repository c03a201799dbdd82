use Rattle.envy_io.proofs.WritesLemmas.{Written}
use Rattle.envy_map.specs.Fields.{chart}
use Rattle.envy_image.specs.Segments.{segments_text}
use Rattle.envy_image.proofs.Lines.{lines_left}
use Rattle.envy_image.proofs.segment_lines.write_segments.Given as goal

abbrev pub invariant-loop-position : goal.invariant-loop-position
invariant-loop-position g l =
    let wears = (chart (g.B.Board.state l.board)).fields.wears in
    Written (g.K.Sink.drain l.fn.sink) (segments_text l.space wears l.spare) (lines_left l.space wears l.spare l.position) (g.K.Sink.drain l.sink)
