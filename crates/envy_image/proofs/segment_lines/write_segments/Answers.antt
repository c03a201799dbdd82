use Rattle.std.proofs.Common.{[], ◌∷◌, ◌++◌, ap, arith}
use Rattle.std.proofs.lemmas.Result.{err_from_is_err_and}
use Rattle.envy_io.proofs.Pieces.{Written-nothing, Written-piece, Written-front, writes-last}
use Rattle.envy_io.specs.Lines.{newline}
use Rattle.envy_map.specs.Fields.{chart}
use Rattle.envy_base.specs.declared.shape.Shape.{Shape}
use Rattle.envy_base.specs.Shape.{all_positions_of}
use Rattle.envy_image.specs.Segments.{heading, segment_line, segments_text, text_of}
use Rattle.envy_image.specs.declared.line.Standing.TheVariants.{Spare}
use Rattle.envy_image.proofs.Lines.{heading-first, line-next, spare-last, told}
use Rattle.envy_image.proofs.segment_lines.write_segments.Goals as goal

pub returns-in_err-write_all : goal.returns-in_err-write_all
returns-in_err-write_all g c =
    let p = err_from_is_err_and c.from_residual.result c.from_residual.ensures.1 in
    let now = chart (g.B.Board.state c.args.board.now) in
    let drain = g.K.Sink.drain c.args.sink.now in (
      segments_text c.args.space.now now.fields.wears c.spare-spare.result,
      told now c.args.space.now c.spare-spare.result c.requires.counted c.spare-spare.ensures.spare,
      rw p.1
          (Written-front drain drain (g.K.Sink.drain c.write_all.new.sink) _ _ (heading ++ newline ∷ []) _ _
          (heading-first c.args.space.now now.fields.wears c.spare-spare.result) (Written-nothing drain _) c.in_err-write_all.ensures.writes),
    )

pub loop-position-init : goal.loop-position-init
loop-position-init g c =
    let now = chart (g.B.Board.state c.args.board.now) in
    let drain = g.K.Sink.drain c.args.sink.now in
    Written-piece drain drain (g.K.Sink.drain c.write_all.new.sink) _ _ (heading ++ newline ∷ []) _ _
    (heading-first c.args.space.now now.fields.wears c.spare-spare.result) (Written-nothing drain _) c.in_ok-write_all.ensures.writes

pub returns-in_err-write_line : goal.returns-in_err-write_line
returns-in_err-write_line g c =
    let p = err_from_is_err_and c.from_residual-in_err-write_line.result c.from_residual-in_err-write_line.ensures.1 in
    let now = chart (g.B.Board.state c.args.board.now) in (
      segments_text c.args.space.now now.fields.wears c.spare-spare.result,
      told now c.args.space.now c.spare-spare.result c.requires.counted c.spare-spare.ensures.spare,
      rw p.1
          (Written-front (g.K.Sink.drain c.args.sink.now) (g.K.Sink.drain c.loop-position.sink) (g.K.Sink.drain c.write_line.new.sink) _ _
          (segment_line c.args.space.now now.fields.wears (text_of c.standing_at-standing.result) c.segment_at-segment.result ++ newline ∷ []) _ _
          (line-next c.args.space.now now.fields.wears c.spare-spare.result c.loop-position.position c.segment_at-segment.result c.standing_at-standing.result (omega (arith, ap (λ (sh : Shape). all_positions_of sh) c.requires.counted.shape, ap (λ (sh : Shape). all_positions_of sh) c.shape.ensures)) c.segment_at-segment.ensures.segment c.standing_at-standing.ensures) c.loop-position.invariant c.in_err-write_line.ensures),
    )

pub loop-position-preserved : goal.loop-position-preserved
loop-position-preserved g c =
    let now = chart (g.B.Board.state c.args.board.now) in
    Written-piece (g.K.Sink.drain c.args.sink.now) (g.K.Sink.drain c.loop-position.sink) (g.K.Sink.drain c.write_line.new.sink) _ _
    (segment_line c.args.space.now now.fields.wears (text_of c.standing_at-standing.result) c.segment_at-segment.result ++ newline ∷ []) _ _
    (line-next c.args.space.now now.fields.wears c.spare-spare.result c.loop-position.position c.segment_at-segment.result c.standing_at-standing.result (omega (arith, ap (λ (sh : Shape). all_positions_of sh) c.requires.counted.shape, ap (λ (sh : Shape). all_positions_of sh) c.shape.ensures)) c.segment_at-segment.ensures.segment c.standing_at-standing.ensures) c.loop-position.invariant c.in_ok-write_line.ensures

pub returns : goal.returns
returns g c =
    let now = chart (g.B.Board.state c.args.board.now) in (
      segments_text c.args.space.now now.fields.wears c.spare-spare.result,
      told now c.args.space.now c.spare-spare.result c.requires.counted c.spare-spare.ensures.spare,
      writes-last (g.K.Sink.drain c.args.sink.now) (g.K.Sink.drain c.loop-position.sink) (g.K.Sink.drain c.write_line-2.new.sink) _ _
          (segment_line c.args.space.now now.fields.wears (text_of Spare) c.spare-spare.result ++ newline ∷ []) c.write_line-2.result
          (spare-last c.args.space.now now.fields.wears c.spare-spare.result c.loop-position.position (omega (arith, ap (λ (sh : Shape). all_positions_of sh) c.requires.counted.shape, ap (λ (sh : Shape). all_positions_of sh) c.shape.ensures))) c.loop-position.invariant c.write_line-2.ensures,
    )
