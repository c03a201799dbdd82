use Rattle.std.proofs.Common.{rules, [], arith, ◌∙◌}
use Rattle.std.specs.Prelude.{slice_index_or}
use Rattle.std.proofs.lemmas.Slice.{overwrites}
use Rattle.envy_image.proofs.Joining.{bytes-more}
use Rattle.envy_image.proofs.writer.bytes_of_row.Goals as goal

pub loop-i-preserved : goal.loop-i-preserved
loop-i-preserved g c =
    let long = ((g.met.B.Board.lawful c.args.board.now).pages c.args.row c.requires.row).long in (
      search (rules, overwrites),
      bytes-more c.loop-i.bytes (slice_index_or (g.B.Board.state c.args.board.now).flash c.args.row []) c.copy_from_slice.new.self c.loop-i.i _ c.in_ok-word.word c.loop-i.invariant.1 (omega (arith, c.loop-i.invariant.0)) (omega (arith, long)) c.in_ok-word.ensures.1 (c.copy_from_slice.ensures.after ∙ c.to_le_bytes.ensures),
    )
