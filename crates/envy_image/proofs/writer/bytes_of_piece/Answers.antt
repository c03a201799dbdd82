use Rattle.std.proofs.Common.{rules, ◌*◌, take, drop, sym, ◌∙◌, ap, arith}
use Rattle.std.proofs.lemmas.List.{get_or-take, get_or-drop, take_all}
use Rattle.std.proofs.lemmas.Slice.{overwrites}
use Rattle.envy_image.specs.Image.{words_bytes}
use Rattle.envy_image.proofs.Joining.{bytes-more}
use Rattle.envy_image.proofs.Pieces.{piece-long}
use Rattle.envy_image.proofs.writer.bytes_of_piece.Goals as goal

pub loop-i-preserved : goal.loop-i-preserved
loop-i-preserved g c =
    let sram = (g.B.Board.state c.args.board.now).sram in
    let i = c.loop-i.i in (
      search (rules, overwrites),
      bytes-more c.loop-i.bytes (take 32 (drop c.args.first sram)) c.copy_from_slice.new.self i _ c.in_ok-word.word c.loop-i.invariant.1 (omega (arith, c.loop-i.invariant.0, c.loop-i-test.true)) (omega (arith, piece-long sram c.args.first c.requires.room, c.loop-i-test.true)) (c.in_ok-word.ensures.1 ∙ sym (get_or-take 32 (drop c.args.first sram) i 0 (omega (arith, c.loop-i-test.true)) ∙ get_or-drop c.args.first sram i 0)) (c.copy_from_slice.ensures.after ∙ c.to_le_bytes.ensures),
    )

pub returns-clause-read : goal.returns-clause-read
returns-clause-read g c =
    let sram = (g.B.Board.state c.args.board.now).sram in
    let piece = take 32 (drop c.args.first sram) in
    sym (take_all (8 * c.loop-i.i) c.loop-i.bytes (omega (arith, c.loop-i.invariant.0, c.loop-i-test.false))) ∙ (c.loop-i.invariant.1 ∙ ap words_bytes (take_all c.loop-i.i piece (omega (arith, piece-long sram c.args.first c.requires.room, c.loop-i-test.false))))
