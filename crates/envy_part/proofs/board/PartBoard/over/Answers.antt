use Rattle.envy_part.proofs.RowLaws.{made_board}
use Rattle.envy_part.proofs.board.PartBoard.over.Goals as goal

pub invariant_of-result : goal.invariant_of-result
invariant_of-result g c =
    let long = c.if-flash-shape.false in
    let words = c.if-sram-words.false in
    record { sound = made_board c.args.shape c.args.flash.now c.args.sram.now c.in-Ok.erases.items c.requires.shape c.requires.pages c.requires.words (search (long)) (search (words, c.words.ensures)) (search (c.in-Ok.ensures.len)) }
