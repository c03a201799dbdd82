use Rattle.std.proofs.Common.{◌∙◌, refl, ap}
use Rattle.envy_bank.specs.Lanes.{row_from}
use Rattle.envy_base.specs.State.{with_row}
use Rattle.envy_part.specs.Part.{part_state}
use Rattle.envy_part.proofs.RowLaws.{programmed_board, programmed_missed, programmed_state, programmed_there}
use Rattle.envy_part.proofs.board.PartBoardBoard.program.Goals as goal

pub invariant_of-self : goal.invariant_of-self
invariant_of-self g c =
    let s = c.args.self.now in
    record { sound = programmed_board s.shape s.flash.now s.sram.now s.erases.items s.begun s.bads _ _ c.args.row c.program-done.new.row s.sound c.program-done.ensures.page }

pub returns-then-not-done-clause-does : goal.returns-then-not-done-clause-does
returns-then-not-done-clause-does g c =
    let s = c.args.self.now in (
      refl,
      row_from c.program-done.new.row,
      c.program-done.ensures.page,
      programmed_state s.shape s.flash.now s.sram.now s.erases.items s.begun c.more-self.result c.more-begun.result c.args.row c.program-done.new.row c.more-begun.ensures
          ∙ ap (λ (n : _). record (with_row (part_state s.shape s.flash.now s.sram.now s.erases.items s.begun s.bads) c.args.row (row_from c.program-done.new.row)) { bads = n }) c.more-self.ensures,
    )

pub returns-then-not-done-clause-bad : goal.returns-then-not-done-clause-bad
returns-then-not-done-clause-bad g c =
    programmed_missed c.args.self.now.flash.now c.args.row c.program-done.new.row c.words.result c.anded-both.result c.args.page.now
    c.requires c.words.ensures c.anded-both.ensures (c.program-done.ensures.bad c.if-not-done.true)

pub invariant_of-self-else-not-done : goal.invariant_of-self-else-not-done
invariant_of-self-else-not-done g c =
    let s = c.args.self.now in
    record { sound = programmed_board s.shape s.flash.now s.sram.now s.erases.items s.begun s.bads _ _ c.args.row c.program-done.new.row s.sound c.program-done.ensures.page }

pub returns-clause-does : goal.returns-clause-does
returns-clause-does g c =
    let s = c.args.self.now in (
      refl,
      programmed_there s.shape s.flash.now s.sram.now s.erases.items s.begun s.bads c.more-begun.result c.args.row c.program-done.new.row c.words.result c.anded-both.result c.args.page.now
          c.more-begun.ensures c.requires c.words.ensures c.anded-both.ensures (c.program-done.ensures.held c.if-not-done.false),
    )
