use Rattle.std.proofs.Common.{◌∙◌, ◌*◌, ◌-◌, ◌+◌, refl, ap, map, arith, slice_set, slice_index}
use Rattle.envy_base.specs.Counting.{up}
use Rattle.envy_bank.specs.Lanes.{row_from}
use Rattle.envy_base.specs.State.{IsPage, IsOnes}
use Rattle.envy_part.specs.Part.{part_state}
use Rattle.envy_part.proofs.RowLaws.{segment_put, put_board, put_missed, only_put}
use borrow.Rule.Slice.PartMut.{put_mid}
use Rattle.envy_part.proofs.board.PartBoardBoard.erase.Goals as goal

pub invariant_of-self : goal.invariant_of-self
invariant_of-self g c =
    let s = c.args.self.now in
    let a = c.args.segment * s.shape.rows in
    let k = a + s.shape.rows - a in
    let put = segment_put s.shape s.flash.now c.erase-done.new.rows s.sram.now s.erases.items s.begun s.bads c.args.segment k s.sound c.requires (omega arith) c.erase-done.ensures.long in
    record { sound = put_board s.shape s.flash.now c.erase-done.new.rows _ s.sram.now s.erases.items c.count_erase.new.erases.items a k s.begun s.bads _ _ c.args.segment _ s.sound put.0 put.1 c.erase-done.ensures.pages c.count_erase.ensures }

pub invariant_of-self-else-not-done : goal.invariant_of-self-else-not-done
invariant_of-self-else-not-done g c =
    let s = c.args.self.now in
    let a = c.args.segment * s.shape.rows in
    let k = a + s.shape.rows - a in
    let put = segment_put s.shape s.flash.now c.erase-done.new.rows s.sram.now s.erases.items s.begun s.bads c.args.segment k s.sound c.requires (omega arith) c.erase-done.ensures.long in
    record { sound = put_board s.shape s.flash.now c.erase-done.new.rows _ s.sram.now s.erases.items c.count_erase.new.erases.items a k s.begun s.bads _ _ c.args.segment _ s.sound put.0 put.1 c.erase-done.ensures.pages c.count_erase.ensures }

pub returns-then-not-done-clause-does : goal.returns-then-not-done-clause-does
returns-then-not-done-clause-does g c =
    let s = c.args.self.now in
    let a = c.args.segment * s.shape.rows in
    let k = a + s.shape.rows - a in
    let new = put_mid a k s.flash.now c.erase-done.new.rows in
    let some = s.sound.shape.rows in
    let put = segment_put s.shape s.flash.now c.erase-done.new.rows s.sram.now s.erases.items s.begun s.bads c.args.segment k s.sound c.requires (omega arith) c.erase-done.ensures.long in (
      refl,
      map row_from new,
      only_put s.shape.rows c.args.segment k s.flash.now c.erase-done.new.rows new IsPage (omega arith) (omega arith) put.0 put.1 c.erase-done.ensures.pages,
      ap (λ ns. part_state s.shape new s.sram.now ns s.begun c.more-self.result) c.count_erase.ensures
          ∙ ap (λ n. part_state s.shape new s.sram.now (slice_set s.erases.items c.args.segment (up (slice_index s.erases.items c.args.segment))) s.begun n) c.more-self.ensures,
    )

pub returns-then-not-done-clause-bad : goal.returns-then-not-done-clause-bad
returns-then-not-done-clause-bad g c =
    let s = c.args.self.now in
    let a = c.args.segment * s.shape.rows in
    let k = a + s.shape.rows - a in
    let put = segment_put s.shape s.flash.now c.erase-done.new.rows s.sram.now s.erases.items s.begun s.bads c.args.segment k s.sound c.requires (omega arith) c.erase-done.ensures.long in
    put_missed s.shape.rows c.args.segment k s.flash.now c.erase-done.new.rows (put_mid a k s.flash.now c.erase-done.new.rows) (omega arith) put.0 put.1 (c.erase-done.ensures.bad c.if-not-done.true)

pub returns-clause-does : goal.returns-clause-does
returns-clause-does g c =
    let s = c.args.self.now in
    let a = c.args.segment * s.shape.rows in
    let k = a + s.shape.rows - a in
    let new = put_mid a k s.flash.now c.erase-done.new.rows in
    let some = s.sound.shape.rows in
    let put = segment_put s.shape s.flash.now c.erase-done.new.rows s.sram.now s.erases.items s.begun s.bads c.args.segment k s.sound c.requires (omega arith) c.erase-done.ensures.long in (
      refl,
      map row_from new,
      only_put s.shape.rows c.args.segment k s.flash.now c.erase-done.new.rows new IsOnes (omega arith) (omega arith) put.0 put.1 (c.erase-done.ensures.held c.if-not-done.false),
      ap (λ ns. part_state s.shape new s.sram.now ns s.begun s.bads) c.count_erase.ensures,
    )
