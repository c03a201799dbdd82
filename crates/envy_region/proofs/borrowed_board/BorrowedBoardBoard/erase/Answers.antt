use Rattle.std.proofs.Common.{ap, refl, slice_set, arith}
use Rattle.envy_region.specs.Region.{region_state}
use Rattle.envy_region.proofs.Rows.{erased_only, erased_board}
use Rattle.envy_region.proofs.borrowed_board.BorrowedBoardBoard.erase.Goals as goal

pub invariant_of-self : goal.invariant_of-self
invariant_of-self c =
    let s = c.args.self.now in
    record { sound = erased_board s.shape s.flash.now c.fill.new.flash s.sram.now s.erases.now s.begun _ _ s.sound c.fill.ensures }

pub returns : goal.returns
returns c =
    let s = c.args.self.now in
    let some = s.sound.shape.rows in (
      refl,
      c.fill.new.flash,
      erased_only s.shape.rows c.args.segment s.flash.now c.fill.new.flash (omega arith) c.fill.ensures,
      ap (λ n. region_state s.shape c.fill.new.flash s.sram.now (slice_set s.erases.now c.args.segment n) s.begun) c.more.ensures,
    )
