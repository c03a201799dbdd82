use Rattle.std.proofs.Common.{◌∙◌, ap, length, length-set, refl, List, ℕ}
use Rattle.envy_region.specs.Region.{region_state}
use Rattle.envy_region.proofs.Banked.{IsBoard-bank, erased_only}
use Rattle.envy_region.proofs.owned_board.OwnedBoardBoard.erase.Goals as goal

pub invariant_of-self : goal.invariant_of-self
invariant_of-self c =
    let s = c.args.self.now in
    let did = c.erase_block.ensures in
    record {
      sound = IsBoard-bank s.shape s.flash c.erase_block.new.self s.sram.items s.begun s.begun s.sound did.whole
          did.erased.flash.long (ap (λ (xs : List ℕ). length xs) did.erased.erases ∙ length-set s.flash.erases c.args.segment _);
      same_rows = did.erased.rows ∙ s.same_rows;
    }

pub returns : goal.returns
returns c =
    let s = c.args.self.now in
    let new = c.erase_block.new.self in
    let erased = c.erase_block.ensures.erased in (
      refl,
      new.flash,
      erased_only s.shape.rows c.args.segment s.flash new s.same_rows erased,
      ap (λ (xs : List ℕ). region_state s.shape new.flash s.sram.items xs s.begun) erased.erases,
    )
