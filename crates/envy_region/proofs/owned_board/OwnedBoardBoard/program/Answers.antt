use Rattle.std.proofs.Common.{◌∙◌, ℕ, ap, length, length-set, refl}
use Rattle.envy_base.specs.Counting.{up}
use Rattle.envy_bank.specs.Rows.{BankState}
use Rattle.envy_region.specs.Region.{region_state}
use Rattle.envy_region.proofs.Banked.{IsBoard-bank}
use Rattle.envy_region.proofs.owned_board.OwnedBoardBoard.program.Goals as goal

pub invariant_of-self : goal.invariant_of-self
invariant_of-self c =
    let s = c.args.self.now in
    let did = c.program_row.ensures in
    record {
      sound = IsBoard-bank s.shape s.flash c.program_row.new.self s.sram.items s.begun c.more-self.result s.sound did.whole
          (ap (λ (b : BankState). length b.flash) did.row ∙ length-set s.flash.flash c.args.row _) (ap (λ (b : BankState). length b.erases) did.row);
      same_rows = ap (λ (b : BankState). b.rows) did.row ∙ s.same_rows;
    }

pub returns : goal.returns
returns c =
    let s = c.args.self.now in
    let new = c.program_row.new.self in (
      refl,
      ap (λ (n : ℕ). region_state s.shape new.flash s.sram.items new.erases n) c.more-self.ensures
          ∙ ap (λ (b : BankState). region_state s.shape b.flash s.sram.items b.erases (up s.begun)) c.program_row.ensures.row,
    )
