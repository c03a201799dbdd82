use Rattle.std.proofs.Common.{◌∙◌, ℕ, ap, replicate}
use Rattle.envy_bank.specs.Rows.{BankState}
use Rattle.envy_region.proofs.Banked.{IsBoard-blank}
use Rattle.envy_region.proofs.owned_board.OwnedBoard.blank.Goals as goal

pub invariant_of-result : goal.invariant_of-result
invariant_of-result c =
    let made = c.in_ok-new.ensures in
    let zeros = c.in_ok-vec.ensures.items_if_clones_equal (λ y e. e) ∙ ap (λ (n : ℕ). replicate n 0) c.words.ensures in
    record {
      sound = IsBoard-blank c.args.shape.now _ _ c.requires made.erased made.whole zeros;
      same_rows = ap (λ (b : BankState). b.rows) made.erased;
    }
