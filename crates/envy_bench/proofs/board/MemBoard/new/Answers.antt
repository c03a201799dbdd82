use Rattle.std.proofs.Common.{◌∙◌, ◌*◌, ℕ, List, ap, length}
use Rattle.std.proofs.lemmas.List.{length-replicate}
use Rattle.envy_base.specs.State.{ones}
use Rattle.envy_bank.specs.Rows.{BankState}
use Rattle.envy_bench.proofs.Boards.{IsPage-whole, AreWords-zeros}
use Rattle.envy_bench.proofs.board.MemBoard.new.Goals as goal

pub invariant_of-result : goal.invariant_of-result
invariant_of-result c =
    let flash = c.in_ok-new.ensures.erased in
    let shape = c.args.shape.now in
    record {
      sound = record {
        shape = c.requires;
        sram = ap (λ (xs : List ℕ). length xs) c.in_ok-new-2.ensures ∙ length-replicate {A = ℕ} c.words.result 0 ∙ c.words.ensures;
        rows = ap (λ (b : BankState). length b.flash) flash ∙ length-replicate (shape.segments * shape.rows) ones;
        pages = λ q lt. IsPage-whole _ q c.in_ok-new.ensures.whole lt;
        words = AreWords-zeros c.words.result _ c.in_ok-new-2.ensures;
        erases = ap (λ (b : BankState). length b.erases) flash ∙ length-replicate {A = ℕ} shape.segments 0;
      };
      same_rows = ap (λ (b : BankState). b.rows) flash;
    }
