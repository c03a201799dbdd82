-- A board whose flash is a bank.
use Rattle.std.proofs.Common.{◌≡◌, ◌∙◌, ◌≢◌, ℕ, ◌/◌, ◌-◌, ◌*◌, ◌<◌, ◌^◌, List, [], get_or, length, replicate, inl, inr, lit<, refl, ap, subst}
use Rattle.std.proofs.lemmas.Bool.{cases_lt}
use Rattle.std.proofs.lemmas.List.{get_or-replicate, length-replicate, get_or_past}
use Rattle.envy_base.specs.declared.shape.Shape.{Shape}
use Rattle.envy_base.specs.Map.{words_of}
use Rattle.envy_base.specs.Shape.{IsShape}
use Rattle.envy_base.specs.State.{AreWords, IsBoard, IsOnes, Only, ones}
use Rattle.envy_bank.specs.Rows.{BankState, ErasesBlock, IsBank, erased_bank}
use Rattle.envy_region.specs.Region.{region_state}

AreWords-zeros : (n : ℕ) → AreWords (replicate n 0)
AreWords-zeros n = λ i. elim (cases_lt i n) [
  | inl lt ↦ rw (get_or-replicate {A = ℕ} n i 0 0 lt) (lit< tt)
  | inr ge ↦ rw (get_or_past {X = ℕ} (replicate {A = ℕ} n 0) i 0 (rw (length-replicate {A = ℕ} n 0) ge)) (lit< tt)
]

-- a board on which nothing was done
pub IsBoard-blank : (sh : Shape) (bank : BankState) (sram : List ℕ) → IsShape sh → bank ≡ erased_bank sh.segments sh.rows → IsBank bank → sram ≡ replicate (words_of sh) 0 → IsBoard (region_state sh bank.flash sram bank.erases 0)
IsBoard-blank sh bank sram is erased whole zeros = record {
  shape = is;
  sram = ap (λ (xs : List ℕ). length xs) zeros ∙ length-replicate {A = ℕ} (words_of sh) 0;
  rows = ap (λ (b : BankState). length b.flash) erased ∙ length-replicate (sh.segments * sh.rows) ones;
  pages = λ q lt. whole.pages q lt;
  words = rw zeros (AreWords-zeros (words_of sh));
  erases = ap (λ (b : BankState). length b.erases) erased ∙ length-replicate {A = ℕ} sh.segments 0;
}

-- a board whose bank became another one of the same sizes
pub IsBoard-bank : (sh : Shape) (old new : BankState) (sram : List ℕ) (begun count : ℕ) → IsBoard (region_state sh old.flash sram old.erases begun) → IsBank new → length new.flash ≡ length old.flash → length new.erases ≡ length old.erases → IsBoard (region_state sh new.flash sram new.erases count)
IsBoard-bank sh old new sram begun count is whole rows erases = record {
  shape = is.shape;
  sram = is.sram;
  rows = rows ∙ is.rows;
  pages = λ q lt. whole.pages q lt;
  words = is.words;
  erases = erases ∙ is.erases;
}

-- an erase of a block is one of the segment
pub erased_only : (rows e : ℕ) (old new : BankState) → old.rows ≡ rows → ErasesBlock e old new → Only rows e IsOnes old.flash new.flash
erased_only rows e old new wide erased =
    let block = erased.flash in
    record {
      long = block.long;
      others = λ q ne. block.others q (rw wide ne);
      inside = λ q lt here. block.inside q lt (rw wide here);
    }
