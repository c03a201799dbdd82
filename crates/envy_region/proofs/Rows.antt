-- Rows that were anded word by word, and rows that are erased from the first to the last.
use Rattle.std.proofs.Common.{inl, inr, ◌+◌, ◌-◌, ◌*◌, ◌<◌, ◌≤◌, ℕ, List, length, ◌^◌, subst, refl, sym, ◌∙◌, arith}
use Rattle.std.proofs.lemmas.Bool.{cases_lt}
use Rattle.std.proofs.lemmas.List.{get_or-replicate, get_or_past}
use Rattle.envy_base.specs.declared.shape.Shape.{Shape}
use Rattle.envy_base.specs.State.{ones, Only, IsOnes, IsPage, IsBoard}
use Rattle.envy_region.specs.Region.{Erased, region_state}
use Rattle.envy_base.proofs.Rows.{block_of, inside_of}

-- an erase changes the rows of its segment alone
pub erased_only : (rows e : ℕ) (old new : List (List ℕ)) → 1 ≤ rows → Erased (e * rows) (e * rows + rows) old new → Only rows e IsOnes old new
erased_only rows e old new some is = record {
  long = is.long;
  others = λ q ne. elim (cases_lt q (e * rows)) [ inl lt ↦ is.below q lt | inr ge ↦ elim (cases_lt q (e * rows + rows)) [ inl within ↦ absurd (ne (block_of rows e q ge within)) | inr past ↦ is.above q past ] ];
  inside = λ q lt here. let at = inside_of rows e q some here in is.inside q at.0 at.1;
}

IsPage-ones : IsPage ones
IsPage-ones = record {
  long = refl;
  words = λ i. elim (cases_lt i 32) [ inl lt ↦ rw (get_or-replicate 32 i (2 ^ 64 - 1) 0 lt) (omega arith) | inr ge ↦ rw (get_or_past ones i 0 ge) (omega arith) ];
}

-- and leaves a board
pub erased_board : (sh : Shape) (old new : List (List ℕ)) (sram erases : List ℕ) (begun first n : ℕ) → IsBoard (region_state sh old sram erases begun) → Erased first n old new → IsBoard (region_state sh new sram erases begun)
erased_board sh old new sram erases begun first n is done = record {
  shape = is.shape;
  sram = is.sram;
  rows = done.long ∙ is.rows;
  pages = λ q lt.
      let low : q < length old = rw (← done.long) lt in
      elim (cases_lt q first) [
        | inl before ↦ subst IsPage (sym (done.below q before)) (is.pages q low)
        | inr ge ↦ elim (cases_lt q n) [
          | inl within ↦ subst IsPage (sym (done.inside q ge within)) IsPage-ones
          | inr past ↦ subst IsPage (sym (done.above q past)) (is.pages q low)
        ]
      ];
  words = is.words;
  erases = is.erases;
}
