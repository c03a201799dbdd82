-- A bank stays a bank: its rows are pages, whichever call was made.
use Rattle.std.proofs.Common.{◌≡◌, ◌∙◌, inl, inr, ℕ, ◌+◌, ◌*◌, ◌-◌, ◌^◌, ◌<◌, ◌≤◌, List, [], length, get_or, set, replicate, refl, sym, ap, subst, arith}
use Rattle.std.proofs.lemmas.Bool.{cases_lt, cases_eq}
use Rattle.std.proofs.lemmas.List.{get_or_past, get_or-set_same, get_or-set_other, get_or-replicate, get_or_read, length-set, length-replicate}
use Rattle.std.proofs.lemmas.Nat.{and_le_l}
use Rattle.envy_bank.specs.Kept.{ErasesRange}
use Rattle.envy_base.specs.Counting.{up}
use Rattle.envy_base.specs.State.{IsPage, ands, ones}
use Rattle.envy_bank.specs.Rows.{BankState, IsBank, ErasesRows, ErasesBlock, with_row}
use Rattle.envy_bank.proofs.EraseLaw.{block_of, before_block, behind_block}
use Rattle.envy_bank.proofs.LaneLaws.{length-ands, get_or-ands}

IsPage-ands : (xs ys : List ℕ) → IsPage xs → IsPage ys → IsPage (ands xs ys)
IsPage-ands xs ys p q =
    let same : length xs ≡ length ys = p.long ∙ sym q.long in
    record {
      long = length-ands xs ys same ∙ p.long;
      words = λ i. rw (get_or-ands xs ys same i) (let less = and_le_l (get_or xs i 0) (get_or ys i 0) in let low = p.words i in omega arith);
    }

IsPage-ones : IsPage ones
IsPage-ones = record {
  long = length-replicate {A = ℕ} 32 (2 ^ 64 - 1);
  words = λ i. elim (cases_lt i 32) [
    | inl lt ↦ rw (get_or-replicate {A = ℕ} 32 i (2 ^ 64 - 1) 0 lt) (omega arith)
    | inr ge ↦ rw (get_or_past {X = ℕ} ones i 0 (rw (length-replicate {A = ℕ} 32 (2 ^ 64 - 1)) ge)) (omega arith)
  ];
}

-- a page in the place of a row
pub IsBank-row : (s : BankState) (q : ℕ) (page : List ℕ) → IsBank s → IsPage page → IsBank (with_row s q page)
IsBank-row s q page bank is =
    let long = length-set s.flash q page in
    let whole = bank.whole in
    let few = bank.few in
    record {
      some_rows = bank.some_rows;
      whole = long ∙ whole;
      few = rw long few;
      pages = λ k lt. elim (cases_eq k q) [
        | inl e ↦ rw (e, get_or-set_same s.flash q page [] (omega arith)) is
        | inr ne ↦ rw (get_or-set_other s.flash q k page [] ne) (bank.pages k (omega arith))
      ];
    }

-- a bank whose row is programmed, by what is seen of its fields
pub IsBank-programmed : (flash new : List (List ℕ)) (rows : ℕ) (erases : List ℕ) (s : BankState) (q : ℕ) (page : List ℕ) → IsBank (record { flash = flash; rows = rows; erases = erases }) → record { flash = flash; rows = rows; erases = erases } ≡ s
    → q < length s.flash → IsPage page → new ≡ set flash q (ands (get_or flash q []) page) → IsBank (record { flash = new; rows = rows; erases = erases })
IsBank-programmed flash new rows erases s q page bank is lt paged made =
    let low : q < length flash = rw (ap (λ (t : BankState). length t.flash) is) lt in
    subst (λ fs. IsBank (record { flash = fs; rows = rows; erases = erases })) (sym made)
    (IsBank-row (record { flash = flash; rows = rows; erases = erases }) q (ands (get_or flash q []) page) bank (IsPage-ands (get_or flash q []) page (bank.pages q low) paged))

pub IsBank-new : (flash : List (List ℕ)) (rows blocks : ℕ) (erases : List ℕ) → flash ≡ replicate (blocks * rows) ones → erases ≡ replicate blocks 0 → 1 ≤ rows → blocks * rows ≤ 16777216
    → IsBank (record { flash = flash; rows = rows; erases = erases })
IsBank-new flash rows blocks erases is counts some few =
    let long : length (replicate (blocks * rows) ones) ≡ blocks * rows = length-replicate (blocks * rows) ones in
    let long_e : length (replicate {A = ℕ} blocks 0) ≡ blocks = length-replicate {A = ℕ} blocks 0 in
    subst (λ fs. IsBank (record { flash = fs; rows = rows; erases = erases })) (sym is) (subst (λ es. IsBank (record { flash = replicate (blocks * rows) ones; rows = rows; erases = es })) (sym counts) (record {
      some_rows = some;
      whole = long ∙ ap (λ n. n * rows) (sym long_e);
      few = rw long few;
      pages = λ q lt. rw (get_or-replicate (blocks * rows) q ones [] (rw (← long) lt)) IsPage-ones;
    }))

-- the rows of a block are a range
ErasesRows-range : (rows block : ℕ) (old new : List (List ℕ)) → 1 ≤ rows → ErasesRange (block * rows) (block * rows + rows) old new → ErasesRows rows block old new
ErasesRows-range rows block old new some erases = record {
  long = erases.long;
  others = λ q apart. elim (cases_lt q (block * rows)) [
    | inl lt ↦ erases.before q lt
    | inr ge ↦ elim (cases_lt q (block * rows + rows)) [
      | inl lt ↦ absurd (apart (block_of rows block q ge lt))
      | inr ge' ↦ erases.behind q ge'
    ]
  ];
  inside = λ q lt here. erases.inside q (before_block rows block q here) (behind_block rows block q some here);
}

pub ErasesBlock-seen : (flash new : List (List ℕ)) (rows was count : ℕ) (erases : List ℕ) (s : BankState) (block : ℕ) → IsBank (record { flash = flash; rows = rows; erases = erases }) → record { flash = flash; rows = rows; erases = erases } ≡ s
    → block < length s.erases → ErasesRange (block * rows) (block * rows + rows) flash new → was ≡ get_or erases block was → count ≡ up was → ErasesBlock block s (record { flash = new; rows = rows; erases = set erases block count })
ErasesBlock-seen flash new rows was count erases s block bank is lt range read counted =
    let low : block < length erases = rw (ap (λ (t : BankState). length t.erases) is) lt in
    subst (λ (t : BankState). ErasesBlock block t (record { flash = new; rows = rows; erases = set erases block count })) is (record {
      flash = ErasesRows-range rows block flash new bank.some_rows range;
      rows = refl;
      erases = ap (λ n. set erases block n) (counted ∙ ap up (get_or_read erases block was low read 0));
    })

pub IsBank-erased : (flash new : List (List ℕ)) (rows block count : ℕ) (erases : List ℕ) → IsBank (record { flash = flash; rows = rows; erases = erases }) → ErasesRange (block * rows) (block * rows + rows) flash new
    → IsBank (record { flash = new; rows = rows; erases = set erases block count })
IsBank-erased flash new rows block count erases bank range =
    let long = range.long in
    let few = bank.few in
    record {
      some_rows = bank.some_rows;
      whole = long ∙ bank.whole ∙ ap (λ n. n * rows) (sym (length-set erases block count));
      few = rw long few;
      pages = λ q lt.
          let low : q < length flash = omega arith in
          elim (cases_lt q (block * rows)) [
            | inl before ↦ rw (range.before q before) (bank.pages q low)
            | inr ge ↦ elim (cases_lt q (block * rows + rows)) [
              | inl within ↦ rw (range.inside q ge within) IsPage-ones
              | inr behind ↦ rw (range.behind q behind) (bank.pages q low)
            ]
          ];
    }
