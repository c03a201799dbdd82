-- What makes a board, word by word and row by row.
use Rattle.std.proofs.Common.{◌≡◌, ℕ, ◌+◌, ◌*◌, ◌<◌, List, [], ◌++◌, length, get_or, set, take, drop, refl, sym, ◌∙◌, ap, arith}
use Rattle.std.proofs.lemmas.List.{get_or-replicate, length-replicate}
use Rattle.envy_base.specs.Map.{words_of}
use Rattle.envy_base.specs.State.{State, IsBoard, ands, ones, row_of}
use Rattle.envy_journal.specs.declared.operation.Operation.TheVariants.{Put, Program}
use Rattle.envy_journal.specs.Content.{Content, blank, changed, content_of}
use Rattle.envy_journal.specs.Snapshot.{with_words, with_rows}
use Rattle.envy_journal.proofs.Patched.{patched, unpatched, at_patch, patched_all, ands-ones}

module _ (s : State) (board : IsBoard s) where
  abbrev words_as : List ℕ → Content
  words_as l = record { flash = (blank s.shape).flash; sram = l }

  abbrev rows_as : List (List ℕ) → Content
  rows_as l = record { flash = l; sram = s.sram }

  words_same : length s.sram ≡ length (blank s.shape).sram
  words_same = board.sram ∙ sym (length-replicate {A = ℕ} (words_of s.shape) 0)

  rows_same : length s.flash ≡ length (blank s.shape).flash
  rows_same = board.rows ∙ sym (length-replicate {A = List ℕ} (s.shape.segments * s.shape.rows) ones)

  -- the snapshot without a word is a blank board
  pub words_none : blank s.shape ≡ with_words s 0
  words_none = refl

  module _ (w : ℕ) (lt : w < length s.sram) where
    -- a put adds the next word
    pub word_put : (v : ℕ) → v ≡ get_or s.sram w 0 → changed s.shape.rows (Put w v) (with_words s w) ≡ with_words s (w + 1)
    word_put v is =
        ap (λ (x : ℕ). words_as (set (take w s.sram ++ drop w (blank s.shape).sram) w x)) is
        ∙ ap words_as (patched s.sram (blank s.shape).sram w 0 words_same lt)

    -- a word that is 0 needs none
    pub word_zero : get_or s.sram w 0 ≡ 0 → with_words s w ≡ with_words s (w + 1)
    word_zero is =
        ap words_as (unpatched s.sram (blank s.shape).sram w 0 words_same lt
        (is ∙ sym (get_or-replicate {A = ℕ} (words_of s.shape) w 0 0 (let e = board.sram in omega arith))))

  -- with all words, and no row yet
  pub words_all : with_words s (words_of s.shape) ≡ with_rows s 0
  words_all = ap words_as (patched_all s.sram (blank s.shape).sram (words_of s.shape) board.sram (length-replicate {A = ℕ} (words_of s.shape) 0))

  module _ (q : ℕ) (lt : q < length s.flash) where
    row_before : get_or (take q s.flash ++ drop q (blank s.shape).flash) q [] ≡ ones
    row_before =
        at_patch s.flash (blank s.shape).flash q [] rows_same lt
        ∙ get_or-replicate {A = List ℕ} (s.shape.segments * s.shape.rows) q ones [] (let e = board.rows in omega arith)

    -- a program adds the next row
    pub row_programmed : (page : List ℕ) → page ≡ row_of s q → changed s.shape.rows (Program q page) (with_rows s q) ≡ with_rows s (q + 1)
    row_programmed page is =
        let before = take q s.flash ++ drop q (blank s.shape).flash in
        ap (λ (row : List ℕ). rows_as (set before q (ands row page))) row_before
        ∙ ap (λ (p : List ℕ). rows_as (set before q (ands ones p))) is
        ∙ ap (λ (p : List ℕ). rows_as (set before q p)) (ands-ones (row_of s q) (board.pages q lt))
        ∙ ap rows_as (patched s.flash (blank s.shape).flash q [] rows_same lt)

    -- an erased row needs none
    pub row_erased : row_of s q ≡ ones → with_rows s q ≡ with_rows s (q + 1)
    row_erased is =
        ap rows_as (unpatched s.flash (blank s.shape).flash q [] rows_same lt
        (is ∙ sym (get_or-replicate {A = List ℕ} (s.shape.segments * s.shape.rows) q ones [] (let e = board.rows in omega arith))))

  -- with all rows it is the board's content
  pub rows_all : with_rows s (s.shape.segments * s.shape.rows) ≡ content_of s
  rows_all = ap rows_as (patched_all s.flash (blank s.shape).flash (s.shape.segments * s.shape.rows) board.rows (length-replicate {A = List ℕ} (s.shape.segments * s.shape.rows) ones))
