-- A bank as rows of words: what it holds, and what a program and an erase make of it.
use Rattle.std.specs.Prelude.{◌≡◌, ◌≢◌, ℕ, ◌*◌, ◌/◌, ◌<◌, ◌≤◌, List, [], length, replicate, slice_index, slice_index_or, slice_set}
use Rattle.envy_base.specs.Counting.{up}
use Rattle.envy_base.specs.State.{IsPage, ones}
use Rattle.envy_base.specs.declared.shape.TheConstants.{MOST_ROWS}

-- the rows, the number of rows of a block, and how often each block was erased
pub record BankState : Type 0 where
  pub flash : List (List ℕ)
  pub rows : ℕ
  pub erases : List ℕ

-- whole blocks of at least one row, each row a page
pub record IsBank (s : BankState) : Type 0 where
  pub some_rows : 1 ≤ s.rows
  pub whole : length s.flash ≡ length s.erases * s.rows
  pub few : length s.flash ≤ MOST_ROWS
  pub pages : (q : ℕ) → q < length s.flash → IsPage (slice_index_or s.flash q [])

abbrev pub row_of : BankState → ℕ → List ℕ
row_of s q = slice_index_or s.flash q []

-- all is erased, and nothing was erased yet
abbrev pub erased_bank : ℕ → ℕ → BankState
erased_bank blocks rows = record { flash = replicate (blocks * rows) ones; rows = rows; erases = replicate blocks 0 }

-- the row q holds this, and all else is as before
abbrev pub with_row : BankState → ℕ → List ℕ → BankState
with_row s q xs = record s { flash = slice_set s.flash q xs }

-- the rows of the block are erased, and the others are as before
pub record ErasesRows (rows block : ℕ) (old new : List (List ℕ)) : Type 0 where
  pub long : length new ≡ length old
  pub others : (q : ℕ) → q / rows ≢ block → slice_index_or new q [] ≡ slice_index_or old q []
  pub inside : (q : ℕ) → q < length old → q / rows ≡ block → slice_index_or new q [] ≡ ones

-- the block is erased, and counted
pub record ErasesBlock (block : ℕ) (old new : BankState) : Type 0 where
  pub flash : ErasesRows old.rows block old.flash new.flash
  pub rows : new.rows ≡ old.rows
  pub erases : new.erases ≡ slice_set old.erases block (up (slice_index old.erases block))
