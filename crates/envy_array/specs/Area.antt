-- The records of the TPC-A load, as words of the array: the number of transfers, a balance for each
-- branch, teller and account, and from the next multiple of 4 on four words for each transfer.
use Rattle.std.specs.Prelude.{ℕ, ◌+◌, ◌*◌, ◌/◌, ◌≤◌}
use Rattle.envy_array.specs.declared.area.Area.{Area}
use Rattle.envy_base.specs.declared.page.TheConstants.{PAGE_WORDS}

-- where the history begins
abbrev pub history_at : ℕ → ℕ → ℕ
history_at branches accounts = (1 + 11 * branches + branches * accounts + 3) / 4 * 4

pub record Fits (area : Area) (pages : ℕ) : Type 0 where
  pub branches : 1 ≤ area.branches
  pub accounts : 1 ≤ area.accounts
  pub room : history_at area.branches area.accounts + 4 * area.transfers ≤ PAGE_WORDS * pages
