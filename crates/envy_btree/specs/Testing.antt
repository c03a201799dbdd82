-- What the tests keep of the words between their calls.
use Rattle.std.specs.Prelude.{◌≡◌, ℕ, ◌^◌, ◌≤◌, false, List, length}
use Rattle.envy_array.specs.Words.{Sheet}
use Rattle.envy_btree.specs.Index.{IsIndex}

-- the index's calls may be made
pub record IsReady (s : Sheet) : Type 0 where
  pub shut : s.started ≡ false
  pub room : 32 ≤ s.room
  pub size : length s.words ≤ 2 ^ 29
  pub map : (es : List (ℕ × ℕ)) × IsIndex s.words es
