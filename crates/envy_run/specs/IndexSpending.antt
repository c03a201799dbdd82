-- How much flash work the lines of an index may begin, in puts, and that the board counts no more.
use Rattle.std.specs.Prelude.{ℕ, ◌+◌, ◌-◌, ◌*◌, ◌^◌, ◌≤◌, List, [], ◌∷◌, sum}
use Rattle.envy_btree.specs.Answers.{insert_puts, removal_puts}
use Rattle.envy_btree.specs.declared.line.IndexLine.{IndexLine}
use Rattle.envy_btree.specs.declared.line.IndexLine.TheVariants.{Insert, Remove}
use Rattle.envy_map.specs.Fields.{Chart}
use Rattle.envy_memory.specs.Below.{flush_programs, flush_erases}
use Rattle.envy_serve.specs.Turns.{count_lines, count_replies}
use Rattle.envy_run.specs.IndexTurns.{IndexTurn, is_power, is_lost}
use Rattle.envy_run.specs.Spending.{Spends}

-- Puts that a line is worth at most: those of a change in the most words that an index has, with the transaction that it
-- opens as one of them. Every other line is worth none.
abbrev pub puts_of : IndexLine → ℕ
puts_of (Insert key value) = insert_puts (2 ^ 25)
puts_of (Remove key) = removal_puts (2 ^ 25)
puts_of line = 0

-- those of all lines together
abbrev pub puts_in : List IndexTurn → ℕ
puts_in [] = 0
puts_in (turn ∷ earlier) = puts_in earlier + puts_of turn.line

-- no more flash work began than n puts may begin
abbrev pub SpendsPuts : ℕ → Chart → Chart → Type 0
SpendsPuts n old new = Spends (n * flush_programs old.shape.rows) (n * flush_erases) old new

-- How often formatting was begun, at most: once, and once again for each failure of power that no line tells.
abbrev pub tries_before : List IndexTurn → Chart → ℕ
tries_before turns now = 1 + (now.cuts - (count_lines is_power turns + count_replies is_lost turns))

-- The flash work of a board is that of its lines at most. The array was formatted so often at most, and each time each
-- segment was erased once at most.
pub record IsThriftyIndex (times : ℕ) (turns : List IndexTurn) (now : Chart) : Type 0 where
  pub programs : now.begun ≤ puts_in turns * flush_programs now.shape.rows
  pub erases : sum now.erases ≤ now.shape.segments * times + puts_in turns * flush_erases
