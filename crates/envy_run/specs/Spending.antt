-- How much flash work the lines of a trace may begin, and that the board counts no more.
use Rattle.std.specs.Prelude.{ℕ, ◌+◌, ◌-◌, ◌*◌, ◌≤◌, List, [], ◌∷◌, sum}
use Rattle.envy_map.specs.Fields.{Chart}
use Rattle.envy_memory.specs.Below.{flush_programs, flush_erases}
use Rattle.envy_serve.specs.Turns.{count_lines, count_replies}
use Rattle.envy_trace.specs.declared.line.Line.{Line}
use Rattle.envy_trace.specs.declared.line.Line.TheVariants.{Store, Put, Tick}
use Rattle.envy_run.specs.Turns.{TraceTurn, is_power, is_lost}

-- Programs that a line may begin: a store or a put ends a swap, cleans and flushes at most; a background step begins one
-- at most; every other line none.
abbrev pub programs_of : ℕ → Line → ℕ
programs_of rows (Store a w) = flush_programs rows
programs_of rows (Put t a w) = flush_programs rows
programs_of rows Tick = 1
programs_of rows line = 0

-- erases that a line may begin
abbrev pub erases_of : Line → ℕ
erases_of (Store a w) = flush_erases
erases_of (Put t a w) = flush_erases
erases_of Tick = 1
erases_of line = 0

-- those of all lines together
abbrev pub programs_in : ℕ → List TraceTurn → ℕ
programs_in rows [] = 0
programs_in rows (turn ∷ earlier) = programs_in rows earlier + programs_of rows turn.line

abbrev pub erases_in : List TraceTurn → ℕ
erases_in [] = 0
erases_in (turn ∷ earlier) = erases_in earlier + erases_of turn.line

-- k programs and j erases began at most
pub record Spends (k j : ℕ) (old new : Chart) : Type 0 where
  pub programs : new.begun ≤ old.begun + k
  pub erases : sum new.erases ≤ sum old.erases + j

-- How often formatting was begun, at most: once, and once again for each failure of power that no line tells.
abbrev pub tries_of : List TraceTurn → Chart → ℕ
tries_of turns now = 1 + (now.cuts - (count_lines is_power turns + count_replies is_lost turns))

-- The flash work of a board is that of its lines at most, behind so many programs that began before the first of them.
-- The array was formatted or installed so often at most, and each time each segment was erased once at most.
pub record IsThrifty (earlier times : ℕ) (turns : List TraceTurn) (now : Chart) : Type 0 where
  pub programs : now.begun ≤ earlier + programs_in now.shape.rows turns
  pub erases : sum now.erases ≤ now.shape.segments * times + erases_in turns
