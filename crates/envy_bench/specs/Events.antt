-- What an operation of a board in memory leaves, by the event that it meets while power is on.
use Rattle.std.specs.Prelude.{◌≡◌, ℕ, ◌%◌, ◌==◌, if◌then◌else◌, List, Result, Ok, Err}
use Rattle.envy_base.specs.declared.board.Off.{Off}
use Rattle.envy_base.specs.declared.board.Trouble.{Trouble}
use Rattle.envy_base.specs.declared.board.Trouble.TheVariants.{Off as TroubleOff, Bad as TroubleBad}
use Rattle.envy_base.specs.Counting.{up}
use Rattle.envy_base.specs.State.{State, Only, IsOnes, ands, row_of, cut, with_word, with_row, with_segment}
use Rattle.envy_bench.specs.declared.supply.Event.{Event}
use Rattle.envy_bench.specs.declared.supply.Event.TheVariants.{Pass, Cut, Bad}
use Rattle.envy_bench.specs.Power.{Power, put_event, put_counted, flash_event, flash_counted, struck}
use Rattle.envy_bench.specs.TornRows.{torn_row, TearsRows}

-- a `put` of v into word w: a cut with an even g keeps the old word, and with an odd g the new one stands
abbrev pub PutMeets : Event → State → ℕ → ℕ → Result Unit Off → State → Type 0
PutMeets Pass old w v r new = (r ≡ Ok tt) × (new ≡ with_word old w v)
PutMeets (Cut g) old w v r new = (r ≡ Err (record {})) × (new ≡ cut (if g % 2 == 0 then old else with_word old w v))
PutMeets (Bad g) old w v r new = ⊥

-- a `program` of row q with the page x: where it is disturbed the row holds the first 32 words drawn from g
abbrev pub ProgramMeets : Event → State → ℕ → List ℕ → Result Unit Trouble → State → Type 0
ProgramMeets Pass old q x r new = (r ≡ Ok tt) × (new ≡ with_row old q (ands (row_of old q) x))
ProgramMeets (Cut g) old q x r new = (r ≡ Err TroubleOff) × (new ≡ cut (with_row old q (torn_row g 0)))
ProgramMeets (Bad g) old q x r new = (r ≡ Err TroubleBad) × (new ≡ record (with_row old q (torn_row g 0)) { bads = up old.bads })

-- an `erase` of segment e: where it is disturbed the segment's rows hold the words drawn from g in order
abbrev pub EraseMeets : Event → State → ℕ → Result Unit Trouble → State → Type 0
EraseMeets Pass old e r new = (r ≡ Ok tt) × (rows : List (List ℕ)) × Only old.shape.rows e IsOnes old.flash rows × (new ≡ with_segment old e rows)
EraseMeets (Cut g) old e r new = (r ≡ Err TroubleOff) × (rows : List (List ℕ)) × TearsRows old.shape.rows e g old.flash rows × (new ≡ cut (with_segment old e rows))
EraseMeets (Bad g) old e r new = (r ≡ Err TroubleBad) × (rows : List (List ℕ)) × TearsRows old.shape.rows e g old.flash rows × (new ≡ record (with_segment old e rows) { bads = up old.bads })

-- the supply of power after a `put`, and after a `program` or an `erase`: without power nothing is counted
abbrev pub after_put : Power → Power
after_put p = if p.on then struck (put_event p) (put_counted p) else p

abbrev pub after_flash : Power → Power
after_flash p = if p.on then struck (flash_event p) (flash_counted p) else p
