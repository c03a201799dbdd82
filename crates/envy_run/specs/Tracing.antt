-- What a memory did since a trace began, with the counts that license it.
use Rattle.std.specs.Prelude.{◌≡◌, ◌<◌, IsTrue, true, ℕ, List, length, nat_lt, refl, Err}
use Rattle.std.proofs.lemmas.Bool.{lt-ltb}
use Rattle.envy_array.specs.Array.{Array}
use Rattle.envy_meaning.specs.Stands.{Stands}
use Rattle.envy_map.specs.Fields.{Chart}
use Rattle.envy_memory.specs.Picture.{Picture}
use Rattle.envy_serve.specs.Turns.{count_lines, count_replies}
use Rattle.envy_trace.specs.declared.fault.LineFault.TheVariants.{Long}
use Rattle.envy_trace.specs.Grammar.{line_of}
use Rattle.envy_run.specs.Done.{Run, Dies, HoldsOff}
use Rattle.envy_run.specs.Licence.{Licence, plans_in}
use Rattle.envy_run.specs.Spending.{Spends, programs_in, erases_in}
use Rattle.envy_run.specs.Tells.{Telling}
use Rattle.envy_run.specs.Turns.{TraceTurn, is_power, plan_of, is_lost, is_fault}

-- what a service over a board begins with
pub record Start : Type 0 where
  pub array : Array
  pub memory : Picture

-- the turns lead from the first array to one for which the board stands
pub record HasDone (first : Array) (now : Chart) (turns : List TraceTurn) : Type 0 where
  pub array : Array
  pub run : Run now.shape.entries first turns array
  pub stands : Stands now array

-- or power failed in the last of them for good
abbrev pub HasDied : Array → Chart → List TraceTurn → Type 0
HasDied first now turns = (left : Array) × Dies now.shape.entries first turns left × HoldsOff left.words now

-- the counts that license the turns
abbrev pub LicensedTurns : List TraceTurn → Chart → Chart → Type 0
LicensedTurns turns first now = Licence (count_lines is_power turns) (plans_in plan_of turns) (count_replies is_lost turns) (count_replies is_fault turns) first now

-- the flash work of the lines
abbrev pub SpentSince : Start → Picture → List TraceTurn → Type 0
SpentSince start p turns = Spends (programs_in start.memory.chart.shape.rows turns) (erases_in turns) start.memory.chart p.chart

pub record TracedSince (start : Start) (p : Picture) (turns : List TraceTurn) : Type 0 where
  pub done : HasDone start.array p.chart turns
  pub licensed : LicensedTurns turns start.memory.chart p.chart
  pub spent : SpentSince start p turns
  pub telling : Telling start.memory turns p

pub record DiedSince (start : Start) (p : Picture) (turns : List TraceTurn) : Type 0 where
  pub died : HasDied start.array p.chart turns
  pub licensed : LicensedTurns turns start.memory.chart p.chart
  pub spent : SpentSince start p turns

-- the laws of the service

pub on_since : (start : Start) (p : Picture) (turns : List TraceTurn) → TracedSince start p turns → IsTrue p.chart.on
on_since start p turns t = Stands.on (HasDone.stands t.done)

pub long_any : (piece : List ℕ) → 120 < length piece → line_of piece ≡ Err Long
unfolding line_of
long_any piece far = let test : nat_lt 120 (length piece) ≡ true = lt-ltb 120 (length piece) far in rw test refl
