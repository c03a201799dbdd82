-- What a supply of power is, and what each call makes of it.
use Rattle.std.specs.Prelude.{ℕ, ◌+◌, ◌-◌, ◌^◌, min, max, Bool, true, false, if◌then◌else◌, ◌==◌, Option, Some, None}
use Rattle.envy_bench.specs.declared.supply.Event.{Event}
use Rattle.envy_bench.specs.declared.supply.Event.TheVariants.{Pass, Cut, Bad}
use Rattle.envy_bench.specs.declared.supply.Plan.{Plan}

-- Whether power is on, the cut and the bad operation that are planned, how often power may still return,
-- and how many cuts and bad operations there were. A plan comes at operation `left` from now, 1 being the next.
pub record Power : Type 0 where
  pub on : Bool
  pub cut_plan : Option Plan
  pub bad_plan : Option Plan
  pub lives : ℕ
  pub cuts : ℕ
  pub bads : ℕ

-- a count of 64 bits after one more: it stops at the top
unfoldable pub up : ℕ → ℕ
up n = max n (min (n + 1) (2 ^ 64 - 1))

-- a new supply: power is on, and nothing is planned
abbrev pub fresh : ℕ → Power
fresh lives = record { on = true; cut_plan = None; bad_plan = None; lives = lives; cuts = 0; bads = 0 }

-- the number of a plan whose turn is the next operation
abbrev pub due : Option Plan → Option ℕ
due None = None
due (Some plan) = if plan.left == 1 then Some plan.seed else None

-- what is left of a plan after one operation: it is nearer by one, or spent
abbrev pub nearer : Option Plan → Option Plan
nearer None = None
nearer (Some plan) = if plan.left == 1 then None else Some (record plan { left = plan.left - 1 })

-- the event of an operation at which these plans are due: a cut goes first
abbrev pub event_of : Option ℕ → Option ℕ → Event
event_of (Some g) bad = Cut g
event_of None (Some g) = Bad g
event_of None None = Pass

-- the event that a `put` meets, and that a `program` or an `erase` meets
abbrev pub put_event : Power → Event
put_event s = event_of (due s.cut_plan) None

abbrev pub flash_event : Power → Event
flash_event s = event_of (due s.cut_plan) (due s.bad_plan)

-- the plans after a `put`, which counts against the plan of a cut alone
abbrev pub put_counted : Power → Power
put_counted s = record s { cut_plan = nearer s.cut_plan }

-- the plans after a `program` or an `erase`, which counts against both
abbrev pub flash_counted : Power → Power
flash_counted s = record s { cut_plan = nearer s.cut_plan; bad_plan = nearer s.bad_plan }

-- power fails
abbrev pub cut : Power → Power
cut s = record s { on = false; cuts = up s.cuts }

-- what an event does beyond the plans
abbrev pub struck : Event → Power → Power
struck Pass s = s
struck (Cut g) s = cut s
struck (Bad g) s = record s { bads = up s.bads }

-- power returns, which uses a life
abbrev pub lit : Power → Power
lit s = record s { on = true; lives = s.lives - 1 }

-- a cut is planned at operation k from now
abbrev pub with_cut : ℕ → ℕ → Power → Power
with_cut k g s = record s { cut_plan = Some (record { left = k; seed = g }) }

-- a bad operation is planned at flash operation k from now
abbrev pub with_bad : ℕ → ℕ → Power → Power
with_bad k g s = record s { bad_plan = Some (record { left = k; seed = g }) }
