-- When a plan comes: at its operation, counted from where it was made, and at no other.
use Rattle.std.specs.Prelude.{◌≡◌, ℕ, ◌+◌, if◌then◌else◌, ◌==◌, Option, Some, None, List, [], ◌∷◌}
use Rattle.envy_bench.specs.declared.supply.Event.{Event}
use Rattle.envy_bench.specs.declared.supply.Event.TheVariants.{Pass, Cut, Bad}
use Rattle.envy_bench.specs.Power.{Power, put_event, flash_event, put_counted, flash_counted, struck, cut, lit, with_cut, with_bad}

-- the calls that change a supply
pub data Call : Type 0 where
  Put : Call
  Flash : Call
  ArmCut : ℕ → ℕ → Call
  ArmBad : ℕ → ℕ → Call
  CutNow : Call
  PowerOn : Call

-- the supply after one call, as the clauses of the calls say
abbrev pub after_call : Call → Power → Power
after_call Put s = struck (put_event s) (put_counted s)
after_call Flash s = struck (flash_event s) (flash_counted s)
after_call (ArmCut k g) s = with_cut k g s
after_call (ArmBad k g) s = with_bad k g s
after_call CutNow s = cut s
after_call PowerOn s = if s.lives == 0 then s else lit s

-- the supply after these calls, in order
abbrev pub after : List Call → Power → Power
after [] s = s
after (call ∷ calls) s = after calls (after_call call s)

-- how many operations of the device are among these calls
abbrev pub operations : List Call → ℕ
operations [] = 0
operations (Put ∷ calls) = operations calls + 1
operations (Flash ∷ calls) = operations calls + 1
operations (_ ∷ calls) = operations calls

-- how many operations of the flash
abbrev pub flash_operations : List Call → ℕ
flash_operations [] = 0
flash_operations (Flash ∷ calls) = flash_operations calls + 1
flash_operations (_ ∷ calls) = flash_operations calls

-- none of these calls plans a cut
abbrev pub PlansNoCut : List Call → Type 0
PlansNoCut [] = Unit {0}
PlansNoCut (ArmCut k g ∷ calls) = ⊥
PlansNoCut (_ ∷ calls) = PlansNoCut calls

-- none of these calls plans a bad operation
abbrev pub PlansNoBad : List Call → Type 0
PlansNoBad [] = Unit {0}
PlansNoBad (ArmBad k g ∷ calls) = ⊥
PlansNoBad (_ ∷ calls) = PlansNoBad calls

-- the number of a cut, and of a bad operation
abbrev pub cut_in : Event → Option ℕ
cut_in (Cut g) = Some g
cut_in _ = None

abbrev pub bad_in : Event → Option ℕ
bad_in (Bad g) = Some g
bad_in _ = None

-- Whatever calls come from now on, but for a new plan of a cut: the operation after them is cut exactly
-- where it is operation k from now, and with g. Cuts and returns of power among them change nothing of it.
-- It is said of all lists of calls, so also of those whose conditions hold.
pub record CutComesAt (k g : ℕ) (s : Power) : Type 0 where
  pub put : (calls : List Call) → PlansNoCut calls
      → cut_in (put_event (after calls s)) ≡ (if operations calls + 1 == k then Some g else None)
  pub flash : (calls : List Call) → PlansNoCut calls
      → cut_in (flash_event (after calls s)) ≡ (if operations calls + 1 == k then Some g else None)

-- The same of a bad operation, among the operations of the flash that are not cut. A `put` is never bad.
pub record BadComesAt (k g : ℕ) (s : Power) : Type 0 where
  pub put : (calls : List Call) → bad_in (put_event (after calls s)) ≡ None
  pub flash : (calls : List Call) → PlansNoBad calls → cut_in (flash_event (after calls s)) ≡ None
      → bad_in (flash_event (after calls s)) ≡ (if flash_operations calls + 1 == k then Some g else None)

-- Until a plan is made no operation is cut, and none is bad.
pub record NothingComes (s : Power) : Type 0 where
  pub put : (calls : List Call) → PlansNoCut calls → put_event (after calls s) ≡ Pass
  pub cut : (calls : List Call) → PlansNoCut calls → cut_in (flash_event (after calls s)) ≡ None
  pub bad : (calls : List Call) → PlansNoBad calls → bad_in (flash_event (after calls s)) ≡ None
