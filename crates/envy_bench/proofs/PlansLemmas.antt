-- A plan is a count of the operations to come, and each operation takes one from it.
use Rattle.std.proofs.Common.{◌≡◌, ℕ, ◌+◌, ◌-◌, ◌≤◌, zero, suc, Bool, true, false, List, [], ◌∷◌, refl, sym, ap, ◌∙◌, arith, add-one}
use Rattle.std.specs.Prelude.{Option, Some, None, if◌then◌else◌, ◌==◌}
use Rattle.std.proofs.lemmas.Bool.Decides.{nat_tests}
use Rattle.envy_bench.specs.declared.supply.Event.{Event}
use Rattle.envy_bench.specs.declared.supply.Event.TheVariants.{Pass, Cut, Bad}
use Rattle.envy_bench.specs.declared.supply.Plan.{Plan}
use Rattle.envy_bench.specs.Power.{Power, due, nearer, event_of, put_event, flash_event, put_counted, flash_counted, struck, lit}
use Rattle.envy_bench.specs.Plans.{Call, Put, Flash, ArmCut, ArmBad, CutNow, PowerOn, after, operations, flash_operations, PlansNoCut, PlansNoBad, cut_in, bad_in, CutComesAt, BadComesAt, NothingComes}

-- a plan after n operations
abbrev nearer_by : ℕ → Option Plan → Option Plan
nearer_by zero plan = plan
nearer_by (suc n) plan = nearer_by n (nearer plan)

-- what an event does leaves the plans
struck-cut_plan : (e : Event) (s : Power) → (struck e s).cut_plan ≡ s.cut_plan
struck-cut_plan Pass s = refl
struck-cut_plan (Cut g) s = refl
struck-cut_plan (Bad g) s = refl

struck-bad_plan : (e : Event) (s : Power) → (struck e s).bad_plan ≡ s.bad_plan
struck-bad_plan Pass s = refl
struck-bad_plan (Cut g) s = refl
struck-bad_plan (Bad g) s = refl

-- a return of power leaves the plans
lit-cut_plan : (b : Bool) (s : Power) → (if b then s else lit s).cut_plan ≡ s.cut_plan
lit-cut_plan true s = refl
lit-cut_plan false s = refl

lit-bad_plan : (b : Bool) (s : Power) → (if b then s else lit s).bad_plan ≡ s.bad_plan
lit-bad_plan true s = refl
lit-bad_plan false s = refl

-- the plan of a cut after calls that plan none
cut_plan-after : (calls : List Call) (s : Power) → PlansNoCut calls → (after calls s).cut_plan ≡ nearer_by (operations calls) s.cut_plan
cut_plan-after [] s no_cut = refl
cut_plan-after (Put ∷ calls) s no_cut =
    rw add-one (cut_plan-after calls _ no_cut ∙ ap (nearer_by (operations calls)) (struck-cut_plan (put_event s) (put_counted s)))
cut_plan-after (Flash ∷ calls) s no_cut =
    rw add-one (cut_plan-after calls _ no_cut ∙ ap (nearer_by (operations calls)) (struck-cut_plan (flash_event s) (flash_counted s)))
cut_plan-after (ArmCut k g ∷ calls) s no_cut = absurd no_cut
cut_plan-after (ArmBad k g ∷ calls) s no_cut = cut_plan-after calls _ no_cut
cut_plan-after (CutNow ∷ calls) s no_cut = cut_plan-after calls _ no_cut
cut_plan-after (PowerOn ∷ calls) s no_cut =
    cut_plan-after calls _ no_cut ∙ ap (nearer_by (operations calls)) (lit-cut_plan (s.lives == 0) s)

-- the plan of a bad operation after calls that plan none
bad_plan-after : (calls : List Call) (s : Power) → PlansNoBad calls → (after calls s).bad_plan ≡ nearer_by (flash_operations calls) s.bad_plan
bad_plan-after [] s no_bad = refl
bad_plan-after (Put ∷ calls) s no_bad =
    bad_plan-after calls _ no_bad ∙ ap (nearer_by (flash_operations calls)) (struck-bad_plan (put_event s) (put_counted s))
bad_plan-after (Flash ∷ calls) s no_bad =
    rw add-one (bad_plan-after calls _ no_bad ∙ ap (nearer_by (flash_operations calls)) (struck-bad_plan (flash_event s) (flash_counted s)))
bad_plan-after (ArmCut k g ∷ calls) s no_bad = bad_plan-after calls _ no_bad
bad_plan-after (ArmBad k g ∷ calls) s no_bad = absurd no_bad
bad_plan-after (CutNow ∷ calls) s no_bad = bad_plan-after calls _ no_bad
bad_plan-after (PowerOn ∷ calls) s no_bad =
    bad_plan-after calls _ no_bad ∙ ap (nearer_by (flash_operations calls)) (lit-bad_plan (s.lives == 0) s)

-- no plan stays none
nearer_by-None : (n : ℕ) → nearer_by n None ≡ None
nearer_by-None zero = refl
nearer_by-None (suc n) = nearer_by-None n

-- a plan is due after all but one of its operations, and after no other number of them
due-nearer_by : (n : ℕ) (plan : Plan) → 1 ≤ plan.left → due (nearer_by n (Some plan)) ≡ (if n + 1 == plan.left then Some plan.seed else None)
due-nearer_by zero plan ahead =
    let same : (plan.left == 1) ≡ (0 + 1 == plan.left) = grind (arith, nat_tests) in
    ap (λ b. if b then Some plan.seed else None) same
due-nearer_by (suc n) plan ahead =
    by_turn (plan.left == 1) refl (λ later. due-nearer_by n (record plan { left = plan.left - 1 }) later)
  where
    by_turn : (b : Bool) → (plan.left == 1) ≡ b
        → (1 ≤ plan.left - 1 → due (nearer_by n (Some (record plan { left = plan.left - 1 }))) ≡ (if n + 1 == plan.left - 1 then Some plan.seed else None))
        → due (nearer_by n (if b then None else Some (record plan { left = plan.left - 1 }))) ≡ (if suc n + 1 == plan.left then Some plan.seed else None)
    by_turn true now rest =
        let test : (suc n + 1 == plan.left) ≡ false = grind (arith, nat_tests) in
        rw (nearer_by-None n, test) refl
    by_turn false now rest =
        let later : 1 ≤ plan.left - 1 = grind (arith, nat_tests) in
        let same : (n + 1 == plan.left - 1) ≡ (suc n + 1 == plan.left) = grind (arith, nat_tests) in
        rest later ∙ ap (λ b. if b then Some plan.seed else None) same

-- the parts of an event
cut_in-event_of : (c b : Option ℕ) → cut_in (event_of c b) ≡ c
cut_in-event_of (Some g) b = refl
cut_in-event_of None (Some g) = refl
cut_in-event_of None None = refl

bad_in-event_of : (c b : Option ℕ) → c ≡ None → bad_in (event_of c b) ≡ b
bad_in-event_of (Some g) b e = (cc)
bad_in-event_of None (Some g) e = refl
bad_in-event_of None None e = refl

-- a `put` is never bad
bad_in-put_event : (c : Option ℕ) → bad_in (event_of c None) ≡ None
bad_in-put_event (Some g) = refl
bad_in-put_event None = refl

-- a flash operation with no plan that it goes wrong does not
bad_in-unplanned : (c b : Option ℕ) → b ≡ None → bad_in (event_of c b) ≡ None
bad_in-unplanned (Some g) b e = refl
bad_in-unplanned None b e = ap (λ x. bad_in (event_of None x)) e

-- a plan of a cut comes at its operation and at no other
pub CutComesAt-planned : (k g : ℕ) (s : Power) → 1 ≤ k → s.cut_plan ≡ Some (record { left = k; seed = g }) → CutComesAt k g s
CutComesAt-planned k g s ahead plan = record {
  put = λ calls no_cut. cut_in-event_of _ _ ∙ planned calls no_cut;
  flash = λ calls no_cut. cut_in-event_of _ _ ∙ planned calls no_cut;
}
  where
    planned : (calls : List Call) → PlansNoCut calls → due (after calls s).cut_plan ≡ (if operations calls + 1 == k then Some g else None)
    planned calls no_cut =
        ap due (cut_plan-after calls s no_cut ∙ ap (nearer_by (operations calls)) plan) ∙ due-nearer_by (operations calls) (record { left = k; seed = g }) ahead

-- a plan of a bad operation comes at its operation of the flash and at no other
pub BadComesAt-planned : (k g : ℕ) (s : Power) → 1 ≤ k → s.bad_plan ≡ Some (record { left = k; seed = g }) → BadComesAt k g s
BadComesAt-planned k g s ahead plan = record {
  put = λ calls. bad_in-put_event _;
  flash = λ calls no_bad uncut.
      bad_in-event_of _ _ (sym (cut_in-event_of _ _) ∙ uncut)
      ∙ ap due (bad_plan-after calls s no_bad ∙ ap (nearer_by (flash_operations calls)) plan) ∙ due-nearer_by (flash_operations calls) (record { left = k; seed = g }) ahead;
}

-- nothing comes where nothing is planned
pub NothingComes-unplanned : (s : Power) → s.cut_plan ≡ None → s.bad_plan ≡ None → NothingComes s
NothingComes-unplanned s no_cut no_bad = record {
  put = λ calls none. ap (λ plan. event_of (due plan) None) (unplanned_cut calls none);
  cut = λ calls none. cut_in-event_of _ _ ∙ ap due (unplanned_cut calls none);
  bad = λ calls none. bad_in-unplanned _ _ (ap due (bad_plan-after calls s none ∙ ap (nearer_by (flash_operations calls)) no_bad ∙ nearer_by-None (flash_operations calls)));
}
  where
    unplanned_cut : (calls : List Call) → PlansNoCut calls → (after calls s).cut_plan ≡ None
    unplanned_cut calls none = cut_plan-after calls s none ∙ ap (nearer_by (operations calls)) no_cut ∙ nearer_by-None (operations calls)
