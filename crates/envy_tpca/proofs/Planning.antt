-- Plans of cuts.
use Rattle.std.proofs.Common.{◌≡◌, ℕ, zero, suc, ◌≤◌, ◌+◌, ◌-◌, true, Option, Some, refl, sym, ◌∙◌, ap, subst, arith, add-one}
use Rattle.std.specs.Prelude.{◌%◌, if◌then◌else◌}
use Rattle.std.proofs.lemmas.Bool.{ne_eqb, eq-eqb}
use Rattle.envy_base.specs.declared.faults.PlannedFault.{PlannedFault}
use Rattle.envy_memory.specs.Calls.{planned}
use Rattle.envy_memory.specs.Picture.{Picture}
use Rattle.envy_tpca.specs.Driving.{is_planned, plans_in, cut_before, last_cut}
use Rattle.envy_tpca.specs.Since.{Since}
use Rattle.envy_tpca.proofs.Since.{since-planned}

is-planned : (every i : ℕ) → (every ≡ 0 → ⊥) → i % every ≡ 0 → is_planned every i ≡ true
is-planned every i some e = rw (ne_eqb every 0 some, eq-eqb (i % every) 0 e) refl

-- a plan is one more
pub plans-one : (fault : PlannedFault) (every i : ℕ) (old new : Picture) → (every ≡ 0 → ⊥) → i % every ≡ 0 → new ≡ record old { chart = planned fault old.chart } → Since (if is_planned every i then 1 else 0) old new
plans-one fault every i old new some e same = rw (is-planned every i some e) (since-planned fault old new same)

-- and the last one is the cut before transfer i
pub cut-one : (every i : ℕ) (old new : Picture) → (every ≡ 0 → ⊥) → i % every ≡ 0 → new ≡ record old { chart = planned (cut_before i) old.chart } → new.chart.last_plan ≡ (if is_planned every i then Some (cut_before i) else old.chart.last_plan)
cut-one every i old new some e same = rw (is-planned every i some e) (ap (λ (p : Picture). p.chart.last_plan) same)

-- the last plan up to the next transfer
pub last-more : (every n : ℕ) (before : Option PlannedFault) → last_cut every (n + 1) before ≡ (if is_planned every n then Some (cut_before n) else last_cut every n before)
unfolding last_cut
last-more every n before = ap (λ (k : ℕ). last_cut every k before) (add-one n)

pub last-none : (every : ℕ) (before : Option PlannedFault) → before ≡ last_cut every 0 before
unfolding last_cut
last-none every before = refl

-- it goes on from the last plan of before
pub last-after : (every n : ℕ) (before old new : Option PlannedFault) → old ≡ last_cut every n before → new ≡ (if is_planned every n then Some (cut_before n) else old) → new ≡ last_cut every (n + 1) before
last-after every n before old new so_far is = is ∙ ap (λ (o : Option PlannedFault). if is_planned every n then Some (cut_before n) else o) so_far ∙ sym (last-more every n before)

-- plans up to the next transfer
pub plans-more : (every n : ℕ) → plans_in every (n + 1) ≡ plans_in every n + (if is_planned every n then 1 else 0)
unfolding plans_in
plans-more every n = ap (λ (k : ℕ). plans_in every k) (add-one n)

pub plans-none : (every : ℕ) → plans_in every 0 ≡ 0
unfolding plans_in
plans-none every = refl

plans-step : (every n : ℕ) → plans_in every n ≤ plans_in every (n + 1)
plans-step every n = rw (plans-more every n) (omega arith)

pub plans-least : (every n k : ℕ) → plans_in every n ≤ plans_in every (n + k)
plans-least every n zero = let e : n ≡ n + 0 = omega arith in subst (λ (j : ℕ). plans_in every n ≤ plans_in every j) e (omega arith)
plans-least every n (suc k) = let e = plans-least every n k in let f = plans-step every (n + k) in let same : n + k + 1 ≡ n + suc k = omega arith in subst (λ (j : ℕ). plans_in every n ≤ plans_in every j) same (omega arith)

-- earlier transfers have no more plans
pub plans-within : (every n m : ℕ) → n ≤ m → plans_in every n ≤ plans_in every m
plans-within every n m le = let e = plans-least every n (m - n) in subst (λ (j : ℕ). plans_in every n ≤ plans_in every j) (omega arith) e
