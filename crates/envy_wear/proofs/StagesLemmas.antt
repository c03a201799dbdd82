-- The stages of a swap that are left are positions where all were.
use Rattle.std.proofs.Common.{◌≡◌, ◌≢◌, ℕ, zero, suc, ◌-◌, ◌<◌, ◌≤◌, refl, arith}
use Rattle.std.specs.List.{All}
use Rattle.std.proofs.lemmas.List.Elements.{All-drop}
use Rattle.envy_wear.specs.declared.swap.Swap.{Swap}
use Rattle.envy_wear.specs.Swaps.{last_stages, stages_of}

pub next-below : (s : Swap) (left n position : ℕ) → left ≤ 3 → left ≢ 0 → (left ≡ 2 → position ≡ s.young) → (left ≢ 2 → position ≡ s.worn) → All (λ k. k < n) (last_stages s left) → (position < n) × All (λ k. k < n) (last_stages s (left - 1))
next-below s zero n position few some young worn all = absurd (some refl)
next-below s (suc zero) n position few some young worn all =
    let is = worn (λ e. omega arith) in let first : s.worn < n = all 0 0 (omega arith) in
    (omega arith, λ k d lt. absurd (omega arith))
next-below s (suc (suc zero)) n position few some young worn all =
    let is = young refl in let first : s.young < n = all 0 0 (omega arith) in
    (omega arith, All-drop (λ k. k < n) 1 (last_stages s 2) all)
next-below s (suc (suc (suc zero))) n position few some young worn all =
    let is = worn (λ e. omega arith) in let first : s.worn < n = all 0 0 (omega arith) in
    (omega arith, All-drop (λ k. k < n) 1 (stages_of s) all)
next-below s (suc (suc (suc (suc k)))) n position few some young worn all = absurd (omega arith)
