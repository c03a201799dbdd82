-- The most worn and the least worn of the first position alone, and the least and the most wear of the first segment.
use Rattle.std.proofs.Common.{◌≡◌, inl, inr, ℕ, zero, suc, ◌+◌, ◌-◌, ◌<◌, ◌≤◌, ap, subst, arith}
use Rattle.std.proofs.lemmas.Bool.{cases_lt}
use Rattle.envy_base.specs.Shape.{IsShape, positions_of}
use Rattle.envy_base.specs.declared.shape.Shape.{Shape}
use Rattle.envy_wear.specs.Swaps.{IsMostWorn, IsLeastWorn}

pub most-first : (wear : ℕ → ℕ) (k : ℕ) → k ≡ 0 → IsMostWorn 1 wear k
most-first wear zero is = record { below = omega arith; most = only; lowest = λ j lt. absurd (omega arith) }
  where
    only : (j : ℕ) → j < 1 → wear j ≤ wear 0
    only zero lt = omega arith
    only (suc j) lt = absurd (omega arith)
most-first wear (suc k) is = absurd (omega arith)

pub least-first : (wear : ℕ → ℕ) (k : ℕ) → k ≡ 0 → IsLeastWorn 1 wear k
least-first wear zero is = record { below = omega arith; least = only; lowest = λ j lt. absurd (omega arith) }
  where
    only : (j : ℕ) → j < 1 → wear 0 ≤ wear j
    only zero lt = omega arith
    only (suc j) lt = absurd (omega arith)
least-first wear (suc k) is = absurd (omega arith)

pub least-only : (f : ℕ → ℕ) (x : ℕ) → x ≡ f 0 → (s : ℕ) → s < 1 → x ≤ f s
least-only f x is zero lt = omega arith
least-only f x is (suc s) lt = absurd (omega arith)

pub most-only : (f : ℕ → ℕ) (x : ℕ) → x ≡ f 0 → (s : ℕ) → s < 1 → f s ≤ x
most-only f x is zero lt = omega arith
most-only f x is (suc s) lt = absurd (omega arith)

-- with one segment more
pub least-more : (f : ℕ → ℕ) (n old new w : ℕ) → ((s : ℕ) → s < n → old ≤ f s) → new ≤ w → new ≤ old → w ≡ f n → (s : ℕ) → s < n + 1 → new ≤ f s
least-more f n old new w before here less is s lt = elim (cases_lt s n) [
  | inl lower ↦ let b = before s lower in omega arith
  | inr last ↦ let same : n ≡ s = omega arith in subst (λ (k : ℕ). new ≤ f k) same (omega arith)
]

pub most-more : (f : ℕ → ℕ) (n old new w : ℕ) → ((s : ℕ) → s < n → f s ≤ old) → w ≤ new → old ≤ new → w ≡ f n → (s : ℕ) → s < n + 1 → f s ≤ new
most-more f n old new w before here more is s lt = elim (cases_lt s n) [
  | inl lower ↦ let b = before s lower in omega arith
  | inr last ↦ let same : n ≡ s = omega arith in subst (λ (k : ℕ). f k ≤ new) same (omega arith)
]

-- a loop over the positions from 1 on, as its end was read, ends behind the last one
pub at-end : (i : ℕ) (read sh : Shape) → read ≡ sh → IsShape sh → positions_of read ≤ i → (1 ≤ positions_of read → i ≤ positions_of read) → i ≡ positions_of sh
at-end i read sh same shape last few =
    let some = shape.segments in
    let kept = shape.reserves in
    subst (λ (x : Shape). i ≡ positions_of x) same (let is : read.segments ≡ sh.segments = ap (λ (x : Shape). x.segments) same in let held : read.reserves ≡ sh.reserves = ap (λ (x : Shape). x.reserves) same in let most = few (omega (arith, kept)) in omega arith)

pub past-end : (i : ℕ) (read sh : Shape) → read ≡ sh → IsShape sh → read.segments ≤ i → (1 ≤ read.segments → i ≤ read.segments) → i ≡ sh.segments
past-end i read sh same shape last few =
    let some = shape.segments in
    subst (λ (x : Shape). i ≡ x.segments) same (let is : read.segments ≡ sh.segments = ap (λ (x : Shape). x.segments) same in let most = few (omega arith) in omega arith)

pub between : (least most x : ℕ) → least ≤ x → x ≤ most → least ≤ most
between least most x low high = omega arith
