-- The bits of a word, and the lowest and the highest that is set.
use Rattle.std.proofs.Common.{◌≡◌, ◌⊎◌, inl, inr, ℕ, suc, ◌+◌, ◌-◌, ◌*◌, ◌/◌, ◌%◌, ◌^◌, ◌<◌, ◌≤◌, sym, ◌∙◌, ap, bit_and, bit_xor, arith}
use Rattle.std.specs.Int.{bit_at, trailing_zeros, w64}
use Rattle.std.proofs.Math.Nat.{two-pow-succ}
use Rattle.std.proofs.lemmas.Bool.{cases_lt}
use Rattle.std.proofs.lemmas.Nat.{shr-shr, pow_pos, le-div, div_below, one_shl}
use Rattle.std.proofs.lemmas.Nat.Bits.{bit_at-zero, bit_at-lt, bit_at_above, bit_at_xor, bit_at_and, bit_at-pow_same, bit_at-pow_other, bit_at-trailing_zeros, bit_at_ones, bit_at_ones_above, ones_shr}
use Rattle.envy_space.specs.Bits.{IsTurned}
use Rattle.envy_space.specs.Winners.{IsLowest, IsHighest}

pub IsTurned-xor : (n i : ℕ) → i < 64 → IsTurned n i (bit_xor n (1 * 2 ^ i % 2 ^ 64))
IsTurned-xor n i within =
    let mask = one_shl i 64 within in
    record {
      here = ap (λ (m : ℕ). bit_at (bit_xor n m) i) mask ∙ bit_at_xor n (2 ^ i) i ∙ (let one = bit_at-pow_same i in let few = bit_at-lt n i in omega arith);
      others = λ j apart. ap (λ (m : ℕ). bit_at (bit_xor n m) j) mask ∙ bit_at_xor n (2 ^ i) j ∙ (let none = bit_at-pow_other i j apart in let few = bit_at-lt n j in omega arith);
    }

pub IsLowest-trailing : (n : ℕ) → 0 < n → n < 2 ^ 64 → IsLowest (bit_at n) 0 64 (trailing_zeros w64 n)
IsLowest-trailing n some fits =
    let h = bit_at-trailing_zeros w64 n some fits in
    record {
      above = omega arith;
      below = h.0;
      some = let one = h.1 in omega arith;
      none = λ j low high. h.2 j high;
    }

pub IsHighest-log : (n k : ℕ) → 2 ^ k ≤ n → n < 2 * 2 ^ k → k < 64 → IsHighest (bit_at n) 0 64 k
IsHighest-log n k le lt few =
    let some : 1 ≤ n / 2 ^ k = le-div 1 n (2 ^ k) (pow_pos k) (omega arith) in
    let one : n / 2 ^ k < 2 = div_below n (2 ^ k) 2 (pow_pos k) lt in
    record {
      above = omega arith;
      below = few;
      some = omega arith;
      none = λ j low high. bit_at_above n (suc k) j (let wide = two-pow-succ k in omega arith) (omega arith);
    }

-- bit i of a shifted word
shifted : (n s i : ℕ) → bit_at (n / 2 ^ s) i ≡ bit_at n (s + i)
shifted n s i = ap (λ (m : ℕ). m % 2) (shr-shr n s i)

pub none-shifted : (n s j : ℕ) → n / 2 ^ s ≡ 0 → s ≤ j → bit_at n j ≡ 0
none-shifted n s j none le =
    let back : j ≡ s + (j - s) = omega arith in
    ap (bit_at n) back ∙ sym (shifted n s (j - s)) ∙ ap (λ (m : ℕ). bit_at m (j - s)) none ∙ bit_at-zero (j - s)

pub IsLowest-shifted : (n s k : ℕ) → n < 2 ^ 64 → IsLowest (bit_at (n / 2 ^ s)) 0 64 k → IsLowest (bit_at n) s 64 (s + k)
IsLowest-shifted n s k fits lowest =
    let one = shifted n s k in
    let some = lowest.some in
    record {
      above = omega arith;
      below = within (cases_lt (s + k) 64);
      some = omega arith;
      none = λ j low high.
          let back : j ≡ s + (j - s) = omega arith in
          ap (bit_at n) back ∙ sym (shifted n s (j - s)) ∙ lowest.none (j - s) (omega arith) (omega arith);
    }
  where
    within : ((s + k) < 64) ⊎ (64 ≤ s + k) → s + k < 64
    within (inl lt) = lt
    within (inr ge) = let none = bit_at_above n 64 (s + k) fits ge in let one = shifted n s k in let some = lowest.some in absurd (omega arith)

-- what is left of a word up to a bit
mask : (to : ℕ) → to < 64 → (2 ^ 64 - 1) / 2 ^ (63 - to) ≡ 2 ^ (to + 1) - 1
mask to within = ones_shr 64 (63 - to) (omega arith) ∙ ap (λ (k : ℕ). 2 ^ k - 1) (omega arith)

masked-below : (n to j : ℕ) → to < 64 → j ≤ to → bit_at (bit_and n ((2 ^ 64 - 1) / 2 ^ (63 - to))) j ≡ bit_at n j
masked-below n to j within le =
    ap (λ (m : ℕ). bit_at (bit_and n m) j) (mask to within) ∙ bit_at_and n (2 ^ (to + 1) - 1) j
    ∙ (let one = bit_at_ones (to + 1) j (omega arith) in let few = bit_at-lt n j in omega arith)

masked-above : (n to j : ℕ) → to < 64 → to < j → bit_at (bit_and n ((2 ^ 64 - 1) / 2 ^ (63 - to))) j ≡ 0
masked-above n to j within gt =
    ap (λ (m : ℕ). bit_at (bit_and n m) j) (mask to within) ∙ bit_at_and n (2 ^ (to + 1) - 1) j
    ∙ (let none = bit_at_ones_above (to + 1) j (omega arith) in omega arith)

pub none-masked : (n to j : ℕ) → to < 64 → bit_and n ((2 ^ 64 - 1) / 2 ^ (63 - to)) ≡ 0 → j < to + 1 → bit_at n j ≡ 0
none-masked n to j within none lt = sym (masked-below n to j within (omega arith)) ∙ ap (λ (m : ℕ). bit_at m j) none ∙ bit_at-zero j

pub IsHighest-masked : (n to k : ℕ) → to < 64 → IsHighest (bit_at (bit_and n ((2 ^ 64 - 1) / 2 ^ (63 - to)))) 0 64 k → IsHighest (bit_at n) 0 (to + 1) k
IsHighest-masked n to k within highest =
    let below = low (cases_lt k (to + 1)) in
    let same = masked-below n to k within (omega arith) in
    let some = highest.some in
    record {
      above = omega arith;
      below = below;
      some = omega arith;
      none = λ j over under. sym (masked-below n to j within (omega arith)) ∙ highest.none j over (omega arith);
    }
  where
    low : (k < to + 1) ⊎ (to + 1 ≤ k) → k < to + 1
    low (inl lt) = lt
    low (inr ge) = let none = masked-above n to k within (omega arith) in let some = highest.some in absurd (omega arith)
