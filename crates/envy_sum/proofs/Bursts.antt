-- Registers that took in different bits, in no more than 32 consecutive places, stay different.
use Rattle.std.proofs.Common.{◌≡◌, ◌≢◌, ℕ, zero, suc, ◌+◌, ◌-◌, ◌*◌, ◌/◌, ◌%◌, ◌^◌, ◌<◌, ◌≤◌, ◌⊎◌, inl, inr, List, length, get_or, refl, sym, ap, ap₂, ◌∙◌, arith, bit_xor, zero-add}
use Rattle.std.specs.Int.Bits.{xor_zero_l, xor_zero_r, xor_self, xor_assoc, xor_lt, xor_block}
use Rattle.std.proofs.lemmas.Bool.{cases_lt, cases_eq}
use Rattle.std.proofs.lemmas.Nat.{pow_pos}
use Rattle.std.proofs.lemmas.Nat.Bits.{bit_at-lt, same_from_bits_below}
use Rattle.std.proofs.lemmas.Grind.{same_number_lists}
use Rattle.std.proofs.Math.Nat.{pow-suc}
use Rattle.std.proofs.Math.Pow.{pow_mono}
use Rattle.envy_base.specs.State.{IsPage}
use Rattle.envy_sum.specs.Register.{polynomial, all_ones, taken_in, register_after, sum_of_bits}
use Rattle.envy_sum.specs.Rows.{bit_of, row_sum, AgreeBut}
use Rattle.envy_sum.proofs.Steps.{step, lowest, one_bit, step_even, step_odd, step-xor, xor_half, xor_swap, taken_in-step, register_after-same, register_after_small}
use Rattle.envy_sum.proofs.Words.{bit_in-at}

-- the polynomial has the highest of 32 bits
polynomial_high : (a : ℕ) → a < 2 ^ 31 → 2 ^ 31 ≤ bit_xor a polynomial
polynomial_high a h =
    let rest = polynomial - 2 ^ 31 in
    let e : bit_xor (0 * 2 ^ 31 + a) (1 * 2 ^ 31 + rest) ≡ bit_xor 0 1 * 2 ^ 31 + bit_xor a rest = xor_block 31 0 1 a rest h (omega arith) in
    let f : bit_xor a polynomial ≡ bit_xor 0 1 * 2 ^ 31 + bit_xor a rest = ap (λ x. bit_xor x polynomial) (sym (zero-add a)) ∙ e in
    omega (arith, f)

-- a step loses no more than one bit of the difference d, whatever bit is xored into it
step_keeps : (d b : ℕ) → d < 2 ^ 32 → b < 2 → d / 2 ≤ step (bit_xor d b)
step_keeps d b small bit = go (lowest (bit_xor d b))
  where
    half : bit_xor d b / 2 ≡ d / 2
    half = let none : b / 2 ≡ 0 = omega arith in xor_half d b ∙ ap (bit_xor (d / 2)) none ∙ xor_zero_r (d / 2)

    go : (bit_xor d b % 2 ≡ 0) ⊎ (bit_xor d b % 2 ≡ 1) → d / 2 ≤ step (bit_xor d b)
    go (inl e) = omega (arith, step_even (bit_xor d b) e, half)
    go (inr e) = omega (arith, step_odd (bit_xor d b) e, polynomial_high (bit_xor d b / 2) (omega (arith, half)), half)

-- a difference doesn't vanish where the bits are the same
step_stays : (d : ℕ) → d < 2 ^ 32 → 1 ≤ d → 1 ≤ step d
step_stays d small some = go (lowest d)
  where
    go : (d % 2 ≡ 0) ⊎ (d % 2 ≡ 1) → 1 ≤ step d
    go (inl e) = omega (arith, step_even d e)
    go (inr e) = omega (arith, step_odd d e, polynomial_high (d / 2) (omega arith))

other_bit : (a b : ℕ) → a < 2 → b < 2 → a ≢ b → bit_xor a b ≡ 1
other_bit a b ha hb ne = go (one_bit a ha) (one_bit b hb)
  where
    go : (a ≡ 0) ⊎ (a ≡ 1) → (b ≡ 0) ⊎ (b ≡ 1) → bit_xor a b ≡ 1
    go (inl e) (inl f) = absurd (ne (e ∙ sym f))
    go (inl e) (inr f) = ap₂ bit_xor e f
    go (inr e) (inl f) = ap₂ bit_xor e f
    go (inr e) (inr f) = absurd (ne (e ∙ sym f))

first_step : step 1 ≡ polynomial
unfolding taken_in
first_step = refl

abbrev after : (ℕ → ℕ) → ℕ → ℕ
after bits n = register_after all_ones bits n

abbrev difference : (ℕ → ℕ) → (ℕ → ℕ) → ℕ → ℕ
difference f g n = bit_xor (after f n) (after g n)

-- the bits below n are the same
abbrev Same : (ℕ → ℕ) → (ℕ → ℕ) → ℕ → Type 0
Same f g n = (i : ℕ) → i < n → f i ≡ g i

-- the registers differ, and up to the place `last` in as high a bit as there are places left
record Differ (f g : ℕ → ℕ) (last n : ℕ) : Type 0 where
  some : 1 ≤ difference f g n
  high : (j : ℕ) → n + j ≡ last → 2 ^ j ≤ difference f g n

module _ (f g : ℕ → ℕ) (f_bits : (i : ℕ) → f i < 2) (g_bits : (i : ℕ) → g i < 2) (k : ℕ) (apart : (i : ℕ) → (i < k) ⊎ (k + 32 ≤ i) → f i ≡ g i) where
  difference-suc : (n : ℕ) → difference f g (suc n) ≡ step (bit_xor (difference f g n) (bit_xor (f n) (g n)))
  unfolding register_after
  difference-suc n =
      ap₂ bit_xor (taken_in-step (after f n) (f n) (f_bits n)) (taken_in-step (after g n) (g n) (g_bits n))
      ∙ sym (step-xor (bit_xor (after f n) (f n)) (bit_xor (after g n) (g n)))
      ∙ ap step (xor_swap (after f n) (f n) (after g n) (g n))

  small : (n : ℕ) → difference f g n < 2 ^ 32
  small n = xor_lt 32 (after f n) (after g n) (register_after_small all_ones f n (omega arith)) (register_after_small all_ones g n (omega arith))

  -- the first bit that differs
  begins : (n : ℕ) → Same f g n → f n ≢ g n → k ≤ n → Differ f g (k + 32) (suc n)
  begins n same ne later =
      let none : difference f g n ≡ 0 = ap (λ r. bit_xor r (after g n)) (register_after-same all_ones f g n same) ∙ xor_self (after g n) in
      let e : difference f g (suc n) ≡ polynomial =
      difference-suc n ∙ ap₂ (λ a b. step (bit_xor a b)) none (other_bit (f n) (g n) (f_bits n) (g_bits n) ne)
      ∙ ap step (xor_zero_l 1) ∙ first_step in
      record {
        some = omega (arith, e);
        high = λ j h. let few : j ≤ 31 = omega arith in let p : 2 ^ j ≤ 2 ^ 31 = pow_mono few in omega (arith, e, p);
      }

  -- a bit inside the burst
  goes_on : (n : ℕ) → Differ f g (k + 32) n → n < k + 32 → Differ f g (k + 32) (suc n)
  goes_on n before inside =
      let kept : difference f g n / 2 ≤ difference f g (suc n) =
      rw (difference-suc n) (step_keeps (difference f g n) (bit_xor (f n) (g n)) (small n) (xor_lt 1 (f n) (g n) (f_bits n) (g_bits n))) in
      let high : (j : ℕ) → suc n + j ≡ k + 32 → 2 ^ j ≤ difference f g (suc n) =
      λ j h. let p : 2 ^ suc j ≤ difference f g n = before.high (suc j) (omega arith) in omega (arith, p, pow-suc 2 j, kept) in
      let left = k + 32 - suc n in
      record {
        some = omega (arith, high left (omega arith), pow_pos left);
        high = high;
      }

  -- a bit behind the burst
  lasts : (n : ℕ) → Differ f g (k + 32) n → k + 32 ≤ n → Differ f g (k + 32) (suc n)
  lasts n before behind =
      let none : bit_xor (f n) (g n) ≡ 0 = ap (λ b. bit_xor b (g n)) (apart n (inr behind)) ∙ xor_self (g n) in
      let e : difference f g (suc n) ≡ step (difference f g n) =
      difference-suc n ∙ ap (λ b. step (bit_xor (difference f g n) b)) none ∙ ap step (xor_zero_r (difference f g n)) in
      record {
        some = omega (arith, e, step_stays (difference f g n) (small n) before.some);
        high = λ j h. absurd (omega arith);
      }

  turn : (n : ℕ) → Same f g n ⊎ Differ f g (k + 32) n → (f n ≡ g n) ⊎ (f n ≢ g n) → (n < k) ⊎ (k ≤ n) → (n < k + 32) ⊎ (k + 32 ≤ n) → Same f g (suc n) ⊎ Differ f g (k + 32) (suc n)
  turn n (inl same) (inl e) a b =
      inl (λ i h. elim (cases_lt i n) as (λ _. f i ≡ g i) [
        | inl low ↦ same i low
        | inr top ↦ let here : i ≡ n = omega arith in ap f here ∙ e ∙ sym (ap g here)
      ])
  turn n (inl same) (inr ne) (inl early) b = absurd (ne (apart n (inl early)))
  turn n (inl same) (inr ne) (inr later) b = inr (begins n same ne later)
  turn n (inr before) e a (inl inside) = inr (goes_on n before inside)
  turn n (inr before) e a (inr behind) = inr (lasts n before behind)

  walk : (n : ℕ) → Same f g n ⊎ Differ f g (k + 32) n
  walk zero = inl (λ i h. absurd (omega arith))
  walk (suc n) = turn n (walk n) (cases_eq (f n) (g n)) (cases_lt n k) (cases_lt n (k + 32))

  pub same_from_sums : (n : ℕ) → sum_of_bits f n ≡ sum_of_bits g n → (i : ℕ) → i < n → f i ≡ g i
  unfolding sum_of_bits
  same_from_sums n e =
      let turned : (r : ℕ) → bit_xor (bit_xor r all_ones) all_ones ≡ r = λ (r : ℕ). xor_assoc r all_ones all_ones ∙ ap (bit_xor r) (xor_self all_ones) ∙ xor_zero_r r in
      let registers : after f n ≡ after g n = sym (turned (after f n)) ∙ ap (λ x. bit_xor x all_ones) e ∙ turned (after g n) in
      let none : difference f g n ≡ 0 = ap (λ r. bit_xor r (after g n)) registers ∙ xor_self (after g n) in
      elim (walk n) as (λ _. (i : ℕ) → i < n → f i ≡ g i) [
        | inl same ↦ same
        | inr differ ↦ absurd (omega (arith, differ.some, none))
      ]

-- rows with the same sum that agree but in a burst are the same
pub same_rows : (x y : List ℕ) (k : ℕ) → IsPage x → IsPage y → AgreeBut k 32 x y → row_sum x ≡ row_sum y → x ≡ y
same_rows x y k page_x page_y apart e =
    let long : length x ≡ length y = page_x.long ∙ sym page_y.long in
    let sums : sum_of_bits (bit_of x) (64 * length x) ≡ sum_of_bits (bit_of y) (64 * length x) = e ∙ ap (λ n. sum_of_bits (bit_of y) (64 * n)) (sym long) in
    let bits = same_from_sums (bit_of x) (bit_of y) (λ i. bit_at-lt (get_or x (i / 64) 0) (i % 64)) (λ i. bit_at-lt (get_or y (i / 64) 0) (i % 64)) k apart (64 * length x) sums in
    same_number_lists x y long
    (λ q h. same_from_bits_below 64 (get_or x q 0) (get_or y q 0) (page_x.words q) (page_y.words q)
    (λ j low. sym (bit_in-at 64 x q j low) ∙ bits (64 * q + j) (omega arith) ∙ bit_in-at 64 y q j low))

pub burst : (x y : List ℕ) (k : ℕ) → IsPage x → IsPage y → AgreeBut k 32 x y → x ≢ y → row_sum x ≢ row_sum y
burst x y k page_x page_y apart ne e = ne (same_rows x y k page_x page_y apart e)

pub changed_bit : (x y : List ℕ) (i : ℕ) → IsPage x → IsPage y → AgreeBut i 1 x y → bit_of x i ≢ bit_of y i → row_sum x ≢ row_sum y
changed_bit x y i page_x page_y apart ne =
    burst x y i page_x page_y
    (λ j h. elim h as (λ _. bit_of x j ≡ bit_of y j) [ inl low ↦ apart j (inl low) | inr high ↦ apart j (inr (omega arith)) ])
    (λ e. ne (ap (λ row. bit_of row i) e))
