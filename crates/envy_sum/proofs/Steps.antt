-- How the register takes in bits: a bit is xored in first, which is linear, and so is a run of bits 0.
use Rattle.std.proofs.Common.{◌≡◌, ℕ, zero, suc, ◌+◌, ◌*◌, ◌/◌, ◌%◌, ◌^◌, ◌<◌, ◌==◌, ◌≢◌, ◌⊎◌, inl, inr, if◌then◌else◌, true, false, refl, sym, ap, ap₂, ◌∙◌, arith, bit_xor}
use Rattle.std.specs.Int.{bit_at}
use Rattle.std.specs.Int.Bits.{xor_zero_r, xor_self, xor_assoc, xor_comm, xor_shr, xor_mod, xor_lt, xor_shifted}
use Rattle.std.proofs.lemmas.Nat.{pow_pos, mod-pow-add, shr_split, mod_below}
use Rattle.std.proofs.lemmas.Nat.Bits.{bit_at-lt}
use Rattle.std.proofs.Math.Nat.{add-zero, add-suc, pow-suc, mul_comm, mul_assoc}
use Rattle.std.proofs.Math.Numerals.{one-add, add-one}
use Rattle.std.proofs.lemmas.Bool.Decides.{eqb_tells}
use Rattle.envy_sum.specs.Register.{polynomial, taken_in, register_after}
use Rattle.envy_sum.specs.Lanes.{after_zeros}

-- a step with a bit 0
abbrev pub step : ℕ → ℕ
step r = taken_in r 0

-- what a number's lowest bit is
pub one_bit : (b : ℕ) → b < 2 → (b ≡ 0) ⊎ (b ≡ 1)
one_bit zero h = inl refl
one_bit (suc zero) h = inr refl
one_bit (suc (suc b)) h = absurd (omega arith)

pub lowest : (r : ℕ) → (r % 2 ≡ 0) ⊎ (r % 2 ≡ 1)
lowest r = one_bit (r % 2) (omega arith)

pub step_even : (r : ℕ) → r % 2 ≡ 0 → step r ≡ r / 2
unfolding taken_in
step_even r e = ap (λ b. if b == 0 then r / 2 else bit_xor (r / 2) polynomial) e

pub step_odd : (r : ℕ) → r % 2 ≡ 1 → step r ≡ bit_xor (r / 2) polynomial
unfolding taken_in
step_odd r e = ap (λ b. if b == 0 then r / 2 else bit_xor (r / 2) polynomial) e

pub xor_half : (a b : ℕ) → bit_xor a b / 2 ≡ bit_xor (a / 2) (b / 2)
xor_half a b = xor_shr a b 1

pub xor_low : (a b : ℕ) → bit_xor a b % 2 ≡ bit_xor (a % 2) (b % 2)
xor_low a b = xor_mod a b 1

-- four numbers xored in pairs
pub xor_swap : (a b c d : ℕ) → bit_xor (bit_xor a b) (bit_xor c d) ≡ bit_xor (bit_xor a c) (bit_xor b d)
xor_swap a b c d =
    xor_assoc a b (bit_xor c d)
    ∙ ap (bit_xor a) (sym (xor_assoc b c d) ∙ ap (λ x. bit_xor x d) (xor_comm b c) ∙ xor_assoc c b d)
    ∙ sym (xor_assoc a c (bit_xor b d))

-- a bit that is taken in is xored in, and then a 0 is taken in
pub taken_in-step : (r b : ℕ) → b < 2 → taken_in r b ≡ step (bit_xor r b)
unfolding taken_in
taken_in-step r zero h = ap step (sym (xor_zero_r r))
taken_in-step r (suc zero) h = go (lowest r)
  where
    half : bit_xor r 1 / 2 ≡ r / 2
    half = xor_half r 1 ∙ xor_zero_r (r / 2)

    go : (r % 2 ≡ 0) ⊎ (r % 2 ≡ 1) → taken_in r 1 ≡ step (bit_xor r 1)
    go (inl e) =
        ap (λ b. if b == 1 then r / 2 else bit_xor (r / 2) polynomial) e
        ∙ ap (λ x. bit_xor x polynomial) (sym half)
        ∙ sym (step_odd (bit_xor r 1) (xor_low r 1 ∙ ap (λ b. bit_xor b 1) e))
    go (inr e) =
        ap (λ b. if b == 1 then r / 2 else bit_xor (r / 2) polynomial) e
        ∙ sym half
        ∙ sym (step_even (bit_xor r 1) (xor_low r 1 ∙ ap (λ b. bit_xor b 1) e))
taken_in-step r (suc (suc b)) h = absurd (omega arith)

pub step-xor : (a b : ℕ) → step (bit_xor a b) ≡ bit_xor (step a) (step b)
step-xor a b = go (lowest a) (lowest b)
  where
    p : ℕ
    p = polynomial

    low : (x y : ℕ) → a % 2 ≡ x → b % 2 ≡ y → bit_xor a b % 2 ≡ bit_xor x y
    low x y e f = xor_low a b ∙ ap₂ bit_xor e f

    go : (a % 2 ≡ 0) ⊎ (a % 2 ≡ 1) → (b % 2 ≡ 0) ⊎ (b % 2 ≡ 1) → step (bit_xor a b) ≡ bit_xor (step a) (step b)
    go (inl e) (inl f) = step_even _ (low 0 0 e f) ∙ xor_half a b ∙ sym (ap₂ bit_xor (step_even a e) (step_even b f))
    go (inl e) (inr f) =
        step_odd _ (low 0 1 e f) ∙ ap (λ x. bit_xor x polynomial) (xor_half a b) ∙ xor_assoc (a / 2) (b / 2) polynomial
        ∙ sym (ap₂ bit_xor (step_even a e) (step_odd b f))
    go (inr e) (inl f) =
        step_odd _ (low 1 0 e f) ∙ ap (λ x. bit_xor x polynomial) (xor_half a b)
        ∙ xor_assoc (a / 2) (b / 2) polynomial ∙ ap (bit_xor (a / 2)) (xor_comm (b / 2) polynomial) ∙ sym (xor_assoc (a / 2) polynomial (b / 2))
        ∙ sym (ap₂ bit_xor (step_odd a e) (step_even b f))
    go (inr e) (inr f) =
        step_even _ (low 1 1 e f) ∙ xor_half a b ∙ sym (xor_zero_r (bit_xor (a / 2) (b / 2)))
        ∙ ap (bit_xor (bit_xor (a / 2) (b / 2))) (sym (xor_self polynomial)) ∙ xor_swap (a / 2) (b / 2) polynomial polynomial
        ∙ sym (ap₂ bit_xor (step_odd a e) (step_odd b f))

-- bits that agree up to n lead to one register
pub register_after-same : (start : ℕ) (f g : ℕ → ℕ) (n : ℕ) → ((i : ℕ) → i < n → f i ≡ g i) → register_after start f n ≡ register_after start g n
unfolding register_after
register_after-same start f g zero h = refl
register_after-same start f g (suc n) h = ap₂ taken_in (register_after-same start f g n (λ i k. h i (omega arith))) (h n (omega arith))

-- bits one run after another
pub register_after-add : (start : ℕ) (bits : ℕ → ℕ) (m n : ℕ) → register_after start bits (m + n) ≡ register_after (register_after start bits m) (λ i. bits (m + i)) n
unfolding register_after
register_after-add start bits m zero = ap (register_after start bits) (add-zero m)
register_after-add start bits m (suc n) = ap (register_after start bits) (add-suc m n) ∙ ap (λ r. taken_in r (bits (m + n))) (register_after-add start bits m n)

pub after_zeros-add : (m n r : ℕ) → after_zeros (m + n) r ≡ after_zeros n (after_zeros m r)
after_zeros-add m n r = register_after-add r (λ i. 0) m n

pub after_zeros-xor : (n a b : ℕ) → after_zeros n (bit_xor a b) ≡ bit_xor (after_zeros n a) (after_zeros n b)
unfolding register_after
after_zeros-xor zero a b = refl
after_zeros-xor (suc n) a b = ap step (after_zeros-xor n a b) ∙ step-xor (after_zeros n a) (after_zeros n b)

-- bits 0 only shift what has that many bits 0 at its end
pub after_zeros-shifted : (n a : ℕ) → after_zeros n (a * 2 ^ n) ≡ a
unfolding register_after
after_zeros-shifted zero a = omega arith
after_zeros-shifted (suc n) a =
    let halves : a * 2 ^ suc n ≡ (a * 2) * 2 ^ n = ap (λ p. a * p) (pow-suc 2 n ∙ mul_comm (2 ^ n) 2) ∙ sym (mul_assoc a 2 (2 ^ n)) in
    ap (λ x. step (after_zeros n x)) halves ∙ ap step (after_zeros-shifted n (a * 2)) ∙ step_even (a * 2) (omega arith) ∙ omega arith

-- the lowest k bits and the others go their own ways
pub after_zeros-split : (k n x : ℕ) → after_zeros (k + n) x ≡ bit_xor (after_zeros (k + n) (x % 2 ^ k)) (after_zeros n (x / 2 ^ k))
after_zeros-split k n x =
    let high = x / 2 ^ k * 2 ^ k in
    let low = x % 2 ^ k in
    let parts : x ≡ bit_xor high low = sym (shr_split x k) ∙ sym (xor_shifted (x / 2 ^ k) k low (mod_below x (2 ^ k) (pow_pos k))) in
    ap (after_zeros (k + n)) (parts ∙ xor_comm high low) ∙ after_zeros-xor (k + n) low high
    ∙ ap (bit_xor (after_zeros (k + n) low)) (after_zeros-add k n high ∙ ap (after_zeros n) (after_zeros-shifted k (x / 2 ^ k)))

-- the bits of a word are xored in at once
pub word_taken_in : (r w n : ℕ) → register_after r (bit_at w) n ≡ after_zeros n (bit_xor r (w % 2 ^ n))
unfolding register_after
word_taken_in r w zero = let none : w % 2 ^ 0 ≡ 0 = omega arith in sym (ap (bit_xor r) none ∙ xor_zero_r r)
word_taken_in r w (suc n) =
    let bit = bit_at w n in
    let low = w % 2 ^ n in
    let both : w % 2 ^ suc n ≡ bit_xor (bit * 2 ^ n) low =
    ap (λ k. w % 2 ^ k) (sym (one-add n)) ∙ mod-pow-add w 1 n ∙ sym (xor_shifted bit n low (mod_below w (2 ^ n) (pow_pos n))) in
    let ordered : bit_xor r (w % 2 ^ suc n) ≡ bit_xor (bit_xor r low) (bit * 2 ^ n) =
    ap (bit_xor r) (both ∙ xor_comm (bit * 2 ^ n) low) ∙ sym (xor_assoc r low (bit * 2 ^ n)) in
    taken_in-step (register_after r (bit_at w) n) bit (bit_at-lt w n)
    ∙ ap (λ x. step (bit_xor x bit)) (word_taken_in r w n)
    ∙ ap (λ x. step (bit_xor (after_zeros n (bit_xor r low)) x)) (sym (after_zeros-shifted n bit))
    ∙ ap step (sym (after_zeros-xor n (bit_xor r low) (bit * 2 ^ n)))
    ∙ ap (λ x. step (after_zeros n x)) (sym ordered)

-- what a step makes, by the test of its code
pub taken_in-same : (r b : ℕ) → r % 2 ≡ b → r / 2 ≡ taken_in r b
unfolding taken_in
taken_in-same r b h =
    elim (eqb_tells (r % 2) b) as (λ _. r / 2 ≡ taken_in r b) [
      | inl p ↦ ap (λ t. if t then r / 2 else bit_xor (r / 2) polynomial) (sym p.0)
      | inr p ↦ absurd (p.1 h)
    ]

pub taken_in-other : (r b : ℕ) → r % 2 ≢ b → bit_xor (r / 2) polynomial ≡ taken_in r b
unfolding taken_in
taken_in-other r b h =
    elim (eqb_tells (r % 2) b) as (λ _. bit_xor (r / 2) polynomial ≡ taken_in r b) [
      | inl p ↦ absurd (h p.1)
      | inr p ↦ ap (λ t. if t then r / 2 else bit_xor (r / 2) polynomial) (sym p.0)
    ]

-- the register stays one of 32 bits
pub taken_in_small : (r b : ℕ) → r < 2 ^ 32 → taken_in r b < 2 ^ 32
unfolding taken_in
taken_in_small r b h =
    let half : r / 2 < 2 ^ 32 = omega arith in
    elim (r % 2 == b) as (λ t. (if t then r / 2 else bit_xor (r / 2) polynomial) < 2 ^ 32) [
      | true ↦ half
      | false ↦ xor_lt 32 (r / 2) polynomial half (omega arith)
    ]

pub register_after_small : (start : ℕ) (bits : ℕ → ℕ) (n : ℕ) → start < 2 ^ 32 → register_after start bits n < 2 ^ 32
unfolding register_after
register_after_small start bits zero h = h
register_after_small start bits (suc n) h = taken_in_small (register_after start bits n) (bits n) (register_after_small start bits n h)

pub register_after-suc : (start : ℕ) (bits : ℕ → ℕ) (n : ℕ) → register_after start bits (n + 1) ≡ taken_in (register_after start bits n) (bits n)
unfolding register_after
register_after-suc start bits n = ap (register_after start bits) (add-one n)
