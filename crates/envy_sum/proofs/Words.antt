-- A run over the bits of numbers of so many bits each goes number by number.
use Rattle.std.proofs.Common.{◌≡◌, ℕ, ◌+◌, ◌*◌, ◌/◌, ◌%◌, ◌<◌, List, get_or, refl, sym, ap, ap₂, ◌∙◌, arith, bit_xor}
use Rattle.std.specs.Int.{bit_at}
use Rattle.std.proofs.lemmas.Nat.{div-mul-add, mod-mul-add}
use Rattle.std.proofs.Math.Nat.{mul_comm}
use Rattle.envy_sum.specs.Register.{all_ones}
use Rattle.envy_sum.specs.Register.{register_after, sum_of_bits}
use Rattle.envy_sum.proofs.Steps.{register_after-add, register_after-same}

-- bit i of numbers of w bits
abbrev pub bit_in : ℕ → List ℕ → ℕ → ℕ
bit_in w xs i = bit_at (get_or xs (i / w) 0) (i % w)

pub bit_in-at : (w : ℕ) (xs : List ℕ) (q j : ℕ) → j < w → bit_in w xs (w * q + j) ≡ bit_at (get_or xs q 0) j
bit_in-at w xs q j h =
    let place : w * q + j ≡ q * w + j = ap (λ n. n + j) (mul_comm w q) in
    ap₂ (λ a b. bit_at (get_or xs a 0) b) (ap (λ n. n / w) place ∙ div-mul-add q w j h) (ap (λ n. n % w) place ∙ mod-mul-add q w j h)

pub next_number : (w : ℕ) (xs : List ℕ) (start q : ℕ) → register_after start (bit_in w xs) (w * (q + 1)) ≡ register_after (register_after start (bit_in w xs) (w * q)) (bit_at (get_or xs q 0)) w
next_number w xs start q =
    let more : w * (q + 1) ≡ w * q + w = omega arith in
    ap (register_after start (bit_in w xs)) more
    ∙ register_after-add start (bit_in w xs) (w * q) w
    ∙ register_after-same (register_after start (bit_in w xs) (w * q)) (λ i. bit_in w xs (w * q + i)) (bit_at (get_or xs q 0)) w (λ i h. bit_in-at w xs q i h)

-- the same of registers of a program, of which one took in number q after the other took in those before it
pub taken_number : (w : ℕ) (xs : List ℕ) (start q p x r s : ℕ) → r ≡ register_after start (bit_in w xs) (w * q) → s ≡ register_after r (bit_at x) w → x ≡ get_or xs q 0 → p ≡ q + 1 → s ≡ register_after start (bit_in w xs) (w * p)
taken_number w xs start q p x r s before taken is next =
    taken ∙ ap₂ (λ a b. register_after a (bit_at b) w) before is ∙ sym (next_number w xs start q) ∙ ap (λ n. register_after start (bit_in w xs) (w * n)) (sym next)

pub none_taken : (start : ℕ) (bits : ℕ → ℕ) → start ≡ register_after start bits 0
unfolding register_after
none_taken start bits = refl

-- the sum, where the register took in all n bits
pub summed : (bits : ℕ → ℕ) (r m n : ℕ) → r ≡ register_after all_ones bits m → m ≡ n → bit_xor r all_ones ≡ sum_of_bits bits n
unfolding sum_of_bits
summed bits r m n taken all = ap (λ x. bit_xor x all_ones) (taken ∙ ap (register_after all_ones bits) all)
