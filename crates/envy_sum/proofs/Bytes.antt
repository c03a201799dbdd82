-- The bits of a row are those of its bytes.
use Rattle.std.proofs.Common.{◌≡◌, ℕ, ◌+◌, ◌*◌, ◌/◌, ◌%◌, ◌^◌, ◌<◌, List, length, get_or, sym, ap, ap₂, ◌∙◌, arith, bit_xor}
use Rattle.std.specs.Int.{bit_at}
use Rattle.std.proofs.lemmas.Nat.{shr-shr, shr_split}
use Rattle.std.proofs.lemmas.Nat.Bits.{bit_at_cat_low}
use Rattle.envy_sum.specs.Register.{all_ones, register_after, sum_of_bits, bit_of_bytes, bytes_sum}
use Rattle.envy_sum.specs.Rows.{bit_of, row_sum, AreBytesOf}
use Rattle.envy_sum.proofs.Steps.{register_after-same}

-- bit t of byte m of a word
bit_of_byte : (w m t : ℕ) → t < 8 → bit_at (w / 2 ^ (8 * m) % 2 ^ 8) t ≡ bit_at w (8 * m + t)
bit_of_byte w m t h =
    let v = w / 2 ^ (8 * m) in
    sym (bit_at_cat_low (v / 2 ^ 8) 8 (v % 2 ^ 8) t h) ∙ ap (λ x. bit_at x t) (shr_split v 8) ∙ ap (λ x. x % 2) (shr-shr w (8 * m) t)

same_bit : (row bytes : List ℕ) → AreBytesOf row bytes → (i : ℕ) → i < 64 * length row → bit_of row i ≡ bit_of_bytes bytes i
same_bit row bytes are i h =
    let word : i / 8 / 8 ≡ i / 64 = omega arith in
    let place : 8 * (i / 8 % 8) + i % 8 ≡ i % 64 = omega arith in
    let low : i / 8 < length bytes = omega (arith, are.long) in
    sym (
    ap (λ b. bit_at b (i % 8)) (are.each (i / 8) low)
    ∙ bit_of_byte (get_or row (i / 8 / 8) 0) (i / 8 % 8) (i % 8) (omega arith)
    ∙ ap₂ (λ q t. bit_at (get_or row q 0) t) word place
    )

pub summed_by_bytes : (row bytes : List ℕ) → AreBytesOf row bytes → row_sum row ≡ bytes_sum bytes
unfolding sum_of_bits
summed_by_bytes row bytes are =
    let all : 64 * length row ≡ 8 * length bytes = omega (arith, are.long) in
    ap (λ r. bit_xor r all_ones)
    (register_after-same all_ones (bit_of row) (bit_of_bytes bytes) (64 * length row) (same_bit row bytes are)
    ∙ ap (register_after all_ones (bit_of_bytes bytes)) all)
