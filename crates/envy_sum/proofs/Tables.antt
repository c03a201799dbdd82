-- What the lanes of a word come to, and how a lane is made.
use Rattle.std.proofs.Common.{◌≡◌, ℕ, ◌+◌, ◌-◌, ◌*◌, ◌/◌, ◌%◌, ◌^◌, ◌<◌, ◌≤◌, ◌⊎◌, inl, inr, List, [], ◌∷◌, ◌++◌, length, get_or, map, refl, sym, ap, ap₂, subst, ◌∙◌, arith, bit_xor}
use Rattle.std.specs.Int.{bit_at}
use Rattle.std.specs.Int.Bits.{xor_comm, xor_lt, xor_shifted}
use Rattle.std.proofs.lemmas.Bool.{cases_lt}
use Rattle.std.proofs.lemmas.Nat.{shr-shr, mod_below, pow_pos, shr_below}
use Rattle.std.proofs.lemmas.Nat.Bits.{bit_at-zero}
use Rattle.std.proofs.lemmas.List.{get_or_append_left, get_or-append_right, get_or-map, length-append, length-map}
use Rattle.std.proofs.Math.Nat.{pow-suc}
use Rattle.std.proofs.Math.Numerals.{add-one}
use Rattle.envy_sum.specs.Register.{register_after}
use Rattle.envy_sum.specs.Lanes.{after_zeros, IsLane}
use Rattle.envy_sum.proofs.Steps.{after_zeros-xor, after_zeros-split, after_zeros-shifted, word_taken_in, register_after-same}

-- the bits of the word 0
pub zeros_of_word : (n r : ℕ) → register_after r (bit_at 0) n ≡ after_zeros n r
zeros_of_word n r = register_after-same r (bit_at 0) (λ i. 0) n (λ i h. bit_at-zero i)

pub lane_first : (n : ℕ) → IsLane 0 n (0 ∷ [])
lane_first n = record {
  long = refl;
  each = λ v h.
      let none : v ≡ 0 = omega arith in
      let P : ℕ → Type 0 = λ u. get_or (0 ∷ []) u 0 ≡ after_zeros n u in
      let nothing : 0 * 2 ^ n ≡ 0 = omega arith in
      subst P (sym none) (sym (after_zeros-shifted n 0) ∙ ap (after_zeros n) nothing);
}

pub lane_doubled : (w n : ℕ) (xs : List ℕ) → IsLane w n xs → IsLane (w + 1) n (xs ++ map (λ x. bit_xor x (after_zeros n (2 ^ w))) xs)
lane_doubled w n xs lane = record {
  long = length-append xs (map turn xs) ∙ ap (λ k. length xs + k) (length-map xs turn) ∙ omega (arith, lane.long, twice);
  each = λ v h. at v (omega (arith, twice)) (cases_lt v (2 ^ w));
}
  where
    turn : ℕ → ℕ
    turn x = bit_xor x (after_zeros n (2 ^ w))

    twice : 2 ^ (w + 1) ≡ 2 ^ w + 2 ^ w
    twice = ap (λ k. 2 ^ k) (add-one w) ∙ pow-suc 2 w ∙ omega arith

    at : (v : ℕ) → v < 2 ^ w + 2 ^ w → (v < 2 ^ w) ⊎ (2 ^ w ≤ v) → get_or (xs ++ map turn xs) v 0 ≡ after_zeros n v
    at v h (inl low) = get_or_append_left xs (map turn xs) 0 v (omega (arith, lane.long)) ∙ lane.each v low
    at v h (inr high) =
        let u = v - 2 ^ w in
        let below : u < 2 ^ w = omega arith in
        let whole : bit_xor u (2 ^ w) ≡ v = xor_comm u (2 ^ w) ∙ ap (λ k. bit_xor k u) (one (2 ^ w)) ∙ xor_shifted 1 w u below ∙ omega arith in
        get_or-append_right xs (map turn xs) (2 ^ w) v 0 lane.long high
        ∙ get_or-map turn xs u 0 0 (omega (arith, lane.long))
        ∙ ap turn (lane.each u below) ∙ sym (after_zeros-xor n u (2 ^ w)) ∙ ap (after_zeros n) whole
      where
        one : (k : ℕ) → k ≡ 1 * k
        one k = omega arith

-- one lane, and what is above it
split : (k n b : ℕ) (t : List ℕ) → IsLane k (k + n) t → (x : ℕ) → bit_xor (get_or t (x / 2 ^ b % 2 ^ k) 0) (after_zeros n (x / 2 ^ (b + k))) ≡ after_zeros (k + n) (x / 2 ^ b)
split k n b t lane x =
    ap₂ bit_xor (lane.each (x / 2 ^ b % 2 ^ k) (mod_below (x / 2 ^ b) (2 ^ k) (pow_pos k))) (ap (after_zeros n) (sym (shr-shr x b k)))
    ∙ sym (after_zeros-split k n (x / 2 ^ b))

-- the six lanes of a word
module _ (t0 t8 t16 t28 t40 t52 : List ℕ) (l0 : IsLane 8 64 t0) (l8 : IsLane 8 56 t8) (l16 : IsLane 12 48 t16) (l28 : IsLane 12 36 t28) (l40 : IsLane 12 24 t40) (l52 : IsLane 12 12 t52) where
  pub lanes_take_in : (r w : ℕ) → r < 2 ^ 32 → w < 2 ^ 64
      → bit_xor (get_or t0 (bit_xor r w % 256) 0) (bit_xor (get_or t8 (bit_xor r w / 2 ^ 8 % 256) 0) (bit_xor (get_or t16 (bit_xor r w / 2 ^ 16 % 4096) 0) (bit_xor (get_or t28 (bit_xor r w / 2 ^ 28 % 4096) 0) (bit_xor (get_or t40 (bit_xor r w / 2 ^ 40 % 4096) 0) (get_or t52 (bit_xor r w / 2 ^ 52) 0)))))
      ≡ register_after r (bit_at w) 64
  lanes_take_in r w hr hw =
      let x = bit_xor r w in
      let small : x < 2 ^ 64 = xor_lt 64 r w (omega arith) hw in
      let whole : x / 2 ^ 0 ≡ x = omega arith in
      let kept : w % 2 ^ 64 ≡ w = omega arith in
      let e52 : get_or t52 (x / 2 ^ 52) 0 ≡ after_zeros 12 (x / 2 ^ 52) = l52.each (x / 2 ^ 52) (shr_below x 12 52 small) in
      let e40 = ap (bit_xor (get_or t40 (x / 2 ^ 40 % 4096) 0)) e52 ∙ split 12 12 40 t40 l40 x in
      let e28 = ap (bit_xor (get_or t28 (x / 2 ^ 28 % 4096) 0)) e40 ∙ split 12 24 28 t28 l28 x in
      let e16 = ap (bit_xor (get_or t16 (x / 2 ^ 16 % 4096) 0)) e28 ∙ split 12 36 16 t16 l16 x in
      let e8 = ap (bit_xor (get_or t8 (x / 2 ^ 8 % 256) 0)) e16 ∙ split 8 48 8 t8 l8 x in
      let e0 = ap (bit_xor (get_or t0 (x % 256) 0)) e8 ∙ ap (λ y. bit_xor (get_or t0 (y % 256) 0) (after_zeros 56 (x / 2 ^ 8))) (sym whole) ∙ split 8 56 0 t0 l0 x in
      e0 ∙ ap (after_zeros 64) whole ∙ ap (λ y. after_zeros 64 (bit_xor r y)) (sym kept) ∙ sym (word_taken_in r w 64)
