-- Segments in an order, and their places.
use Rattle.std.proofs.Common.{◌≡◌, ◌≢◌, ◌⊎◌, inl, inr, ℕ, ◌^◌, ◌<◌, List, length, get_or, set, refl, sym, ◌∙◌, ap, arith}
use Rattle.std.specs.List.{range_with_len}
use Rattle.std.specs.Prelude.{swap}
use Rattle.std.proofs.lemmas.List.Edits.{swap_is}
use Rattle.std.proofs.lemmas.Bool.{cases_eq}
use Rattle.std.proofs.lemmas.List.{get_or-set_same, get_or-set_other, length-set}
use Rattle.std.proofs.lemmas.List.FromFn.{get_or-range_with_len, length-range_with_len}
use Rattle.envy_space.specs.Order.{IsOrder, ArePlaces}

pub IsOrder-places : (segments places : List ℕ) → ArePlaces segments places → IsOrder segments
IsOrder-places segments places are = record {
  fit = are.fit;
  apart = λ i j low lower same. sym (are.noted i low) ∙ ap (λ (s : ℕ). get_or places s 0) same ∙ are.noted j lower;
}

-- each segment at the place of its number
pub ArePlaces-range : (n : ℕ) → n < 2 ^ 32 → ArePlaces (range_with_len 0 n) (range_with_len 0 n)
ArePlaces-range n few =
    let long = length-range_with_len 0 n in
    record {
      few = omega arith;
      long = refl;
      fit = λ k lt. let e = at k (omega arith) in omega arith;
      noted = λ k lt. ap (λ (s : ℕ). get_or (range_with_len 0 n) s 0) (at k (omega arith)) ∙ at k (omega arith);
      within = λ k lt. let e = at k (omega arith) in omega arith;
      stands = λ k lt. ap (λ (s : ℕ). get_or (range_with_len 0 n) s 0) (at k (omega arith)) ∙ at k (omega arith);
    }
  where
    at : (k : ℕ) → k < n → get_or (range_with_len 0 n) k 0 ≡ k
    at k lt = let e = get_or-range_with_len 0 n k 0 lt in omega arith

-- two writes, the later of which is y at j
pub data Written (xs : List ℕ) (i j x y k v : ℕ) : Type 0 where
  last : k ≡ j → v ≡ y → Written xs i j x y k v
  first : (k ≡ j → ⊥) → k ≡ i → v ≡ x → Written xs i j x y k v
  other : (k ≡ j → ⊥) → (k ≡ i → ⊥) → v ≡ get_or xs k 0 → Written xs i j x y k v

pub written : (xs : List ℕ) (i j x y k : ℕ) → i < length xs → j < length xs → Written xs i j x y k (get_or (set (set xs i x) j y) k 0)
written xs i j x y k low lower = at (cases_eq k j) (cases_eq k i)
  where
    room : j < length (set xs i x)
    room = rw (length-set xs i x) lower

    at : (k ≡ j) ⊎ (k ≡ j → ⊥) → (k ≡ i) ⊎ (k ≡ i → ⊥) → Written xs i j x y k (get_or (set (set xs i x) j y) k 0)
    at (inl same) one = last same (ap (λ (n : ℕ). get_or (set (set xs i x) j y) n 0) same ∙ get_or-set_same (set xs i x) j y 0 room)
    at (inr apart) (inl same) = first apart same (get_or-set_other (set xs i x) j k y 0 apart ∙ ap (λ (n : ℕ). get_or (set xs i x) n 0) same ∙ get_or-set_same xs i x 0 low)
    at (inr apart) (inr still) = other apart still (get_or-set_other (set xs i x) j k y 0 apart ∙ get_or-set_other xs i k x 0 still)

-- the segments at the places i and j change places
pub ArePlaces-exchange : (segments places : List ℕ) (i j a b : ℕ) → i < length segments → j < length segments → a ≡ get_or segments i 0 → b ≡ get_or segments j 0 → ArePlaces segments places → ArePlaces (set (set segments i b) j a) (set (set places a j) b i)
ArePlaces-exchange segments places i j a b low lower at_i at_j are =
    let long = are.long in
    let few = are.few in
    let long_segments = length-set (set segments i b) j a ∙ length-set segments i b in
    let long_places = length-set (set places a j) b i ∙ length-set places a j in
    record {
      few = omega arith;
      long = omega arith;
      fit = λ k lt. fits k (omega arith) (segment k);
      noted = λ k lt. notes k (omega arith) _ (segment k) (place _);
      within = λ s lt. inside s (omega arith) (place s);
      stands = λ s lt. back s (omega arith) _ (place s) (segment _);
    }
  where
    long_segments : length (set (set segments i b) j a) ≡ length segments
    long_segments = length-set (set segments i b) j a ∙ length-set segments i b

    first_fits : a < length segments
    first_fits = rw at_i (are.fit i low)

    second_fits : b < length segments
    second_fits = rw at_j (are.fit j lower)

    of_a : get_or places a 0 ≡ i
    of_a = ap (λ (s : ℕ). get_or places s 0) at_i ∙ are.noted i low

    of_b : get_or places b 0 ≡ j
    of_b = ap (λ (s : ℕ). get_or places s 0) at_j ∙ are.noted j lower

    same_places : a ≡ b → i ≡ j
    same_places same = sym of_a ∙ ap (λ (s : ℕ). get_or places s 0) same ∙ of_b

    same_segments : i ≡ j → a ≡ b
    same_segments same = at_i ∙ ap (λ (k : ℕ). get_or segments k 0) same ∙ sym at_j

    segment : (k : ℕ) → Written segments i j b a k (get_or (set (set segments i b) j a) k 0)
    segment k = written segments i j b a k low lower

    place : (s : ℕ) → Written places a b j i s (get_or (set (set places a j) b i) s 0)
    place s = written places a b j i s (rw are.long first_fits) (rw are.long second_fits)

    fits : (k : ℕ) → k < length segments → {v : ℕ} → Written segments i j b a k v → v < length (set (set segments i b) j a)
    fits k lt (last same is) = rw (is, long_segments) first_fits
    fits k lt (first apart same is) = rw (is, long_segments) second_fits
    fits k lt (other apart still is) = rw (is, long_segments) (are.fit k lt)

    inside : (s : ℕ) → s < length segments → {v : ℕ} → Written places a b j i s v → v < length (set (set segments i b) j a)
    inside s lt (last same is) = rw (is, long_segments) low
    inside s lt (first apart same is) = rw (is, long_segments) lower
    inside s lt (other apart still is) = rw (is, long_segments) (are.within s lt)

    notes : (k : ℕ) → k < length segments → (v : ℕ) → {w : ℕ} → Written segments i j b a k v → Written places a b j i v w → w ≡ k
    notes k lt v (last same is) (last here so) = so ∙ same_places (sym is ∙ here) ∙ sym same
    notes k lt v (last same is) (first apart here so) = so ∙ sym same
    notes k lt v (last same is) (other apart still so) = absurd (still is)
    notes k lt v (first off same is) (last here so) = so ∙ sym same
    notes k lt v (first off same is) (first apart here so) = absurd (apart is)
    notes k lt v (first off same is) (other apart still so) = absurd (apart is)
    notes k lt v (other off out is) (last here so) = absurd (off (sym (are.noted k lt) ∙ ap (λ (s : ℕ). get_or places s 0) (sym is ∙ here) ∙ of_b))
    notes k lt v (other off out is) (first apart here so) = absurd (out (sym (are.noted k lt) ∙ ap (λ (s : ℕ). get_or places s 0) (sym is ∙ here) ∙ of_a))
    notes k lt v (other off out is) (other apart still so) = so ∙ ap (λ (s : ℕ). get_or places s 0) is ∙ are.noted k lt

    back : (s : ℕ) → s < length segments → (v : ℕ) → {w : ℕ} → Written places a b j i s v → Written segments i j b a v w → w ≡ s
    back s lt v (last same is) (last here so) = so ∙ same_segments (sym is ∙ here) ∙ sym same
    back s lt v (last same is) (first apart here so) = so ∙ sym same
    back s lt v (last same is) (other apart still so) = absurd (still is)
    back s lt v (first off same is) (last here so) = so ∙ sym same
    back s lt v (first off same is) (first apart here so) = absurd (apart is)
    back s lt v (first off same is) (other apart still so) = absurd (apart is)
    back s lt v (other off out is) (last here so) = absurd (off (sym (are.stands s lt) ∙ ap (λ (k : ℕ). get_or segments k 0) (sym is ∙ here) ∙ sym at_j))
    back s lt v (other off out is) (first apart here so) = absurd (out (sym (are.stands s lt) ∙ ap (λ (k : ℕ). get_or segments k 0) (sym is ∙ here) ∙ sym at_i))
    back s lt v (other off out is) (other apart still so) = so ∙ ap (λ (k : ℕ). get_or segments k 0) is ∙ are.stands s lt

-- which element stands at k after a swap, whatever the elements are
pub swapped : (n i j k : ℕ) → i < n → j < n → k < n → (m : ℕ) × (m < n) × ((xs : List ℕ) → length xs ≡ n → get_or (swap xs i j) k 0 ≡ get_or xs m 0)
swapped n i j k low lower lt = at (cases_eq k j) (cases_eq k i)
  where
    is : (xs : List ℕ) → length xs ≡ n → get_or (swap xs i j) k 0 ≡ get_or (set (set xs i (get_or xs j 0)) j (get_or xs i 0)) k 0
    is xs long = ap (λ (ys : List ℕ). get_or ys k 0) (sym (swap_is xs i j 0 (omega arith) (omega arith)))

    at : (k ≡ j) ⊎ (k ≡ j → ⊥) → (k ≡ i) ⊎ (k ≡ i → ⊥) → (m : ℕ) × (m < n) × ((xs : List ℕ) → length xs ≡ n → get_or (swap xs i j) k 0 ≡ get_or xs m 0)
    at (inl same) one = (i, low, λ xs long. is xs long ∙ ap (λ (p : ℕ). get_or (set (set xs i (get_or xs j 0)) j (get_or xs i 0)) p 0) same ∙ get_or-set_same (set xs i (get_or xs j 0)) j (get_or xs i 0) 0 (rw (length-set xs i (get_or xs j 0)) (omega arith)))
    at (inr apart) (inl same) = (j, lower, λ xs long. is xs long ∙ get_or-set_other (set xs i (get_or xs j 0)) j k (get_or xs i 0) 0 apart ∙ ap (λ (p : ℕ). get_or (set xs i (get_or xs j 0)) p 0) same ∙ get_or-set_same xs i (get_or xs j 0) 0 (omega arith))
    at (inr apart) (inr still) = (k, lt, λ xs long. is xs long ∙ get_or-set_other (set xs i (get_or xs j 0)) j k (get_or xs i 0) 0 apart ∙ get_or-set_other xs i k (get_or xs j 0) 0 still)

-- at the first of the two
pub swapped_first : (xs : List ℕ) (i j : ℕ) → i < length xs → j < length xs → get_or (swap xs i j) i 0 ≡ get_or xs j 0
swapped_first xs i j low lower = ap (λ (ys : List ℕ). get_or ys i 0) (sym (swap_is xs i j 0 low lower)) ∙ at (written xs i j (get_or xs j 0) (get_or xs i 0) i low lower)
  where
    at : {v : ℕ} → Written xs i j (get_or xs j 0) (get_or xs i 0) i v → v ≡ get_or xs j 0
    at (last same is) = is ∙ ap (λ (p : ℕ). get_or xs p 0) same
    at (first apart same is) = is
    at (other apart still is) = absurd (still refl)

-- at the second
pub swapped_second : (xs : List ℕ) (i j : ℕ) → i < length xs → j < length xs → get_or (swap xs i j) j 0 ≡ get_or xs i 0
swapped_second xs i j low lower =
    ap (λ (ys : List ℕ). get_or ys j 0) (sym (swap_is xs i j 0 low lower))
    ∙ get_or-set_same (set xs i (get_or xs j 0)) j (get_or xs i 0) 0 (rw (length-set xs i (get_or xs j 0)) lower)

-- and at neither
pub swapped_other : (xs : List ℕ) (i j k : ℕ) → i < length xs → j < length xs → k ≢ i → k ≢ j → get_or (swap xs i j) k 0 ≡ get_or xs k 0
swapped_other xs i j k low lower apart still =
    ap (λ (ys : List ℕ). get_or ys k 0) (sym (swap_is xs i j 0 low lower))
    ∙ get_or-set_other (set xs i (get_or xs j 0)) j k (get_or xs i 0) 0 still ∙ get_or-set_other xs i k (get_or xs j 0) 0 apart
