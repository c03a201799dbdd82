-- What a write of one word changes in a region of the map.
use Rattle.std.proofs.Common.{◌≡◌, ◌⊎◌, inl, inr, ℕ, zero, suc, ◌+◌, ◌-◌, ◌*◌, ◌/◌, ◌%◌, ◌^◌, ◌<◌, ◌≤◌, List, [], ◌∷◌, length, get_or, take, drop, set, refl, sym, ◌∙◌, ap, subst, arith}
use Rattle.std.proofs.lemmas.List.{drop-set-lt, drop-set-add, take-set-le, length-take, length-drop, get_or-take, get_or-drop}
use Rattle.envy_map.specs.Codes.{halves, half_of, with_half}
use Rattle.envy_map.specs.Fields.{region, packed}

pub take-set_in : {A : Type 0} (n : ℕ) (l : List A) (i : ℕ) (a : A) → take n (set l i a) ≡ set (take n l) i a
take-set_in zero l i a = refl
take-set_in (suc n) [] i a = refl
take-set_in (suc n) (x ∷ l) zero a = refl
take-set_in (suc n) (x ∷ l) (suc i) a = ap (λ (r : List _). x ∷ r) (take-set_in n l i a)

pub region_other : (xs : List ℕ) (at n w v : ℕ) → (w < at) ⊎ (at + n ≤ w) → region (set xs w v) at n ≡ region xs at n
region_other xs at n w v (inl below) = ap (λ (r : List ℕ). take n r) (drop-set-lt at xs w v below)
region_other xs at n w v (inr above) =
    let e : w ≡ at + (w - at) = omega arith in
    subst (λ (k : ℕ). region (set xs k v) at n ≡ region xs at n) (sym e)
    (ap (λ (r : List ℕ). take n r) (drop-set-add at xs (w - at) v) ∙ take-set-le n (drop at xs) (w - at) v (omega arith))

pub region_here : (xs : List ℕ) (at n i v : ℕ) → region (set xs (at + i) v) at n ≡ set (region xs at n) i v
region_here xs at n i v = ap (λ (r : List ℕ). take n r) (drop-set-add at xs i v) ∙ take-set_in n (drop at xs) i v

pub halves-set : (ws : List ℕ) (p v : ℕ) → v < 2 ^ 32 → p / 2 < length ws → halves (set ws (p / 2) (with_half (get_or ws (p / 2) 0) p v)) ≡ set (halves ws) p v
unfolding with_half
halves-set [] p v fits in_range = absurd (omega arith)
halves-set (w ∷ ws) zero v fits in_range =
    let low : (w / 2 ^ 32 * 2 ^ 32 + v) % 2 ^ 32 ≡ v = omega arith in
    let high : (w / 2 ^ 32 * 2 ^ 32 + v) / 2 ^ 32 ≡ w / 2 ^ 32 = omega arith in
    rw (low, high) refl
halves-set (w ∷ ws) (suc zero) v fits in_range =
    let low : (v * 2 ^ 32 + w % 2 ^ 32) % 2 ^ 32 ≡ w % 2 ^ 32 = omega arith in
    let high : (v * 2 ^ 32 + w % 2 ^ 32) / 2 ^ 32 ≡ v = omega arith in
    rw (low, high) refl
halves-set (w ∷ ws) (suc (suc p)) v fits in_range =
    let half : suc (suc p) / 2 ≡ suc (p / 2) = omega arith in
    let parity : suc (suc p) % 2 ≡ p % 2 = omega arith in
    rw (half, parity) (ap (λ (r : List ℕ). w % 2 ^ 32 ∷ w / 2 ^ 32 ∷ r) (halves-set ws p v fits (omega arith)))

pub get_or-region : (xs : List ℕ) (at n i : ℕ) → i < n → get_or (region xs at n) i 0 ≡ get_or xs (at + i) 0
get_or-region xs at n i lt = get_or-take n (drop at xs) i 0 lt ∙ get_or-drop at xs i 0

pub length-region : (xs : List ℕ) (at n : ℕ) → at + n ≤ length xs → length (region xs at n) ≡ n
length-region xs at n le = simp (length-take, length-drop) (omega arith)

pub packed-other : (xs : List ℕ) (at n w v : ℕ) → (w < at) ⊎ (at + (n + 1) / 2 ≤ w) → packed (set xs w v) at n ≡ packed xs at n
packed-other xs at n w v apart = ap (λ (r : List ℕ). take n (halves r)) (region_other xs at ((n + 1) / 2) w v apart)

pub packed-set : (xs : List ℕ) (at n p v : ℕ) → p < n → v < 2 ^ 32 → at + (n + 1) / 2 ≤ length xs → packed (set xs (at + p / 2) (with_half (get_or xs (at + p / 2) 0) p v)) at n ≡ set (packed xs at n) p v
packed-set xs at n p v in_range fits room =
    let low : p / 2 < (n + 1) / 2 = omega arith in
    ap (λ (r : List ℕ). take n (halves r)) (region_here xs at ((n + 1) / 2) (p / 2) (with_half (get_or xs (at + p / 2) 0) p v))
    ∙ ap (λ (w : ℕ). take n (halves (set (region xs at ((n + 1) / 2)) (p / 2) (with_half w p v)))) (sym (get_or-region xs at ((n + 1) / 2) (p / 2) low))
    ∙ ap (λ (r : List ℕ). take n r) (halves-set (region xs at ((n + 1) / 2)) p v fits (rw length-region low))
    ∙ take-set_in n (halves (region xs at ((n + 1) / 2))) p v

pub length-halves : (ws : List ℕ) → length (halves ws) ≡ 2 * length ws
length-halves [] = refl
length-halves (w ∷ ws) = omega (arith, length-halves ws)

pub get_or-halves : (ws : List ℕ) (p : ℕ) → p / 2 < length ws → get_or (halves ws) p 0 ≡ half_of (get_or ws (p / 2) 0) p
unfolding half_of
get_or-halves [] p lt = absurd (omega arith)
get_or-halves (w ∷ ws) zero lt = refl
get_or-halves (w ∷ ws) (suc zero) lt = refl
get_or-halves (w ∷ ws) (suc (suc p)) lt =
    let half : suc (suc p) / 2 ≡ suc (p / 2) = omega arith in
    let parity : suc (suc p) % 2 ≡ p % 2 = omega arith in
    rw (half, parity) (get_or-halves ws p (omega arith))

pub length-packed : (xs : List ℕ) (at n : ℕ) → at + (n + 1) / 2 ≤ length xs → length (packed xs at n) ≡ n
length-packed xs at n room = simp (length-take, length-halves, length-drop) (omega arith)

pub get_or-packed : (xs : List ℕ) (at n p : ℕ) → p < n → at + (n + 1) / 2 ≤ length xs → get_or (packed xs at n) p 0 ≡ half_of (get_or xs (at + p / 2) 0) p
get_or-packed xs at n p lt room =
    let low : p / 2 < (n + 1) / 2 = omega arith in
    let inside : p / 2 < length (region xs at ((n + 1) / 2)) = rw length-region low in
    get_or-take n (halves (region xs at ((n + 1) / 2))) p 0 lt ∙ get_or-halves (region xs at ((n + 1) / 2)) p inside ∙ ap (λ (w : ℕ). half_of w p) (get_or-region xs at ((n + 1) / 2) (p / 2) low)

-- a word of 0 makes both of its halves 0
pub halves-clear : (ws : List ℕ) (i : ℕ) → halves (set ws i 0) ≡ set (set (halves ws) (2 * i) 0) (2 * i + 1) 0
halves-clear [] i = refl
halves-clear (w ∷ ws) zero = refl
halves-clear (w ∷ ws) (suc i) =
    let even : 2 * suc i ≡ suc (suc (2 * i)) = omega arith in
    let odd : 2 * suc i + 1 ≡ suc (suc (2 * i + 1)) = omega arith in
    rw (odd, even) (ap (λ (r : List ℕ). w % 2 ^ 32 ∷ w / 2 ^ 32 ∷ r) (halves-clear ws i))

pub packed-clear : (xs : List ℕ) (at n i : ℕ) → packed (set xs (at + i) 0) at n ≡ set (set (packed xs at n) (2 * i) 0) (2 * i + 1) 0
packed-clear xs at n i =
    ap (λ (r : List ℕ). take n (halves r)) (region_here xs at ((n + 1) / 2) i 0)
    ∙ ap (λ (r : List ℕ). take n r) (halves-clear (region xs at ((n + 1) / 2)) i)
    ∙ take-set_in n (set (halves (region xs at ((n + 1) / 2))) (2 * i) 0) (2 * i + 1) 0
    ∙ ap (λ (r : List ℕ). set r (2 * i + 1) 0) (take-set_in n (halves (region xs at ((n + 1) / 2))) (2 * i) 0)
