-- Rows that are anded word by word, and the rows of a segment.
use Rattle.std.proofs.Common.{◌≡◌, ◌+◌, ◌-◌, ◌*◌, ◌/◌, ◌%◌, ◌^◌, ◌<◌, ◌≤◌, ℕ, zero, suc, List, [], ◌∷◌, length, get_or, slice_index, bit_and, replicate, refl, sym, ◌∙◌, ap, arith}
use Rattle.std.proofs.lemmas.Grind.{same_number_lists}
use Rattle.std.proofs.lemmas.Nat.{and_mask, and_comm, div-mul-add, div-add-mod', mod_below}
use Rattle.envy_base.specs.State.{ands, AreWords}

-- the first n words are done
pub record Anded (n : ℕ) (row page both : List ℕ) : Type 0 where
  pub long : length both ≡ 32
  pub done : (j : ℕ) → j < n → slice_index both j ≡ bit_and (slice_index row j) (slice_index page j)

pub length-ands : (xs ys : List ℕ) → length xs ≡ length ys → length (ands xs ys) ≡ length xs
length-ands [] ys e = refl
length-ands (x ∷ xs) [] e = cc
length-ands (x ∷ xs) (y ∷ ys) e = ap suc (length-ands xs ys (omega arith))

pub get_or-ands : (xs ys : List ℕ) → length xs ≡ length ys → (i : ℕ) → get_or (ands xs ys) i 0 ≡ bit_and (get_or xs i 0) (get_or ys i 0)
get_or-ands [] [] e i = refl
get_or-ands [] (y ∷ ys) e i = absurd (let no : 0 ≡ suc (length ys) = e in cc)
get_or-ands (x ∷ xs) [] e i = absurd (let no : suc (length xs) ≡ 0 = e in cc)
get_or-ands (x ∷ xs) (y ∷ ys) e zero = refl
get_or-ands (x ∷ xs) (y ∷ ys) e (suc i) = get_or-ands xs ys (omega arith) i

pub anded_all : (row page both : List ℕ) → length row ≡ 32 → length page ≡ 32 → Anded 32 row page both → both ≡ ands row page
anded_all row page both r p is =
    let same : length row ≡ length page = r ∙ sym p in
    same_number_lists both (ands row page) (is.long ∙ sym r ∙ sym (length-ands row page same)) (λ k lt. is.done k (omega (lt, is.long, arith)) ∙ sym (get_or-ands row page same k))

-- an erased row takes what is programmed
pub and_ones : (x : ℕ) → x < 2 ^ 64 → bit_and (2 ^ 64 - 1) x ≡ x
and_ones x lt = and_comm (2 ^ 64 - 1) x ∙ and_mask x 64 ∙ omega arith

pub ands_ones : (n : ℕ) (xs : List ℕ) → length xs ≡ n → AreWords xs → ands (replicate n (2 ^ 64 - 1)) xs ≡ xs
ands_ones zero [] long words = refl
ands_ones zero (x ∷ xs) long words = cc
ands_ones (suc n) [] long words = cc
ands_ones (suc n) (x ∷ xs) long words = rw (and_ones x (words 0)) (ap (λ (r : List ℕ). x ∷ r) (ands_ones n xs (omega arith) (λ i. words (suc i))))

-- row k lies in segment e
pub inside_of : (rows e k : ℕ) → 1 ≤ rows → k / rows ≡ e → (e * rows ≤ k) × (k < e * rows + rows)
inside_of rows e k some is =
    let split : k / rows * rows + k % rows ≡ k = div-add-mod' k rows in
    let rest : k % rows < rows = mod_below k rows some in
    let at : e * rows + k % rows ≡ k = ap (λ n. n * rows + k % rows) (sym is) ∙ split in
    (omega (at, arith), omega (at, rest, arith))

pub block_of : (rows e k : ℕ) → e * rows ≤ k → k < e * rows + rows → k / rows ≡ e
block_of rows e k low high =
    let rest : k - e * rows < rows = omega arith in
    let at : k ≡ e * rows + (k - e * rows) = omega arith in
    ap (λ n. n / rows) at ∙ div-mul-add e rows (k - e * rows) rest
