-- What a loop that reads numbers of the map has come to.
use Rattle.std.proofs.Common.{◌≡◌, ◌⊎◌, inl, inr, ℕ, ◌+◌, ◌<◌, ◌≤◌, List, length, get_or, set, replicate, sym, ◌∙◌, ap, subst, arith}
use Rattle.std.proofs.lemmas.Bool.{cases_eq}
use Rattle.std.proofs.lemmas.List.{ext_get_or, get_or-set_other, get_or-set_same}
use Rattle.envy_base.specs.declared.shape.Shape.{Shape}
use Rattle.envy_map.specs.Fields.{Fields}
use Rattle.envy_space.specs.Pool.{Pool, HasCounted, StandsAt}
use Rattle.envy_space.proofs.SpaceLemmas.{zeros_at}
use Rattle.envy_base.specs.Shape.{all_positions_of}

pub none-read : (xs ys : List ℕ) (k : ℕ) → k < 0 → get_or xs k 0 ≡ get_or ys k 0
none-read xs ys k lt = absurd (omega arith)

pub all-read : (xs ys : List ℕ) (n k : ℕ) → length xs ≡ n → length ys ≡ n → n ≤ k → ((j : ℕ) → j < k → get_or xs j 0 ≡ get_or ys j 0) → xs ≡ ys
all-read xs ys n k long there past same = ext_get_or 0 xs ys (long ∙ sym there) (λ j lt. same j (omega arith))

-- one number more is written
pub more-read : (xs ys : List ℕ) (k v : ℕ) → k < length xs → v ≡ get_or ys k 0 → ((j : ℕ) → j < k → get_or xs j 0 ≡ get_or ys j 0) → (j : ℕ) → j < k + 1 → get_or (set xs k v) j 0 ≡ get_or ys j 0
more-read xs ys k v within is before j lt = at (cases_eq j k)
  where
    at : (j ≡ k) ⊎ (j ≡ k → ⊥) → get_or (set xs k v) j 0 ≡ get_or ys j 0
    at (inl same) = ap (λ (i : ℕ). get_or (set xs k v) i 0) same ∙ get_or-set_same xs k v 0 within ∙ is ∙ ap (λ (i : ℕ). get_or ys i 0) (sym same)
    at (inr apart) = get_or-set_other xs k j v 0 apart ∙ before j (omega arith)

-- one segment more stands where the map says
pub more-stand : (sh : Shape) (pool new : Pool) (xs : List ℕ) (k s : ℕ) → pool.shape ≡ sh → k < all_positions_of sh → ((i j : ℕ) → i < all_positions_of sh → j < all_positions_of sh → get_or xs i 0 ≡ get_or xs j 0 → i ≡ j) → s ≡ get_or xs k 0
    → StandsAt k s pool new → ((j : ℕ) → j < k → get_or pool.positions j 0 ≡ get_or xs j 0) → (j : ℕ) → j < k + 1 → get_or new.positions j 0 ≡ get_or xs j 0
more-stand sh pool new xs k s shape low apart is stands before j lt = at (cases_eq j k)
  where
    segments : pool.shape.segments ≡ sh.segments
    segments = ap (λ (x : Shape). x.segments) shape

    at : (j ≡ k) ⊎ (j ≡ k → ⊥) → get_or new.positions j 0 ≡ get_or xs j 0
    at (inl same) = ap (λ (i : ℕ). get_or new.positions i 0) same ∙ stands.here ∙ is ∙ ap (λ (i : ℕ). get_or xs i 0) (sym same)
    at (inr off) =
        let less : j < k = omega arith in
        let was = before j less in
        let long = segments in
        stands.others j (omega arith) off (λ stood. off (apart j k (omega arith) low (sym was ∙ stood ∙ is))) ∙ was

-- no row is kept
pub none-kept : (xs : List ℕ) (n k m : ℕ) → xs ≡ replicate n 0 → get_or xs k 0 ≤ m
none-kept xs n k m is = let none = zeros_at n k in let here = ap (λ (ys : List ℕ). get_or ys k 0) is in omega arith

-- before the first page, and past the last
pub HasCounted-none : (sh : Shape) (f : Fields) (pool : Pool) (n : ℕ) → length pool.kept ≡ sh.segments → pool.kept ≡ replicate n 0 → HasCounted sh f 0 pool
HasCounted-none sh f pool n long is = record { long = long; counted = λ s lt. ap (λ (xs : List ℕ). get_or xs s 0) is ∙ zeros_at n s }

pub HasCounted-all : (sh own : Shape) (f : Fields) (pool : Pool) (k : ℕ) → own ≡ sh → k ≤ own.pages → own.pages ≤ k → HasCounted sh f k pool → HasCounted sh f sh.pages pool
HasCounted-all sh own f pool k same low high counted =
    let is : k ≡ own.pages = omega arith in
    subst (λ (n : ℕ). HasCounted sh f n pool) (is ∙ ap (λ (x : Shape). x.pages) same) counted

-- a number that was read is within what the map's are within
pub fill-fits : (xs : List ℕ) (k v : ℕ) (sh own : Shape) → own ≡ sh → v ≡ get_or xs k 0 → get_or xs k 0 ≤ sh.rows → v ≤ own.rows
fill-fits xs k v sh own same is fits = let rows = ap (λ (x : Shape). x.rows) same in omega arith

pub segment-fits : (xs : List ℕ) (k v : ℕ) (sh own : Shape) → own ≡ sh → v ≡ get_or xs k 0 → get_or xs k 0 < sh.segments → v < own.segments
segment-fits xs k v sh own same is fits = let segments = ap (λ (x : Shape). x.segments) same in omega arith

pub within-long : (xs : List ℕ) (k n : ℕ) → length xs ≡ n → k < n → k < length xs
within-long xs k n long lt = omega arith
