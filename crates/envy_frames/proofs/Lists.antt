-- Lists whose elements are told apart by a number, and what a filter leaves of them.
use Rattle.std.proofs.Common.{◌≡◌, ◌≢◌, ◌⊎◌, inl, inr, ℕ, zero, suc, ◌+◌, ◌<◌, ◌≤◌, zero-add, Bool, true, false, cond, not, ◌&&◌, List, [], ◌∷◌, ◌++◌, length, length-append, get_or, None, Some, refl, sym, ◌∙◌, ap, subst, arith}
use Rattle.std.specs.Prelude.{◌==◌}
use Rattle.std.specs.List.{filter, find, All, AllPairs, Any, range_with_len}
use Rattle.std.proofs.lemmas.List.Elements.{All-cons}
use Rattle.std.proofs.lemmas.List.{get_or_default, get_or_append_left, get_or_push, length_push}
use Rattle.std.proofs.lemmas.List.FromFn.{length-range_with_len, get_or-range_with_len, map-range_with_len_more}
use Rattle.std.proofs.lemmas.List.Folds.{Any-from_list_any}
use Rattle.std.proofs.lemmas.Map.Made.{IsDistinct-from_AllPairs}
use Rattle.std.proofs.lemmas.Map.Steps.{length-le_from_distinct_below}
use Rattle.std.proofs.lemmas.Bool.{cases_order, eq-eqb, ne_eqb, eqb-true}
use Rattle.std.proofs.lemmas.Bool.Decides.{Decides-eqb}
use Rattle.std.proofs.lemmas.List.{map-id}

module _ {X : Type 0} where
  pub AllPairs-head : (R : X → X → Type 0) (x : X) (xs : List X) → AllPairs R (x ∷ xs) → All (R x) xs
  AllPairs-head R x xs all k d lt = all 0 (suc k) d (omega arith) (omega arith)

  pub AllPairs-tail : (R : X → X → Type 0) (x : X) (xs : List X) → AllPairs R (x ∷ xs) → AllPairs R xs
  AllPairs-tail R x xs all i j d less lt = all (suc i) (suc j) d (omega arith) (omega arith)

  -- what passes is kept
  pub Any-filter : (p : X → Bool) (P : X → Type 0) (xs : List X) → ((x : X) → P x → p x ≡ true) → Any P xs → Any P (filter p xs)
  Any-filter p P [] passes (i, x, lt, is, holds) = absurd (omega arith)
  Any-filter p P (x ∷ xs) passes (zero, y, lt, is, holds) =
      let here : p x ≡ true = passes x (subst P (sym is) holds) in
      rw here (0, x, omega arith, refl, subst P (sym is) holds)
  Any-filter p P (x ∷ xs) passes (suc i, y, lt, is, holds) = at (p x) (Any-filter p P xs passes (i, y, omega arith, is, holds))
    where
      at : (b : Bool) → Any P (filter p xs) → Any P (cond b (x ∷ filter p xs) (filter p xs))
      at true (j, z, less, there, good) = (suc j, z, omega arith, there, good)
      at false found = found

  -- where all pass, all are kept
  pub filter_all : (p : X → Bool) (xs : List X) → All (λ x. p x ≡ true) xs → filter p xs ≡ xs
  filter_all p [] all = refl
  filter_all p (x ∷ xs) all =
      let here : p x ≡ true = all 0 x (omega arith) in
      rw here (ap (λ (r : List X). x ∷ r) (filter_all p xs (λ k d lt. all (suc k) d (omega arith))))

  pub filter-filter : (p q : X → Bool) (xs : List X) → filter p (filter q xs) ≡ filter (λ x. p x && q x) xs
  filter-filter p q [] = refl
  filter-filter p q (x ∷ xs) = at (p x) (q x) refl refl (filter-filter p q xs)
    where
      at : (a b : Bool) → p x ≡ a → q x ≡ b → filter p (filter q xs) ≡ filter (λ y. p y && q y) xs → filter p (filter q (x ∷ xs)) ≡ filter (λ y. p y && q y) (x ∷ xs)
      at true true passes stays same = rw (stays, passes) (ap (λ (r : List X). x ∷ r) same)
      at true false passes stays same = rw (stays, passes) same
      at false true passes stays same = rw (stays, passes) same
      at false false passes stays same = rw (stays, passes) same

  pub All-left : (P : X → Type 0) (xs ys : List X) → All P (xs ++ ys) → All P xs
  All-left P xs ys all k d lt = rw (← get_or_append_left xs ys d k lt) (all k d (omega (arith, length-append xs ys)))

  pub All-last : (P : X → Type 0) (xs : List X) (y : X) → All P (xs ++ y ∷ []) → P y
  All-last P xs y all = subst P (get_or_push xs y y (length xs) refl) (all (length xs) y (omega (arith, length_push xs y)))

  pub AllPairs-left : (R : X → X → Type 0) (xs ys : List X) → AllPairs R (xs ++ ys) → AllPairs R xs
  AllPairs-left R xs ys all i j d less lt = rw (← get_or_append_left xs ys d i (omega arith), ← get_or_append_left xs ys d j lt) (all i j d less (omega (arith, length-append xs ys)))

  -- each but the last is related to the last
  pub AllPairs-last : (R : X → X → Type 0) (xs : List X) (y : X) → AllPairs R (xs ++ y ∷ []) → All (λ x. R x y) xs
  AllPairs-last R xs y all k d lt =
      let last : get_or (xs ++ y ∷ []) (length xs) d ≡ y = get_or_push xs y d (length xs) refl in
      rw (← get_or_append_left xs (y ∷ []) d k lt) (subst (λ (z : X). R (get_or (xs ++ y ∷ []) k d) z) last (all k (length xs) d lt (omega (arith, length_push xs y))))

  pub Any-left : (P : X → Type 0) (xs ys : List X) → Any P xs → Any P (xs ++ ys)
  Any-left P xs ys (k, x, lt, is, holds) = (k, x, omega (arith, length-append xs ys), get_or_append_left xs ys x k lt ∙ is, holds)

  pub Any-weaker : (P Q : X → Type 0) (xs : List X) → ((x : X) → P x → Q x) → Any P xs → Any Q xs
  Any-weaker P Q xs weaker (k, x, lt, is, holds) = (k, x, lt, is, weaker x holds)

  pub Any-length : (P : X → Type 0) (xs : List X) → Any P xs → 0 < length xs
  Any-length P xs (k, x, lt, is, holds) = omega arith

  Any-cons : (P : X → Type 0) (x : X) (xs : List X) → Any P xs → Any P (x ∷ xs)
  Any-cons P x xs (k, y, lt, is, holds) = (suc k, y, omega arith, is, holds)

  -- the first that passes
  pub find-Some : (p : X → Bool) (xs : List X) (x : X) → find p xs ≡ Some x → Any (λ y. (p y ≡ true) × (y ≡ x)) xs
  find-Some p [] x is = cc
  find-Some p (y ∷ ys) x is = at (p y) refl is (find-Some p ys x)
    where
      at : (b : Bool) → p y ≡ b → cond b (Some y) (find p ys) ≡ Some x → (find p ys ≡ Some x → Any (λ z. (p z ≡ true) × (z ≡ x)) ys) → Any (λ z. (p z ≡ true) × (z ≡ x)) (y ∷ ys)
      at true passes here rest = (0, y, omega arith, refl, (passes, let same : y ≡ x = cc in same))
      at false passes later rest = Any-cons (λ z. (p z ≡ true) × (z ≡ x)) y ys (rest later)

  pub find-None : (p : X → Bool) (xs : List X) → find p xs ≡ None → All (λ x. p x ≡ false) xs
  find-None p [] none = λ k d lt. absurd (omega arith)
  find-None p (x ∷ xs) none = at (p x) refl none (find-None p xs)
    where
      at : (b : Bool) → p x ≡ b → cond b (Some x) (find p xs) ≡ None → (find p xs ≡ None → All (λ y. p y ≡ false) xs) → All (λ y. p y ≡ false) (x ∷ xs)
      at true passes here rest = cc
      at false passes later rest = All-cons (λ y. p y ≡ false) x xs passes (rest later)

  -- where numbers differ, elements of one number are one
  pub same-one : (number : X → ℕ) (xs : List X) → AllPairs (λ x y. number x ≢ number y) xs → (i j : ℕ) (x y : X) → i < length xs → j < length xs → get_or xs i x ≡ x → get_or xs j y ≡ y → number x ≡ number y → x ≡ y
  same-one number xs apart i j x y lt less left right same = at (cases_order i j)
    where
      there : get_or xs j x ≡ y
      there = get_or_default xs j x y less ∙ right

      at : (i ≡ j) ⊎ ((i < j) ⊎ (j < i)) → x ≡ y
      at (inl e) = sym left ∙ ap (λ (n : ℕ). get_or xs n x) e ∙ there
      at (inr (inl before)) = absurd (apart i j x before less (ap number left ∙ same ∙ sym (ap number there)))
      at (inr (inr after)) = absurd (apart j i x after lt (ap number there ∙ sym same ∙ sym (ap number left)))

  -- without the one of this number
  abbrev pub without : (X → ℕ) → ℕ → List X → List X
  without number n xs = filter (λ x. not (number x == n)) xs

  -- the first has the number, and no other
  pub without-first : (number : X → ℕ) (n : ℕ) (x : X) (xs : List X) → AllPairs (λ x y. number x ≢ number y) (x ∷ xs) → number x ≡ n → without number n (x ∷ xs) ≡ xs
  without-first number n x xs apart same =
      let itself : (number x == n) ≡ true = eq-eqb (number x) n same in
      rw (ap not itself) (filter_all (λ x. not (number x == n)) xs (λ k d lt. ap not (ne_eqb (number (get_or xs k d)) n (λ e. AllPairs-head (λ x y. number x ≢ number y) x xs apart k d lt (same ∙ sym e)))))

  -- of a list whose numbers differ, just one element has a number that some element has
  pub length-without : (number : X → ℕ) (n : ℕ) (xs : List X) → AllPairs (λ x y. number x ≢ number y) xs → Any (λ x. number x ≡ n) xs → length (without number n xs) + 1 ≡ length xs
  length-without number n [] apart (i, x, lt, is, same) = absurd (omega arith)
  length-without number n (x ∷ xs) apart (zero, y, lt, is, same) =
      let here : number x ≡ n = ap number is ∙ same in
      omega (arith, ap length (without-first number n x xs apart here))
  length-without number n (x ∷ xs) apart (suc i, y, lt, is, same) =
      let differs : number x ≢ n = λ e. AllPairs-head (λ x y. number x ≢ number y) x xs apart i y (omega arith) (e ∙ sym (ap number is ∙ same)) in
      let rest : length (without number n xs) + 1 ≡ length xs = length-without number n xs (AllPairs-tail (λ x y. number x ≢ number y) x xs apart) (i, y, omega arith, is, same) in
      let other : (number x == n) ≡ false = ne_eqb (number x) n differs in
      rw (ap not other) (omega arith)

-- numbers that differ, all below n, are at most n
pub length-le_apart : (xs : List ℕ) (n : ℕ) → AllPairs (λ x y. x ≢ y) xs → All (λ x. x < n) xs → length xs ≤ n
length-le_apart xs n apart below = length-le_from_distinct_below xs n (IsDistinct-from_AllPairs Decides-eqb xs apart) (λ q found. at q (Any-from_list_any (λ (x : ℕ). q == x) xs found))
  where
    at : (q : ℕ) → Any (λ x. (q == x) ≡ true) xs → q < n
    at q (k, x, lt, is, same) = let low : x < n = subst (λ (y : ℕ). y < n) is (below k x lt) in let e : q ≡ x = eqb-true q x same in omega arith

pub range_more : (a n : ℕ) → range_with_len a (n + 1) ≡ range_with_len a n ++ (a + n) ∷ []
range_more a n = sym (map-id (range_with_len a (n + 1))) ∙ map-range_with_len_more (λ (x : ℕ). x) a n (a + n) refl ∙ ap (λ (xs : List ℕ). xs ++ (a + n) ∷ []) (map-id (range_with_len a n))

pub range_apart : (a n : ℕ) → AllPairs (λ x y. x ≢ y) (range_with_len a n)
range_apart a n i j d less lt same =
    let long = length-range_with_len a n in
    let left = get_or-range_with_len a n i d (omega arith) in
    let right = get_or-range_with_len a n j d (omega arith) in
    omega arith

pub range_below : (n : ℕ) → All (λ x. x < n) (range_with_len 0 n)
range_below n k d lt = let long = length-range_with_len 0 n in let is = get_or-range_with_len 0 n k d (omega arith) in omega arith

pub range_has : (n f : ℕ) → f < n → Any (λ x. x ≡ f) (range_with_len 0 n)
range_has n f lt = (f, f, omega (arith, length-range_with_len 0 n), get_or-range_with_len 0 n f f lt ∙ zero-add f, refl)
