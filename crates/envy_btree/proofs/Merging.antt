-- Two neighbours in a list give way to one, or to two others.
use Rattle.std.proofs.Common.{◌≡◌, ◌≢◌, ℕ, zero, suc, ◌+◌, ◌<◌, List, [], ◌∷◌, ◌++◌, length, map, get_or, set, refl, ap, sym, ◌∙◌, arith}
use Rattle.std.specs.List.{All, flat_map, sum_by, remove}
use Rattle.std.proofs.lemmas.List.{append_assoc, length-set, get_or-set_other}
use Rattle.std.proofs.lemmas.List.Sums.{sum_by-cons, sum_by-set}
use Rattle.std.proofs.lemmas.List.Elements.{All-cons, All-from_get_or}

pub get_or-any : {X : Type 0} (xs : List X) (i : ℕ) (d e : X) → i < length xs → get_or xs i d ≡ get_or xs i e
get_or-any [] i d e lt = absurd (omega arith)
get_or-any (x ∷ xs) zero d e lt = refl
get_or-any (x ∷ xs) (suc i) d e lt = get_or-any xs i d e (omega arith)

pub length-merge : {X : Type 0} (xs : List X) (j : ℕ) (y : X) → suc j < length xs → length (remove (set xs j y) (suc j)) + 1 ≡ length xs
length-merge [] j y lt = absurd (omega arith)
length-merge (x ∷ []) j y lt = absurd (omega arith)
length-merge (x ∷ z ∷ xs) zero y lt = omega arith
length-merge (x ∷ z ∷ xs) (suc j) y lt = omega (arith, length-merge (z ∷ xs) j y (omega arith))

pub All-merge : {X : Type 0} (P : X → Type 0) (xs : List X) (j : ℕ) (y d : X) → suc j < length xs → P y → ((k : ℕ) → k < length xs → k ≢ j → k ≢ suc j → P (get_or xs k d)) → All P (remove (set xs j y) (suc j))
All-merge P [] j y d lt p h = absurd (omega arith)
All-merge P (x ∷ []) j y d lt p h = absurd (omega arith)
All-merge P (x ∷ z ∷ xs) zero y d lt p h = All-cons P y xs p (All-from_get_or P xs d (λ k lk. h (suc (suc k)) (omega arith) (omega arith) (omega arith)))
All-merge P (x ∷ z ∷ xs) (suc j) y d lt p h = All-cons P x (remove (set (z ∷ xs) j y) (suc j)) (h 0 (omega arith) (omega arith) (omega arith)) (All-merge P (z ∷ xs) j y d (omega arith) p (λ k lk n1 n2. h (suc k) (omega arith) (omega arith) (omega arith)))

pub All-pair : {X : Type 0} (P : X → Type 0) (xs : List X) (j : ℕ) (y z d : X) → suc j < length xs → P y → P z → ((k : ℕ) → k < length xs → k ≢ j → k ≢ suc j → P (get_or xs k d)) → All P (set (set xs j y) (suc j) z)
All-pair P [] j y z d lt p q h = absurd (omega arith)
All-pair P (x ∷ []) j y z d lt p q h = absurd (omega arith)
All-pair P (x ∷ w ∷ xs) zero y z d lt p q h = All-cons P y (z ∷ xs) p (All-cons P z xs q (All-from_get_or P xs d (λ k lk. h (suc (suc k)) (omega arith) (omega arith) (omega arith))))
All-pair P (x ∷ w ∷ xs) (suc j) y z d lt p q h = All-cons P x (set (set (w ∷ xs) j y) (suc j) z) (h 0 (omega arith) (omega arith) (omega arith)) (All-pair P (w ∷ xs) j y z d (omega arith) p q (λ k lk n1 n2. h (suc k) (omega arith) (omega arith) (omega arith)))

pub sum-merge : {X : Type 0} (f : X → ℕ) (xs : List X) (j n : ℕ) (y d : X) → suc j < length xs → f y + n ≡ f (get_or xs j d) + f (get_or xs (suc j) d) → sum_by f (remove (set xs j y) (suc j)) + n ≡ sum_by f xs
sum-merge f [] j n y d lt e = absurd (omega arith)
sum-merge f (x ∷ []) j n y d lt e = absurd (omega arith)
sum-merge f (x ∷ z ∷ xs) zero n y d lt e = omega (arith, sum_by-cons f x (z ∷ xs), sum_by-cons f z xs, sum_by-cons f y xs, e)
sum-merge f (x ∷ z ∷ xs) (suc j) n y d lt e = omega (arith, sum_by-cons f x (z ∷ xs), sum_by-cons f x (remove (set (z ∷ xs) j y) (suc j)), sum-merge f (z ∷ xs) j n y d (omega arith) e)

pub sum-pair : {X : Type 0} (f : X → ℕ) (xs : List X) (j : ℕ) (y z d : X) → suc j < length xs → f y + f z ≡ f (get_or xs j d) + f (get_or xs (suc j) d) → sum_by f (set (set xs j y) (suc j) z) ≡ sum_by f xs
sum-pair f xs j y z d lt e =
    omega (arith, e, sum_by-set f xs j y d (omega arith), sum_by-set f (set xs j y) (suc j) z d (omega (arith, length-set xs j y)), ap f (get_or-set_other xs j (suc j) y d (omega arith)))

pub flat_map-merge : {X : Type 0} (F : X → List (ℕ × ℕ)) (xs : List X) (j : ℕ) (y d : X) → suc j < length xs → F y ≡ F (get_or xs j d) ++ F (get_or xs (suc j) d) → flat_map F (remove (set xs j y) (suc j)) ≡ flat_map F xs
flat_map-merge F [] j y d lt e = absurd (omega arith)
flat_map-merge F (x ∷ []) j y d lt e = absurd (omega arith)
flat_map-merge F (x ∷ z ∷ xs) zero y d lt e = ap (λ w. w ++ flat_map F xs) e ∙ append_assoc (F x) (F z) (flat_map F xs)
flat_map-merge F (x ∷ z ∷ xs) (suc j) y d lt e = ap (λ w. F x ++ w) (flat_map-merge F (z ∷ xs) j y d (omega arith) e)

pub flat_map-pair : {X : Type 0} (F : X → List (ℕ × ℕ)) (xs : List X) (j : ℕ) (y z d : X) → suc j < length xs → F y ++ F z ≡ F (get_or xs j d) ++ F (get_or xs (suc j) d) → flat_map F (set (set xs j y) (suc j) z) ≡ flat_map F xs
flat_map-pair F [] j y z d lt e = absurd (omega arith)
flat_map-pair F (x ∷ []) j y z d lt e = absurd (omega arith)
flat_map-pair F (x ∷ w ∷ xs) zero y z d lt e = sym (append_assoc (F y) (F z) (flat_map F xs)) ∙ ap (λ v. v ++ flat_map F xs) e ∙ append_assoc (F x) (F w) (flat_map F xs)
flat_map-pair F (x ∷ w ∷ xs) (suc j) y z d lt e = ap (λ v. F x ++ v) (flat_map-pair F (w ∷ xs) j y z d (omega arith) e)

pub map-merge : {X Y : Type 0} (f : X → Y) (xs : List X) (j : ℕ) (y d : X) → suc j < length xs → f y ≡ f (get_or xs j d) → map f (remove (set xs j y) (suc j)) ≡ remove (map f xs) (suc j)
map-merge f [] j y d lt e = absurd (omega arith)
map-merge f (x ∷ []) j y d lt e = absurd (omega arith)
map-merge f (x ∷ z ∷ xs) zero y d lt e = ap (λ w. w ∷ map f xs) e
map-merge f (x ∷ z ∷ xs) (suc j) y d lt e = ap (λ w. f x ∷ w) (map-merge f (z ∷ xs) j y d (omega arith) e)

pub map-pair : {X Y : Type 0} (f : X → Y) (xs : List X) (j : ℕ) (y z d : X) → suc j < length xs → f y ≡ f (get_or xs j d) → f z ≡ f (get_or xs (suc j) d) → map f (set (set xs j y) (suc j) z) ≡ map f xs
map-pair f [] j y z d lt e g = absurd (omega arith)
map-pair f (x ∷ []) j y z d lt e g = absurd (omega arith)
map-pair f (x ∷ w ∷ xs) zero y z d lt e g = ap (λ v. v ∷ f z ∷ map f xs) e ∙ ap (λ v. f x ∷ v ∷ map f xs) g
map-pair f (x ∷ w ∷ xs) (suc j) y z d lt e g = ap (λ v. f x ∷ v) (map-pair f (w ∷ xs) j y z d (omega arith) e g)
