-- The pairs of entries, and those of one slot.
use Rattle.std.proofs.Common.{◌≡◌, ◌⊎◌, inl, inr, Bool, true, false, ℕ, zero, suc, ◌+◌, ◌<◌, ◌≤◌, ◌&&◌, List, [], ◌∷◌, ◌++◌, map, length, get_or, take, drop, None, Some, refl, sym, ◌∙◌, ap, arith}
use Rattle.std.specs.Prelude.{◌==◌, not, if◌then◌else◌}
use Rattle.std.proofs.lemmas.Bool.{cases_lt, eq-eqb, ne_eqb}
use Rattle.std.proofs.lemmas.List.{append-nil, length-append, take_more, take-append-drop}
use Rattle.std.proofs.lemmas.List.Elements.{filter-append}
use Rattle.std.proofs.lemmas.List.Filters.{length-filter_both}
use Rattle.envy_txn.specs.declared.entry.Entry.{Entry}
use Rattle.envy_txn.specs.declared.pair.Pair.{Pair}
use Rattle.envy_txn.specs.Entries.{pairs_in, is_own, own_of, is_of, end_of}
use Rattle.envy_txn.specs.Owners.{owner_of, others_of, is_of_other}

abbrev pub some_entry : Entry
some_entry = record { pair = record { page = 0; slot = 0 }; live = false; older = 0 }

pub pairs_in-append : (xs ys : List Entry) → pairs_in (xs ++ ys) ≡ pairs_in xs ++ pairs_in ys
pairs_in-append [] ys = refl
pairs_in-append (e ∷ rest) ys = at e.live (pairs_in-append rest ys)
  where
    at : (b : Bool) → pairs_in (rest ++ ys) ≡ pairs_in rest ++ pairs_in ys → (if b then e.pair ∷ pairs_in (rest ++ ys) else pairs_in (rest ++ ys)) ≡ (if b then e.pair ∷ pairs_in rest else pairs_in rest) ++ pairs_in ys
    at true same = ap (λ (ps : List Pair). e.pair ∷ ps) same
    at false same = same

pub pairs_in-long : (xs : List Entry) → length (pairs_in xs) ≤ length xs
pairs_in-long [] = omega arith
pairs_in-long (e ∷ rest) = at e.live (pairs_in-long rest)
  where
    at : (b : Bool) → length (pairs_in rest) ≤ length rest → length (if b then e.pair ∷ pairs_in rest else pairs_in rest) ≤ suc (length rest)
    at true le = omega arith
    at false le = omega arith

pub own-long : (t : ℕ) (pairs : List Pair) → length (own_of t pairs) + length (others_of t pairs) ≡ length pairs
own-long t pairs = length-filter_both (is_own t) (is_of_other t) (λ e. refl) pairs

-- one entry more
pub own-push : (t : ℕ) (xs : List Entry) (e : Entry) → own_of t (pairs_in (xs ++ e ∷ [])) ≡ own_of t (pairs_in xs) ++ (if is_of t e then e.pair ∷ [] else [])
own-push t xs e = ap (own_of t) (pairs_in-append xs (e ∷ [])) ∙ filter-append (is_own t) (pairs_in xs) (pairs_in (e ∷ [])) ∙ ap (λ (ps : List Pair). own_of t (pairs_in xs) ++ ps) (one e.live)
  where
    one : (b : Bool) → own_of t (if b then e.pair ∷ [] else []) ≡ (if b && (e.pair.slot == t) then e.pair ∷ [] else [])
    one true = refl
    one false = refl

-- entries that aren't the slot's add nothing to its pairs
pub own-skip : (t a n : ℕ) (xs : List Entry) → a ≤ n → n ≤ length xs → ((k : ℕ) (d : Entry) → a ≤ k → k < n → is_of t (get_or xs k d) ≡ false) → own_of t (pairs_in (take n xs)) ≡ own_of t (pairs_in (take a xs))
own-skip t a zero xs low high free = let none : a ≡ 0 = omega arith in ap (λ (k : ℕ). own_of t (pairs_in (take k xs))) (sym none)
own-skip t a (suc n) xs low high free = at (cases_lt n a) (λ before. own-skip t a n xs before (omega arith) (λ k d from lt. free k d from (omega arith)))
  where
    at : (n < a) ⊎ (a ≤ n) → (a ≤ n → own_of t (pairs_in (take n xs)) ≡ own_of t (pairs_in (take a xs))) → own_of t (pairs_in (take (suc n) xs)) ≡ own_of t (pairs_in (take a xs))
    at (inl less) before = let all : a ≡ suc n = omega arith in ap (λ (k : ℕ). own_of t (pairs_in (take k xs))) (sym all)
    at (inr more) before =
        let free_here : is_of t (get_or xs n some_entry) ≡ false = free n some_entry more (omega arith) in
        let up : suc n ≡ n + 1 = omega arith in
        ap (λ (k : ℕ). own_of t (pairs_in (take k xs))) up
        ∙ ap (λ (ys : List Entry). own_of t (pairs_in ys)) (take_more xs n some_entry (omega arith))
        ∙ own-push t (take n xs) (get_or xs n some_entry)
        ∙ ap (λ (b : Bool). own_of t (pairs_in (take n xs)) ++ (if b then (get_or xs n some_entry).pair ∷ [] else [])) free_here
        ∙ append-nil (own_of t (pairs_in (take n xs))) ∙ before more

-- once a slot owns no more
pub pairs_in-ended : (t : ℕ) (xs : List Entry) → pairs_in (map (end_of t) xs) ≡ others_of t (pairs_in xs)
pairs_in-ended t [] = refl
pairs_in-ended t (e ∷ rest) = at e.live (pairs_in-ended t rest)
  where
    alive : (c : Bool) → pairs_in (map (end_of t) rest) ≡ others_of t (pairs_in rest) → (let x = (if c then record e { live = false } else record e { live = true }) in if x.live then x.pair ∷ pairs_in (map (end_of t) rest) else pairs_in (map (end_of t) rest)) ≡ (if not c then e.pair ∷ others_of t (pairs_in rest) else others_of t (pairs_in rest))
    alive true same = same
    alive false same = ap (λ (ps : List Pair). e.pair ∷ ps) same

    at : (b : Bool) → pairs_in (map (end_of t) rest) ≡ others_of t (pairs_in rest) → pairs_in (map (end_of t) (record e { live = b } ∷ rest)) ≡ others_of t (pairs_in (record e { live = b } ∷ rest))
    at true same = alive (e.pair.slot == t) same
    at false same = same

-- an entry that owns no more, or owns another page, tells nothing of the page
pub owner_of-skip : (e : Entry) (rest : List Entry) (p : ℕ) → (e.live ≡ true → e.pair.page ≡ p → ⊥) → owner_of (pairs_in (e ∷ rest)) p ≡ owner_of (pairs_in rest) p
owner_of-skip e rest p other = at e.live refl
  where
    at : (b : Bool) → e.live ≡ b → owner_of (pairs_in (e ∷ rest)) p ≡ owner_of (pairs_in rest) p
    at true live = let is = ne_eqb e.pair.page p (other live) in rw live (rw is refl)
    at false dead = rw dead refl

-- the first entry of the page that owns tells the owner
pub owner_of-first : (xs : List Entry) (i p : ℕ) (d : Entry) → i < length xs → (get_or xs i d).live ≡ true → (get_or xs i d).pair.page ≡ p
    → ((k : ℕ) (x : Entry) → k < i → (get_or xs k x).live ≡ true → (get_or xs k x).pair.page ≡ p → ⊥) → owner_of (pairs_in xs) p ≡ Some (get_or xs i d).pair.slot
owner_of-first [] i p d lt live page before = absurd (omega arith)
owner_of-first (e ∷ rest) zero p d lt live page before = let is = eq-eqb e.pair.page p page in rw live (rw is refl)
owner_of-first (e ∷ rest) (suc i) p d lt live page before =
    owner_of-skip e rest p (λ alive same. before 0 e (omega arith) alive same)
    ∙ owner_of-first rest i p d (omega arith) live page (λ k x less alive same. before (suc k) x (omega arith) alive same)

pub owner_of-nobody : (xs : List Entry) (p : ℕ) → ((k : ℕ) (x : Entry) → k < length xs → (get_or xs k x).live ≡ true → (get_or xs k x).pair.page ≡ p → ⊥) → owner_of (pairs_in xs) p ≡ None
owner_of-nobody [] p none = refl
owner_of-nobody (e ∷ rest) p none =
    owner_of-skip e rest p (λ alive same. none 0 e (omega arith) alive same)
    ∙ owner_of-nobody rest p (λ k x less alive same. none (suc k) x (omega arith) alive same)

owner_of-rest : (e : Entry) (rest : List Entry) (p : ℕ) → owner_of (pairs_in (e ∷ rest)) p ≡ None → owner_of (pairs_in rest) p ≡ None
owner_of-rest e rest p none = at e.live refl (e.pair.page == p) refl
  where
    at : (a : Bool) → e.live ≡ a → (b : Bool) → (e.pair.page == p) ≡ b → owner_of (pairs_in rest) p ≡ None
    at true live true page = let clash : Some e.pair.slot ≡ None = rw page at (rw live at none) in cc
    at true live false page = rw page at (rw live at none)
    at false dead b page = rw dead at none

-- where a page has no owner no entry of it owns
pub owner_of-free : (xs : List Entry) (p : ℕ) → owner_of (pairs_in xs) p ≡ None → (k : ℕ) (x : Entry) → k < length xs → (get_or xs k x).live ≡ true → (get_or xs k x).pair.page ≡ p → ⊥
owner_of-free [] p none k x lt live page = omega arith
owner_of-free (e ∷ rest) p none zero x lt live page =
    let same = eq-eqb e.pair.page p page in
    let clash : Some e.pair.slot ≡ None = rw same at (rw live at none) in cc
owner_of-free (e ∷ rest) p none (suc k) x lt live page = owner_of-free rest p (owner_of-rest e rest p none) k x (omega arith) live page

-- one entry more of a list
pub pairs_in-more : (xs : List Entry) (i : ℕ) (d : Entry) → i < length xs → pairs_in (take (i + 1) xs) ≡ pairs_in (take i xs) ++ (if (get_or xs i d).live then (get_or xs i d).pair ∷ [] else [])
pairs_in-more xs i d lt = ap pairs_in (take_more xs i d lt) ∙ pairs_in-append (take i xs) (get_or xs i d ∷ [])

pub pairs_in-front : (xs : List Entry) (i : ℕ) → length (pairs_in (take i xs)) ≤ length (pairs_in xs)
pairs_in-front xs i =
    let whole : pairs_in xs ≡ pairs_in (take i xs) ++ pairs_in (drop i xs) = ap pairs_in (sym (take-append-drop i xs)) ∙ pairs_in-append (take i xs) (drop i xs) in
    let long = ap (λ (ps : List Pair). length ps) whole ∙ length-append (pairs_in (take i xs)) (pairs_in (drop i xs)) in
    omega arith
