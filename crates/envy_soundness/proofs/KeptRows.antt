-- The kept rows of a segment, counted row by row.
use Rattle.std.proofs.Common.{◌≡◌, ◌⊎◌, inl, inr, ℕ, zero, suc, ◌+◌, ◌*◌, ◌/◌, ◌<◌, ◌≤◌, Bool, true, false, cond, List, get_or, Option, None, Some, refl, sym, ◌∙◌, ap, arith}
use Rattle.std.specs.Prelude.{◌&&◌, ◌||◌, not, sum_by, count_by}
use Rattle.std.specs.List.{range_with_len}
use Rattle.std.proofs.lemmas.Bool.{and_parts, cases_Bool, cases_eq, not-true}
use Rattle.std.proofs.lemmas.List.Folds.{Any-from_list_any, list_any_at}
use Rattle.std.proofs.lemmas.List.FromFn.{get_or-range_with_len, length-range_with_len}
use Rattle.envy_base.specs.declared.shape.Shape.{Shape}
use Rattle.envy_base.specs.declared.fields.Place.{Place}
use Rattle.envy_base.specs.declared.fields.Place.TheVariants.{Row}
use Rattle.envy_base.specs.declared.fields.Slot.{Slot}
use Rattle.envy_base.specs.declared.fields.Undo.{Undo}
use Rattle.envy_map.specs.Fields.{Fields, place, undo}
use Rattle.envy_soundness.specs.Words.{kept_by}
use Rattle.envy_soundness.specs.Sound.{Sound, Slots, Places, Rows, Numbers, Refers, Names, IsKept}
use Rattle.envy_soundness.specs.PageRows.{page_kept_in}
use Rattle.envy_soundness.specs.RowKinds.{is_row, is_in, is_shadow_in, is_kept, kept_in}
use Rattle.envy_soundness.proofs.KeptCounts.{is_row-is, is-is_row, is-is_in, is-is_shadow_in, one-at-most, one-true, none-false, one-yes, hit, hit-at-most, hit-refers, hit-page, kept_in-pages, refers-page}
use Rattle.envy_soundness.proofs.RangeSums.{range_more, range-le, range-same, range-constant, range-sum, range_has, range-zero, range_lone, range-swap}
use Rattle.envy_soundness.proofs.References.{row-of}

-- a page that names a row is a page of the board
pub names-page : (sh : Shape) (f : Fields) (flash : List (List ℕ)) (p q : ℕ) → Sound sh f flash → Names f p q → p < sh.pages
names-page sh f flash p q sound names =
    let places = Places.long sound.places in
    let undos = Slots.undos_long sound.slots in
    refers-page sh f.slots f.undos f.places p q (omega arith) (omega arith) names

-- a page has the row where its place names it, or its undo
hit-is : (now back : Option Place) (q : ℕ) → hit now back q ≡ cond (is_row q now || is_row q back) 1 0
hit-is now back q = both (is_row q now) (is_row q back)
  where
    both : (a b : Bool) → cond a 1 0 + cond (b && not a) 1 0 ≡ cond (a || b) 1 0
    both true true = refl
    both true false = refl
    both false true = refl
    both false false = refl

named-true : (slots : List (Option Slot)) (undos : List (Option Undo)) (places : List (Option Place)) (p q : ℕ) → Refers slots undos places p q → (is_row q (get_or places p None) || is_row q (kept_by slots (get_or undos p None) (get_or places p None))) ≡ true
named-true slots undos places p q (inl is) = let here = is-is_row q (get_or places p None) is in rw here refl
named-true slots undos places p q (inr is) = at (is_row q (get_or places p None))
  where
    at : (b : Bool) → (b || is_row q (kept_by slots (get_or undos p None) (get_or places p None))) ≡ true
    at true = refl
    at false = is-is_row q (kept_by slots (get_or undos p None) (get_or places p None)) is

in-range : (n p d : ℕ) → p < n → get_or (range_with_len 0 n) p d ≡ p
in-range n p d lt = let is = get_or-range_with_len 0 n p d lt in omega arith

-- the test finds the rows that pages name
pub is_kept-named : (sh : Shape) (slots : List (Option Slot)) (undos : List (Option Undo)) (places : List (Option Place)) (p q : ℕ) → p < sh.pages → Refers slots undos places p q → is_kept sh slots undos places q ≡ true
is_kept-named sh slots undos places p q lt refers =
    list_any_at (λ r. is_row q (get_or places r None) || is_row q (kept_by slots (get_or undos r None) (get_or places r None))) (range_with_len 0 sh.pages) p 0 (rw length-range_with_len lt)
    (rw (in-range sh.pages p 0 lt) (named-true slots undos places p q refers))

pub named-is_kept : (sh : Shape) (slots : List (Option Slot)) (undos : List (Option Undo)) (places : List (Option Place)) (q : ℕ) → is_kept sh slots undos places q ≡ true → (p : ℕ) × (p < sh.pages) × Refers slots undos places p q
named-is_kept sh slots undos places q found =
    let x = Any-from_list_any (λ r. is_row q (get_or places r None) || is_row q (kept_by slots (get_or undos r None) (get_or places r None))) (range_with_len 0 sh.pages) found in
    let low : x.0 < sh.pages = rw length-range_with_len at x.2 in
    let is : x.1 ≡ x.0 = sym x.3 ∙ in-range sh.pages x.0 x.1 low in
    (x.1, rw is low, hit-refers slots undos places x.1 q (let one = one-yes (is_row q (get_or places x.1 None) || is_row q (kept_by slots (get_or undos x.1 None) (get_or places x.1 None))) x.4 in let same = hit-is (get_or places x.1 None) (kept_by slots (get_or undos x.1 None) (get_or places x.1 None)) q in omega arith))

same-row : (x : Option Place) (a b : ℕ) → x ≡ Some (Row a) → x ≡ Some (Row b) → a ≡ b
same-row x a b e d = let both : Some (Row a) ≡ Some (Row b) = sym e ∙ d in cc

-- at most one of those below n for which b holds, and none where c doesn't
lone : (b : ℕ → Bool) (c : Bool) (n : ℕ) → ((i : ℕ) → i < n → b i ≡ true → c ≡ true) → ((i j : ℕ) → i < n → j < n → b i ≡ true → b j ≡ true → i ≡ j) → sum_by (λ i. cond (b i) 1 0) (range_with_len 0 n) ≤ cond c 1 0
lone b true n to one = range_lone (λ i. cond (b i) 1 0) n (λ k lt. one-at-most (b k)) (λ j k lt low p q. one j k lt low (one-true (b j) p) (one-true (b k) q))
lone b false n to one =
    let each = range-le (λ i. cond (b i) 1 0) (λ i. 0) n (λ k lt. none-false (b k) (no (b k) (to k lt))) in
    let all = range-constant 0 n in
    omega arith
  where
    no : (x : Bool) → (x ≡ true → false ≡ true) → x ≡ false
    no true f = let clash : false ≡ true = f refl in cc
    no false f = refl

-- a page has no more rows of the segment than are counted for it
page-rows : (sh : Shape) (now back : Option Place) (s : ℕ) → sum_by (λ i. hit now back (s * sh.rows + i)) (range_with_len 0 sh.rows) ≤ cond (is_in sh.rows s now) 1 0 + cond (is_shadow_in sh.rows s now back) 1 0
page-rows sh now back s =
    let both = range-sum (λ i. cond (is_row (s * sh.rows + i) now) 1 0) (λ i. cond (is_row (s * sh.rows + i) back && not (is_row (s * sh.rows + i) now)) 1 0) sh.rows in
    let a = lone (λ i. is_row (s * sh.rows + i) now) (is_in sh.rows s now) sh.rows
    (λ i lt e. is-is_in sh.rows s (s * sh.rows + i) now (is_row-is (s * sh.rows + i) now e) (row-of sh.rows s i lt).0)
    (λ i j lt low p q. plain i j (same-row now (s * sh.rows + i) (s * sh.rows + j) (is_row-is (s * sh.rows + i) now p) (is_row-is (s * sh.rows + j) now q))) in
    let b = lone (λ i. is_row (s * sh.rows + i) back && not (is_row (s * sh.rows + i) now)) (is_shadow_in sh.rows s now back) sh.rows
    (λ i lt e. let p = and_parts (is_row (s * sh.rows + i) back) (not (is_row (s * sh.rows + i) now)) e in
    is-is_shadow_in sh.rows s (s * sh.rows + i) now back (is_row-is (s * sh.rows + i) back p.0) (row-of sh.rows s i lt).0 (not-true (is_row (s * sh.rows + i) now) p.1))
    (λ i j lt low p q. plain i j (same-row back (s * sh.rows + i) (s * sh.rows + j) (is_row-is (s * sh.rows + i) back (and_parts (is_row (s * sh.rows + i) back) (not (is_row (s * sh.rows + i) now)) p).0) (is_row-is (s * sh.rows + j) back (and_parts (is_row (s * sh.rows + j) back) (not (is_row (s * sh.rows + j) now)) q).0))) in
    omega arith
  where
    plain : (i j : ℕ) → s * sh.rows + i ≡ s * sh.rows + j → i ≡ j
    plain i j e = omega arith

range-longer : (g : ℕ → ℕ) (m n : ℕ) → m ≤ n → sum_by g (range_with_len 0 m) ≤ sum_by g (range_with_len 0 n)
range-longer g m zero le = let none : m ≡ 0 = omega arith in rw none (omega arith)
range-longer g m (suc n) le = at (λ low. range-longer g m n low) (cases_eq m (suc n))
  where
    at : (m ≤ n → sum_by g (range_with_len 0 m) ≤ sum_by g (range_with_len 0 n)) → (m ≡ suc n) ⊎ (m ≡ suc n → ⊥) → sum_by g (range_with_len 0 m) ≤ sum_by g (range_with_len 0 (suc n))
    at shorter (inl same) = rw same (omega arith)
    at shorter (inr other) = let one = range_more g n in let rest = shorter (let o = other in omega arith) in omega arith

-- the kept rows of a segment are its rows that pages name
pub kept_in-rows : (sh : Shape) (f : Fields) (flash : List (List ℕ)) (s : ℕ) → Sound sh f flash → kept_in sh f.slots f.undos f.places s ≡ count_by (λ i. is_kept sh f.slots f.undos f.places (s * sh.rows + i)) (range_with_len 0 sh.rows)
kept_in-rows sh f flash s sound =
    let pages = kept_in-pages sh f.slots f.undos f.places s in
    let each = range-same (λ p. page_kept_in sh f.slots (undo f p) (place f p) s) (λ p. sum_by (λ i. hit_at p i) (range_with_len 0 sh.rows)) sh.pages (λ p lt. page p) in
    let swapped = range-swap hit_at sh.pages sh.rows in
    let rows = range-same (λ i. sum_by (λ p. hit_at p i) (range_with_len 0 sh.pages)) (λ i. cond (is_kept sh f.slots f.undos f.places (s * sh.rows + i)) 1 0) sh.rows (λ i lt. row i (cases_Bool (is_kept sh f.slots f.undos f.places (s * sh.rows + i)))) in
    sym pages ∙ each ∙ swapped ∙ rows
  where
    back_of : ℕ → Option Place
    back_of p = kept_by f.slots (undo f p) (place f p)

    hit_at : ℕ → ℕ → ℕ
    hit_at p i = hit (place f p) (kept_by f.slots (undo f p) (place f p)) (s * sh.rows + i)

    page : (p : ℕ) → page_kept_in sh f.slots (undo f p) (place f p) s ≡ sum_by (λ i. hit_at p i) (range_with_len 0 sh.rows)
    page p =
        let most = page-rows sh (place f p) (back_of p) s in
        let least = hit-page sh f.slots f.undos f.places f.fills f.backs s p sound.rows in
        let longer = range-longer (λ i. hit_at p i) (get_or f.fills s 0) sh.rows (Numbers.fills_fit sound.numbers s) in
        omega arith

    row : (i : ℕ) → (is_kept sh f.slots f.undos f.places (s * sh.rows + i) ≡ true) ⊎ (is_kept sh f.slots f.undos f.places (s * sh.rows + i) ≡ false) → sum_by (λ p. hit_at p i) (range_with_len 0 sh.pages) ≡ cond (is_kept sh f.slots f.undos f.places (s * sh.rows + i)) 1 0
    row i (inl e) =
        let named = named-is_kept sh f.slots f.undos f.places (s * sh.rows + i) e in
        let has = range_has (λ p. hit_at p i) sh.pages named.0 named.1 in
        let one = one-yes (is_row (s * sh.rows + i) (place f named.0) || is_row (s * sh.rows + i) (back_of named.0)) (named-true f.slots f.undos f.places named.0 (s * sh.rows + i) named.2) in
        let same = hit-is (place f named.0) (back_of named.0) (s * sh.rows + i) in
        let most = range_lone (λ p. hit_at p i) sh.pages
        (λ p lt. hit-at-most (place f p) (back_of p) (s * sh.rows + i))
        (λ p r lt low x y. Rows.apart sound.rows p r (s * sh.rows + i) (hit-refers f.slots f.undos f.places p (s * sh.rows + i) x) (hit-refers f.slots f.undos f.places r (s * sh.rows + i) y)) in
        rw e (omega arith)
    row i (inr e) = range-zero (λ p. hit_at p i) sh.pages (λ p lt. none p lt (cases_eq (hit_at p i) 0)) ∙ ap (λ (b : Bool). cond b 1 0) (sym e)
      where
        none : (p : ℕ) → p < sh.pages → (hit_at p i ≡ 0) ⊎ (hit_at p i ≡ 0 → ⊥) → hit_at p i ≡ 0
        none p lt (inl is) = is
        none p lt (inr some) =
            let refers = hit-refers f.slots f.undos f.places p (s * sh.rows + i) (let x = some in omega arith) in
            absurd (let no : true ≡ false = sym (is_kept-named sh f.slots f.undos f.places p (s * sh.rows + i) lt refers) ∙ e in cc)

find-false : (b : ℕ → Bool) (n : ℕ) → ((i : ℕ) × (i < n) × (b i ≡ false)) ⊎ ((i : ℕ) → i < n → 1 ≤ cond (b i) 1 0)
find-false b zero = inr (λ i lt. absurd (omega arith))
find-false b (suc n) = at (find-false b n) (cases_Bool (b n))
  where
    at : (((i : ℕ) × (i < n) × (b i ≡ false)) ⊎ ((i : ℕ) → i < n → 1 ≤ cond (b i) 1 0)) → (b n ≡ true) ⊎ (b n ≡ false) → ((i : ℕ) × (i < suc n) × (b i ≡ false)) ⊎ ((i : ℕ) → i < suc n → 1 ≤ cond (b i) 1 0)
    at (inl (i, lt, is)) here = inl (i, omega arith, is)
    at (inr all) (inr none) = inl (n, omega arith, none)
    at (inr all) (inl some) = inr (λ i lt. by i lt (cases_eq i n))
      where
        by : (i : ℕ) → i < suc n → (i ≡ n) ⊎ (i ≡ n → ⊥) → 1 ≤ cond (b i) 1 0
        by i lt (inl same) = rw same (one-yes (b n) some)
        by i lt (inr other) = all i (let o = other in omega arith)

-- a segment with fewer kept rows than its fill has a dead row
pub dead-row_at : (sh : Shape) (f : Fields) (flash : List (List ℕ)) (s : ℕ) → Sound sh f flash → kept_in sh f.slots f.undos f.places s < get_or f.fills s 0 → (i : ℕ) × (i < get_or f.fills s 0) × (IsKept f (s * sh.rows + i) → ⊥)
dead-row_at sh f flash s sound few = at (find-false kept (get_or f.fills s 0))
  where
    kept : ℕ → Bool
    kept i = is_kept sh f.slots f.undos f.places (s * sh.rows + i)

    at : ((i : ℕ) × (i < get_or f.fills s 0) × (kept i ≡ false)) ⊎ ((i : ℕ) → i < get_or f.fills s 0 → 1 ≤ cond (kept i) 1 0) → (i : ℕ) × (i < get_or f.fills s 0) × (IsKept f (s * sh.rows + i) → ⊥)
    at (inl (i, lt, none)) = (i, lt, λ named. let no : true ≡ false = sym (is_kept-named sh f.slots f.undos f.places named.0 (s * sh.rows + i) (names-page sh f flash named.0 (s * sh.rows + i) sound named.1) named.1) ∙ none in cc)
    at (inr all) =
        let rows = kept_in-rows sh f flash s sound in
        let ones = range-constant 1 (get_or f.fills s 0) in
        let each = range-le (λ i. 1) (λ i. cond (kept i) 1 0) (get_or f.fills s 0) all in
        let longer = range-longer (λ i. cond (kept i) 1 0) (get_or f.fills s 0) sh.rows (Numbers.fills_fit sound.numbers s) in
        let few_rows = few in
        absurd (omega arith)

-- the same by its number on the board
pub dead-row : (sh : Shape) (f : Fields) (flash : List (List ℕ)) (s : ℕ) → Sound sh f flash → kept_in sh f.slots f.undos f.places s < get_or f.fills s 0 → (d : ℕ) × (d / sh.rows ≡ s) × ((p : ℕ) → Names f p d → ⊥)
dead-row sh f flash s sound few =
    let found = dead-row_at sh f flash s sound few in
    let fits = Numbers.fills_fit sound.numbers s in
    let low = found.1 in
    (s * sh.rows + found.0, (row-of sh.rows s found.0 (omega arith)).0, λ p names. found.2 (p, names))
