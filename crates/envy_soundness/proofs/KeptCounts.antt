-- How many rows of a segment are kept.
use Rattle.std.proofs.Common.{◌≡◌, ◌≢◌, ◌⊎◌, inl, inr, ℕ, ◌+◌, ◌-◌, ◌*◌, ◌/◌, ◌%◌, ◌<◌, ◌≤◌, Bool, true, false, cond, eqb, List, length, get_or, set, Option, None, Some, refl, sym, ◌∙◌, ap, arith}
use Rattle.std.specs.Prelude.{◌&&◌, not, count_by, sum_by}
use Rattle.std.specs.List.{range_with_len}
use Rattle.std.proofs.lemmas.Bool.{eqb-true, eq-eqb, and_parts, and_from, and_right, cases_Bool, cases_lt, not-true, not_from_true}
use Rattle.std.proofs.lemmas.List.{get_or_past, get_or-set_same, get_or-set_other}
use Rattle.std.proofs.Math.Nat.{div-add-mod}
use Rattle.envy_base.specs.declared.shape.Shape.{Shape}
use Rattle.envy_base.specs.declared.fields.Place.{Place}
use Rattle.envy_base.specs.declared.fields.Place.TheVariants.{Absent, Row, Frame}
use Rattle.envy_base.specs.declared.fields.Slot.{Slot}
use Rattle.envy_base.specs.declared.fields.Undo.{Undo}
use Rattle.envy_soundness.specs.Words.{kept_by}
use Rattle.envy_base.specs.Shape.{IsShape, positions_of}
use Rattle.envy_soundness.specs.Sound.{Slots, Rows, Numbers, Refers, owned_by, slot_named}
use Rattle.envy_soundness.specs.PageRows.{page_kept_in}
use Rattle.envy_soundness.specs.RowKinds.{is_row, is_in, is_shadow_in, kept_in, free_in, dead_in}
use Rattle.envy_soundness.proofs.KeptLemmas.{kept_by-free}
use Rattle.envy_soundness.proofs.SlotLaw.{kept_by-other}
use Rattle.envy_soundness.proofs.RangeSums.{range-le, range-same, range-constant, range-sum, range_has, range-zero, range-other, range_lone, range-swap, sum_by-indexed}

-- a page that is there stands in the row
pub is_row-is : (q : ℕ) (x : Option Place) → is_row q x ≡ true → x ≡ Some (Row q)
is_row-is q None e = cc
is_row-is q (Some Absent) e = cc
is_row-is q (Some (Row r)) e = ap (λ (n : ℕ). Some (Row n)) (eqb-true r q e)
is_row-is q (Some (Frame k)) e = cc

pub is-is_row : (q : ℕ) (x : Option Place) → x ≡ Some (Row q) → is_row q x ≡ true
is-is_row q x e = rw e (eq-eqb q q refl)

-- in a row of the segment
pub is_in-is : (rows s : ℕ) (x : Option Place) → is_in rows s x ≡ true → (q : ℕ) × (x ≡ Some (Row q)) × (q / rows ≡ s)
is_in-is rows s None e = cc
is_in-is rows s (Some Absent) e = cc
is_in-is rows s (Some (Row q)) e = (q, refl, eqb-true (q / rows) s e)
is_in-is rows s (Some (Frame k)) e = cc

pub is-is_in : (rows s q : ℕ) (x : Option Place) → x ≡ Some (Row q) → q / rows ≡ s → is_in rows s x ≡ true
is-is_in rows s q x e at = rw e (eq-eqb (q / rows) s at)

-- in a row of the segment that loads don't read
pub is_shadow_in-is : (rows s : ℕ) (now x : Option Place) → is_shadow_in rows s now x ≡ true → (q : ℕ) × (x ≡ Some (Row q)) × (q / rows ≡ s) × (is_row q now ≡ false)
is_shadow_in-is rows s now None e = cc
is_shadow_in-is rows s now (Some Absent) e = cc
is_shadow_in-is rows s now (Some (Row q)) e = let parts = and_parts (eqb (q / rows) s) (not (is_row q now)) e in (q, refl, eqb-true (q / rows) s parts.0, not-true (is_row q now) parts.1)
is_shadow_in-is rows s now (Some (Frame k)) e = cc

pub is-is_shadow_in : (rows s q : ℕ) (now x : Option Place) → x ≡ Some (Row q) → q / rows ≡ s → is_row q now ≡ false → is_shadow_in rows s now x ≡ true
is-is_shadow_in rows s q now x e at apart = rw (e, eq-eqb (q / rows) s at, apart) refl

pub one-at-most : (b : Bool) → cond b 1 0 ≤ 1
one-at-most true = omega arith
one-at-most false = omega arith

pub one-true : (b : Bool) → 0 < cond b 1 0 → b ≡ true
one-true true lt = refl
one-true false lt = absurd (omega arith)

pub none-false : (b : Bool) → b ≡ false → cond b 1 0 ≤ 0
none-false true e = cc
none-false false e = omega arith

pub one-yes : (b : Bool) → b ≡ true → 1 ≤ cond b 1 0
one-yes true e = omega arith
one-yes false e = cc

-- the kept rows of a segment, page by page
pub kept_in-pages : (sh : Shape) (slots : List (Option Slot)) (undos : List (Option Undo)) (places : List (Option Place)) (s : ℕ) → sum_by (λ p. page_kept_in sh slots (get_or undos p None) (get_or places p None) s) (range_with_len 0 sh.pages) ≡ kept_in sh slots undos places s
kept_in-pages sh slots undos places s =
    range-sum (λ p. cond (is_in sh.rows s (get_or places p None)) 1 0)
    (λ p. cond (is_shadow_in sh.rows s (get_or places p None) (kept_by slots (get_or undos p None) (get_or places p None))) 1 0)
    sh.pages

-- one of a page's kept rows is row r
abbrev pub hit : Option Place → Option Place → ℕ → ℕ
hit now back r = cond (is_row r now) 1 0 + cond (is_row r back && not (is_row r now)) 1 0

pub hit-at-most : (now back : Option Place) (r : ℕ) → hit now back r ≤ 1
hit-at-most now back r = at (is_row r now) refl
  where
    at : (b : Bool) → is_row r now ≡ b → hit now back r ≤ 1
    at true e = let none : (is_row r back && not (is_row r now)) ≡ false = and_right (is_row r back) (not (is_row r now)) (ap not e) in rw (none, e) (omega arith)
    at false e = let most = one-at-most (is_row r back && not (is_row r now)) in let none = none-false (is_row r now) e in omega arith

pub hit-refers : (slots : List (Option Slot)) (undos : List (Option Undo)) (places : List (Option Place)) (p r : ℕ) → 0 < hit (get_or places p None) (kept_by slots (get_or undos p None) (get_or places p None)) r → Refers slots undos places p r
hit-refers slots undos places p r some = at (cases_Bool (is_row r (get_or places p None)))
  where
    at : (is_row r (get_or places p None) ≡ true) ⊎ (is_row r (get_or places p None) ≡ false) → Refers slots undos places p r
    at (inl e) = inl (is_row-is r (get_or places p None) e)
    at (inr e) =
        let back = kept_by slots (get_or undos p None) (get_or places p None) in
        let none = none-false (is_row r (get_or places p None)) e in
        let both = one-true (is_row r back && not (is_row r (get_or places p None))) (omega arith) in
        inr (is_row-is r back (and_parts (is_row r back) (not (is_row r (get_or places p None))) both).0)

-- the rows that one page has
pub hit-page : (sh : Shape) (slots : List (Option Slot)) (undos : List (Option Undo)) (places : List (Option Place)) (fills backs : List ℕ) (s p : ℕ) → Rows sh slots undos places fills backs → page_kept_in sh slots (get_or undos p None) (get_or places p None) s ≤ sum_by (λ i. hit (get_or places p None) (kept_by slots (get_or undos p None) (get_or places p None)) (s * sh.rows + i)) (range_with_len 0 (get_or fills s 0))
hit-page sh slots undos places fills backs s p rows =
    let both = range-sum (λ i. cond (is_row (s * sh.rows + i) now) 1 0) (λ i. cond (is_row (s * sh.rows + i) back && not (is_row (s * sh.rows + i) now)) 1 0) (get_or fills s 0) in
    let one = first (cases_Bool (is_in sh.rows s now)) in
    let two = second (cases_Bool (is_shadow_in sh.rows s now back)) in
    omega arith
  where
    now : Option Place
    now = get_or places p None

    back : Option Place
    back = kept_by slots (get_or undos p None) (get_or places p None)

    index : (q : ℕ) → Refers slots undos places p q → q / sh.rows ≡ s → (q % sh.rows < get_or fills s 0) × (s * sh.rows + q % sh.rows ≡ q)
    index q refers at = (rw (← at) (rows.filled p q refers), rw (← at) (let parts = div-add-mod q sh.rows in omega arith))

    first : (is_in sh.rows s now ≡ true) ⊎ (is_in sh.rows s now ≡ false) → cond (is_in sh.rows s now) 1 0 ≤ sum_by (λ i. cond (is_row (s * sh.rows + i) now) 1 0) (range_with_len 0 (get_or fills s 0))
    first (inl e) = has (is_in-is sh.rows s now e)
      where
        has : (q : ℕ) × (now ≡ Some (Row q)) × (q / sh.rows ≡ s) → cond (is_in sh.rows s now) 1 0 ≤ sum_by (λ i. cond (is_row (s * sh.rows + i) now) 1 0) (range_with_len 0 (get_or fills s 0))
        has (q, is, at) =
            let place = index q (inl is) at in
            let one = range_has (λ i. cond (is_row (s * sh.rows + i) now) 1 0) (get_or fills s 0) (q % sh.rows) place.0 in
            let here = one-yes (is_row (s * sh.rows + q % sh.rows) now) (is-is_row (s * sh.rows + q % sh.rows) now (is ∙ ap (λ (n : ℕ). Some (Row n)) (sym place.1))) in
            let most = one-at-most (is_in sh.rows s now) in
            omega arith
    first (inr e) = let none = none-false (is_in sh.rows s now) e in omega arith

    second : (is_shadow_in sh.rows s now back ≡ true) ⊎ (is_shadow_in sh.rows s now back ≡ false) → cond (is_shadow_in sh.rows s now back) 1 0 ≤ sum_by (λ i. cond (is_row (s * sh.rows + i) back && not (is_row (s * sh.rows + i) now)) 1 0) (range_with_len 0 (get_or fills s 0))
    second (inl e) = has (is_shadow_in-is sh.rows s now back e)
      where
        has : (q : ℕ) × (back ≡ Some (Row q)) × (q / sh.rows ≡ s) × (is_row q now ≡ false) → cond (is_shadow_in sh.rows s now back) 1 0 ≤ sum_by (λ i. cond (is_row (s * sh.rows + i) back && not (is_row (s * sh.rows + i) now)) 1 0) (range_with_len 0 (get_or fills s 0))
        has (q, is, at, apart) =
            let place = index q (inr is) at in
            let one = range_has (λ i. cond (is_row (s * sh.rows + i) back && not (is_row (s * sh.rows + i) now)) 1 0) (get_or fills s 0) (q % sh.rows) place.0 in
            let here = one-yes (is_row (s * sh.rows + q % sh.rows) back && not (is_row (s * sh.rows + q % sh.rows) now)) (rw place.1 (and_from (is_row q back) (not (is_row q now)) (is-is_row q back is) (ap not apart))) in
            let most = one-at-most (is_shadow_in sh.rows s now back) in
            omega arith
    second (inr e) = let none = none-false (is_shadow_in sh.rows s now back) e in omega arith

-- the kept rows of a segment are below its fill, and no two pages have one
pub kept_in-le-fill : (sh : Shape) (slots : List (Option Slot)) (undos : List (Option Undo)) (places : List (Option Place)) (fills backs : List ℕ) (s : ℕ) → Rows sh slots undos places fills backs → kept_in sh slots undos places s ≤ get_or fills s 0
kept_in-le-fill sh slots undos places fills backs s rows =
    let pages = kept_in-pages sh slots undos places s in
    let each = range-le
    (λ p. page_kept_in sh slots (get_or undos p None) (get_or places p None) s)
    (λ p. sum_by (λ i. hit_at p i) (range_with_len 0 (get_or fills s 0)))
    sh.pages (λ p lt. hit-page sh slots undos places fills backs s p rows) in
    let swapped = range-swap hit_at sh.pages (get_or fills s 0) in
    let lone = range-le (λ i. sum_by (λ p. hit_at p i) (range_with_len 0 sh.pages)) (λ i. 1) (get_or fills s 0) (λ i lt. once i) in
    let all = range-constant 1 (get_or fills s 0) in
    omega arith
  where
    hit_at : ℕ → ℕ → ℕ
    hit_at p i = hit (get_or places p None) (kept_by slots (get_or undos p None) (get_or places p None)) (s * sh.rows + i)

    once : (i : ℕ) → sum_by (λ p. hit_at p i) (range_with_len 0 sh.pages) ≤ 1
    once i = range_lone (λ p. hit_at p i) sh.pages
        (λ p lt. hit-at-most (get_or places p None) (kept_by slots (get_or undos p None) (get_or places p None)) (s * sh.rows + i))
        (λ p r lt low one two. rows.apart p r (s * sh.rows + i) (hit-refers slots undos places p (s * sh.rows + i) one) (hit-refers slots undos places r (s * sh.rows + i) two))

-- where a page has no row of the segment
page-none : (sh : Shape) (slots : List (Option Slot)) (undos : List (Option Undo)) (places : List (Option Place)) (p s : ℕ) → ((q : ℕ) → Refers slots undos places p q → q / sh.rows ≡ s → ⊥) → page_kept_in sh slots (get_or undos p None) (get_or places p None) s ≡ 0
page-none sh slots undos places p s none =
    let back = kept_by slots (get_or undos p None) (get_or places p None) in
    let one = first (cases_Bool (is_in sh.rows s (get_or places p None))) in
    let two = second (cases_Bool (is_shadow_in sh.rows s (get_or places p None) back)) in
    omega arith
  where
    now : Option Place
    now = get_or places p None

    back : Option Place
    back = kept_by slots (get_or undos p None) (get_or places p None)

    first : (is_in sh.rows s now ≡ true) ⊎ (is_in sh.rows s now ≡ false) → cond (is_in sh.rows s now) 1 0 ≤ 0
    first (inl e) = let found = is_in-is sh.rows s now e in absurd (none found.0 (inl found.1) found.2)
    first (inr e) = none-false (is_in sh.rows s now) e

    second : (is_shadow_in sh.rows s now back ≡ true) ⊎ (is_shadow_in sh.rows s now back ≡ false) → cond (is_shadow_in sh.rows s now back) 1 0 ≤ 0
    second (inl e) = let found = is_shadow_in-is sh.rows s now back e in absurd (none found.0 (inr found.1) found.2)
    second (inr e) = none-false (is_shadow_in sh.rows s now back) e

-- and where it has one
page-some : (sh : Shape) (slots : List (Option Slot)) (undos : List (Option Undo)) (places : List (Option Place)) (p q s : ℕ) → Refers slots undos places p q → q / sh.rows ≡ s → 1 ≤ page_kept_in sh slots (get_or undos p None) (get_or places p None) s
page-some sh slots undos places p q s (inl e) at = let one = one-yes (is_in sh.rows s (get_or places p None)) (is-is_in sh.rows s q (get_or places p None) e at) in omega arith
page-some sh slots undos places p q s (inr e) at = by_place (cases_Bool (is_row q now))
  where
    now : Option Place
    now = get_or places p None

    back : Option Place
    back = kept_by slots (get_or undos p None) (get_or places p None)

    by_place : (is_row q now ≡ true) ⊎ (is_row q now ≡ false) → 1 ≤ page_kept_in sh slots (get_or undos p None) (get_or places p None) s
    by_place (inl same) = let one = one-yes (is_in sh.rows s now) (is-is_in sh.rows s q now (is_row-is q now same) at) in omega arith
    by_place (inr apart) = let one = one-yes (is_shadow_in sh.rows s now back) (is-is_shadow_in sh.rows s q now back e at apart) in omega arith

-- a page that names a row is one of the pages
pub refers-page : (sh : Shape) (slots : List (Option Slot)) (undos : List (Option Undo)) (places : List (Option Place)) (p q : ℕ) → length places ≤ sh.pages → length undos ≤ sh.pages → Refers slots undos places p q → p < sh.pages
refers-page sh slots undos places p q short_places short_undos refers = at (cases_lt p sh.pages) refers
  where
    at : (p < sh.pages) ⊎ (sh.pages ≤ p) → Refers slots undos places p q → p < sh.pages
    at (inl lt) named = lt
    at (inr past) (inl e) = let none : get_or places p None ≡ None = get_or_past places p None (omega arith) in cc
    at (inr past) (inr e) =
        let none : get_or places p None ≡ None = get_or_past places p None (omega arith) in
        let clear : get_or undos p None ≡ None = get_or_past undos p None (omega arith) in
        let is : kept_by slots (get_or undos p None) (get_or places p None) ≡ None = rw (clear, none) refl in
        cc

-- a segment has no kept row exactly where no page names a row of it
pub kept_in-none : (sh : Shape) (slots : List (Option Slot)) (undos : List (Option Undo)) (places : List (Option Place)) (s : ℕ) → ((p q : ℕ) → Refers slots undos places p q → q / sh.rows ≢ s) → kept_in sh slots undos places s ≡ 0
kept_in-none sh slots undos places s none =
    sym (kept_in-pages sh slots undos places s)
    ∙ range-zero (λ p. page_kept_in sh slots (get_or undos p None) (get_or places p None) s) sh.pages (λ p lt. page-none sh slots undos places p s (none p))

pub none-kept_in : (sh : Shape) (slots : List (Option Slot)) (undos : List (Option Undo)) (places : List (Option Place)) (s : ℕ) → length places ≤ sh.pages → length undos ≤ sh.pages → kept_in sh slots undos places s ≡ 0 → (p q : ℕ) → Refers slots undos places p q → q / sh.rows ≢ s
none-kept_in sh slots undos places s short_places short_undos none p q refers at =
    let some = page-some sh slots undos places p q s refers at in
    let one = range_has (λ r. page_kept_in sh slots (get_or undos r None) (get_or places r None) s) sh.pages p (refers-page sh slots undos places p q short_places short_undos refers) in
    let all = kept_in-pages sh slots undos places s in
    absurd (omega arith)

-- where two maps differ at one page
pub kept_in-page : (sh : Shape) (slots : List (Option Slot)) (undos then_undos : List (Option Undo)) (places then_places : List (Option Place)) (p s : ℕ) → p < sh.pages → ((r : ℕ) → r ≢ p → get_or then_undos r None ≡ get_or undos r None) → ((r : ℕ) → r ≢ p → get_or then_places r None ≡ get_or places r None) → kept_in sh slots then_undos then_places s + page_kept_in sh slots (get_or undos p None) (get_or places p None) s ≡ kept_in sh slots undos places s + page_kept_in sh slots (get_or then_undos p None) (get_or then_places p None) s
kept_in-page sh slots undos then_undos places then_places p s page same_undo same_place =
    let old = kept_in-pages sh slots undos places s in
    let new = kept_in-pages sh slots then_undos then_places s in
    let other = range-other (λ r. page_kept_in sh slots (get_or then_undos r None) (get_or then_places r None) s) (λ r. page_kept_in sh slots (get_or undos r None) (get_or places r None) s) sh.pages p page (λ r lt ne. rw (same_undo r ne, same_place r ne) refl) in
    omega arith

pub kept_in-place : (sh : Shape) (slots : List (Option Slot)) (undos : List (Option Undo)) (places : List (Option Place)) (p s : ℕ) (x : Option Place) → length places ≡ sh.pages → p < sh.pages → kept_in sh slots undos (set places p x) s + page_kept_in sh slots (get_or undos p None) (get_or places p None) s ≡ kept_in sh slots undos places s + page_kept_in sh slots (get_or undos p None) x s
kept_in-place sh slots undos places p s x long page =
    kept_in-page sh slots undos undos places (set places p x) p s page (λ r ne. refl) (λ r ne. get_or-set_other places p r x None ne)
    ∙ ap (λ (y : Option Place). kept_in sh slots undos places s + page_kept_in sh slots (get_or undos p None) y s) (get_or-set_same places p x None (rw long page))

pub kept_in-undo : (sh : Shape) (slots : List (Option Slot)) (undos : List (Option Undo)) (places : List (Option Place)) (p s : ℕ) (u : Option Undo) → length undos ≡ sh.pages → p < sh.pages → kept_in sh slots (set undos p u) places s + page_kept_in sh slots (get_or undos p None) (get_or places p None) s ≡ kept_in sh slots undos places s + page_kept_in sh slots u (get_or places p None) s
kept_in-undo sh slots undos places p s u long page =
    kept_in-page sh slots undos (set undos p u) places places p s page (λ r ne. get_or-set_other undos p r u None ne) (λ r ne. refl)
    ∙ ap (λ (y : Option Undo). kept_in sh slots undos places s + page_kept_in sh slots y (get_or places p None) s) (get_or-set_same undos p u None (rw long page))

-- a slot that no undo names
pub kept_in-slot : (sh : Shape) (slots : List (Option Slot)) (undos : List (Option Undo)) (places : List (Option Place)) (t s : ℕ) (x : Option Slot) → ((p : ℕ) → slot_named (get_or undos p None) ≢ Some t) → kept_in sh (set slots t x) undos places s ≡ kept_in sh slots undos places s
kept_in-slot sh slots undos places t s x unused =
    let old = kept_in-pages sh slots undos places s in
    let new = kept_in-pages sh (set slots t x) undos places s in
    let same = range-same (λ p. page_kept_in sh (set slots t x) (get_or undos p None) (get_or places p None) s) (λ p. page_kept_in sh slots (get_or undos p None) (get_or places p None) s) sh.pages (λ p lt. rw (kept_by-other slots t x (get_or undos p None) (get_or places p None) (unused p)) refl) in
    omega arith

-- a page that no transaction owns has the row that it is in, if it is in one
is_shadow_in-self : (rows s : ℕ) (x : Option Place) → is_shadow_in rows s x x ≡ false
is_shadow_in-self rows s None = refl
is_shadow_in-self rows s (Some Absent) = refl
is_shadow_in-self rows s (Some (Row q)) = and_right (eqb (q / rows) s) (not (eqb q q)) (not_from_true (eqb q q) (eq-eqb q q refl))
is_shadow_in-self rows s (Some (Frame k)) = refl

shadow-free : (rows s : ℕ) (slots : List (Option Slot)) (u : Option Undo) (now : Option Place) → owned_by slots u ≡ false → is_shadow_in rows s now (kept_by slots u now) ≡ false
shadow-free rows s slots u now free = rw (kept_by-free slots u now free) (is_shadow_in-self rows s now)

pub page_kept_in-free : (sh : Shape) (slots : List (Option Slot)) (u : Option Undo) (now : Option Place) (s : ℕ) → owned_by slots u ≡ false → page_kept_in sh slots u now s ≡ cond (is_in sh.rows s now) 1 0
page_kept_in-free sh slots u now s free = let none = none-false (is_shadow_in sh.rows s now (kept_by slots u now)) (shadow-free sh.rows s slots u now free) in omega arith

-- a row is in one segment
is_in-one : (rows s t : ℕ) (x : Option Place) → is_in rows s x ≡ true → is_in rows t x ≡ true → s ≡ t
is_in-one rows s t None e f = cc
is_in-one rows s t (Some Absent) e f = cc
is_in-one rows s t (Some (Row q)) e f = sym (eqb-true (q / rows) s e) ∙ eqb-true (q / rows) t f
is_in-one rows s t (Some (Frame k)) e f = cc

shadow-in : (rows s : ℕ) (now x : Option Place) → is_shadow_in rows s now x ≡ true → is_in rows s x ≡ true
shadow-in rows s now None e = cc
shadow-in rows s now (Some Absent) e = cc
shadow-in rows s now (Some (Row q)) e = (and_parts (eqb (q / rows) s) (not (is_row q now)) e).0
shadow-in rows s now (Some (Frame k)) e = cc

-- a page's kept rows over the positions: one where it is, and one more where it is owned
page-placed : (sh : Shape) (slots : List (Option Slot)) (positions : List ℕ) (u : Option Undo) (now : Option Place) → ((i j : ℕ) → i < positions_of sh → j < positions_of sh → get_or positions i 0 ≡ get_or positions j 0 → i ≡ j) → sum_by (λ k. page_kept_in sh slots u now (get_or positions k 0)) (range_with_len 0 (positions_of sh)) ≤ 1 + cond (owned_by slots u) 1 0
page-placed sh slots positions u now apart =
    let both = range-sum (λ k. cond (is_in sh.rows (get_or positions k 0) now) 1 0) (λ k. cond (is_shadow_in sh.rows (get_or positions k 0) now back) 1 0) (positions_of sh) in
    let one = range_lone (λ k. cond (is_in sh.rows (get_or positions k 0) now) 1 0) (positions_of sh) (λ k lt. one-at-most (is_in sh.rows (get_or positions k 0) now))
    (λ j k low lt e f. apart j k low lt (is_in-one sh.rows (get_or positions j 0) (get_or positions k 0) now (one-true (is_in sh.rows (get_or positions j 0) now) e) (one-true (is_in sh.rows (get_or positions k 0) now) f))) in
    let two = second (cases_Bool (owned_by slots u)) in
    omega arith
  where
    back : Option Place
    back = kept_by slots u now

    second : (owned_by slots u ≡ true) ⊎ (owned_by slots u ≡ false) → sum_by (λ k. cond (is_shadow_in sh.rows (get_or positions k 0) now back) 1 0) (range_with_len 0 (positions_of sh)) ≤ cond (owned_by slots u) 1 0
    second (inl owned) =
        let most = range_lone (λ k. cond (is_shadow_in sh.rows (get_or positions k 0) now back) 1 0) (positions_of sh) (λ k lt. one-at-most (is_shadow_in sh.rows (get_or positions k 0) now back))
        (λ j k low lt e f. apart j k low lt (is_in-one sh.rows (get_or positions j 0) (get_or positions k 0) back
        (shadow-in sh.rows (get_or positions j 0) now back (one-true (is_shadow_in sh.rows (get_or positions j 0) now back) e))
        (shadow-in sh.rows (get_or positions k 0) now back (one-true (is_shadow_in sh.rows (get_or positions k 0) now back) f)))) in
        let yes_one = one-yes (owned_by slots u) owned in
        omega arith
    second (inr free) =
        let none = range-le (λ k. cond (is_shadow_in sh.rows (get_or positions k 0) now back) 1 0) (λ k. 0) (positions_of sh) (λ k lt. none-false (is_shadow_in sh.rows (get_or positions k 0) now back) (shadow-free sh.rows (get_or positions k 0) slots u now free)) in
        let zeros = range-constant 0 (positions_of sh) in
        omega arith

-- the kept rows of all positions
pub kept-placed : (sh : Shape) (slots : List (Option Slot)) (undos : List (Option Undo)) (places : List (Option Place)) (positions : List ℕ) → ((i j : ℕ) → i < positions_of sh → j < positions_of sh → get_or positions i 0 ≡ get_or positions j 0 → i ≡ j) → length undos ≡ sh.pages → count_by (owned_by slots) undos ≤ sh.shadows → sum_by (λ k. kept_in sh slots undos places (get_or positions k 0)) (range_with_len 0 (positions_of sh)) ≤ sh.pages + sh.shadows
kept-placed sh slots undos places positions apart long few =
    let pages = range-same (λ k. kept_in sh slots undos places (get_or positions k 0)) (λ k. sum_by (λ p. share p k) (range_with_len 0 sh.pages)) (positions_of sh) (λ k lt. sym (kept_in-pages sh slots undos places (get_or positions k 0))) in
    let swapped = range-swap share sh.pages (positions_of sh) in
    let each = range-le (λ p. sum_by (λ k. share p k) (range_with_len 0 (positions_of sh))) (λ p. 1 + owned p) sh.pages (λ p lt. page-placed sh slots positions (get_or undos p None) (get_or places p None) apart) in
    let split = range-sum (λ p. 1) owned sh.pages in
    let ones = range-constant 1 sh.pages in
    let counted = sum_by-indexed (λ (u : Option Undo). cond (owned_by slots u) 1 0) None undos in
    let same : sum_by owned (range_with_len 0 (length undos)) ≡ sum_by owned (range_with_len 0 sh.pages) = ap (λ n. sum_by owned (range_with_len 0 n)) long in
    omega arith
  where
    share : ℕ → ℕ → ℕ
    share p k = page_kept_in sh slots (get_or undos p None) (get_or places p None) (get_or positions k 0)

    owned : ℕ → ℕ
    owned p = cond (owned_by slots (get_or undos p None)) 1 0

more-rows : (a b r : ℕ) → b ≡ a + 1 → b * r ≡ a * r + r
more-rows a b r e = rw e (omega arith)

-- enough rows are free or dead at the positions
pub rows-left : (sh : Shape) (slots : List (Option Slot)) (undos : List (Option Undo)) (places : List (Option Place)) (wears fills positions backs origins frames : List ℕ) (version : ℕ) → IsShape sh → Slots sh version slots undos → Rows sh slots undos places fills backs → Numbers sh wears fills positions backs origins frames → sh.rows ≤ sum_by (λ k. free_in sh fills (get_or positions k 0) + dead_in sh slots undos places fills (get_or positions k 0)) (range_with_len 0 (positions_of sh))
rows-left sh slots undos places wears fills positions backs origins frames version shape groups rows numbers =
    let whole = range-sum left kept (positions_of sh) in
    let each = range-same (λ k. left k + kept k) (λ k. sh.rows) (positions_of sh) (λ k lt. one k) in
    let all = range-constant sh.rows (positions_of sh) in
    let few = kept-placed sh slots undos places positions (λ i j low lower. numbers.apart i j (omega (arith, low)) (omega (arith, lower))) groups.undos_long groups.few in
    let share = shape.share in
    let segments = shape.segments in
    let reserves = shape.reserves in
    let more = more-rows (sh.segments - 2 - sh.reserves) (positions_of sh) sh.rows (omega arith) in
    omega arith
  where
    left : ℕ → ℕ
    left k = free_in sh fills (get_or positions k 0) + dead_in sh slots undos places fills (get_or positions k 0)

    kept : ℕ → ℕ
    kept k = kept_in sh slots undos places (get_or positions k 0)

    one : (k : ℕ) → left k + kept k ≡ sh.rows
    one k =
        let filled = kept_in-le-fill sh slots undos places fills backs (get_or positions k 0) rows in
        let fits = numbers.fills_fit (get_or positions k 0) in
        omega arith
