-- Kept rows, counted page by page.
use Rattle.std.proofs.Common.{◌≡◌, ◌≢◌, ◌⊎◌, inl, inr, ℕ, zero, suc, ◌+◌, ◌*◌, ◌/◌, ◌<◌, ◌≤◌, Bool, true, false, eqb, List, length, get_or, set, Option, None, Some, refl, sym, ◌∙◌, ap, subst, arith}
use Rattle.std.specs.Prelude.{◌&&◌, if◌then◌else◌}
use Rattle.std.proofs.lemmas.Bool.{cases_eq, eq-eqb, ne_eqb}
use Rattle.std.proofs.lemmas.List.{get_or-set_same, get_or-set_other, length-set}
use Rattle.std.proofs.Math.Bool.{and-true}
use Rattle.std.proofs.Math.Nat.{div-lt_iff_lt-mul}
use Rattle.envy_base.specs.declared.shape.Shape.{Shape}
use Rattle.envy_base.specs.declared.fields.Place.{Place}
use Rattle.envy_base.specs.declared.fields.Place.TheVariants.{Absent, Row, Frame}
use Rattle.envy_map.specs.Fields.{Fields, place, undo}
use Rattle.envy_soundness.specs.Words.{kept}
use Rattle.envy_soundness.specs.Sound.{Sound, Places}
use Rattle.envy_soundness.specs.RowKinds.{is_row, is_in, is_shadow_in, kept_in}
use Rattle.envy_soundness.proofs.KeptCounts.{kept_in-pages, kept_in-le-fill}
use Rattle.envy_soundness.specs.PageRows.{page_kept_in}
use Rattle.envy_space.specs.Pool.{Pool, HasCounted, IsShadow, kept_in_first, with_kept, noted_kept}
use Rattle.envy_space.proofs.SpaceLemmas.{sum_by-range_more}

-- 1 for yes
abbrev pub bit : Bool → ℕ
bit b = if b then 1 else 0

-- one page more
pub kept_in_first_more : (sh : Shape) (f : Fields) (p s : ℕ) → kept_in_first sh f (p + 1) s ≡ kept_in_first sh f p s + (bit (is_in sh.rows s (place f p)) + bit (is_shadow_in sh.rows s (place f p) (kept f p)))
kept_in_first_more sh f p s = sum_by-range_more (λ r. page_kept_in sh f.slots (undo f r) (place f r) s) 0 p p (omega arith)

-- more pages have more
pub kept_in_first-le : (sh : Shape) (f : Fields) (p n s : ℕ) → p ≤ n → kept_in_first sh f p s ≤ kept_in_first sh f n s
kept_in_first-le sh f p zero s le = let same : p ≡ 0 = omega arith in rw same (omega arith)
kept_in_first-le sh f p (suc n) s le = at (kept_in_first-le sh f p n s) (cases_eq p (suc n))
  where
    at : (p ≤ n → kept_in_first sh f p s ≤ kept_in_first sh f n s) → (p ≡ suc n) ⊎ (p ≡ suc n → ⊥) → kept_in_first sh f p s ≤ kept_in_first sh f (suc n) s
    at rest (inl same) = rw same (omega arith)
    at rest (inr other) =
        let more = kept_in_first_more sh f n s in
        let less = rest (omega arith) in
        subst (λ (m : ℕ). kept_in_first sh f p s ≤ kept_in_first sh f m s) (let e : n + 1 ≡ suc n = omega arith in e) (omega arith)

-- a number that rises by one
pub risen : (xs : List ℕ) (s t : ℕ) → s < length xs → get_or (set xs s (get_or xs s 0 + 1)) t 0 ≡ get_or xs t 0 + bit (eqb s t)
risen xs s t lt = at (cases_eq s t)
  where
    at : (s ≡ t) ⊎ (s ≡ t → ⊥) → get_or (set xs s (get_or xs s 0 + 1)) t 0 ≡ get_or xs t 0 + bit (eqb s t)
    at (inl same) = rw (← same, eq-eqb s s refl) (get_or-set_same xs s (get_or xs s 0 + 1) 0 lt)
    at (inr other) = rw (ne_eqb s t other) (get_or-set_other xs s t (get_or xs s 0 + 1) 0 (λ e. other (sym e)) ∙ omega arith)

-- a row was noted in the pool
abbrev pub Notes : ℕ → Pool → Pool → Type 0
Notes q old new = new ≡ noted_kept q old

-- the pool, which still has its shape and these fills, has counted the first p pages, and the row where page p is
pub record HasPlaced (sh : Shape) (f : Fields) (p : ℕ) (old_fills : List ℕ) (pool : Pool) : Type 0 where
  pub shape : pool.shape ≡ sh
  pub fills : pool.fills ≡ old_fills
  pub long : length pool.kept ≡ sh.segments
  pub counted : (s : ℕ) → s < sh.segments → get_or pool.kept s 0 ≡ kept_in_first sh f p s + bit (is_in sh.rows s (place f p))

in_segment : (sh : Shape) (q : ℕ) (old new : Pool) → old.shape ≡ sh → Notes q old new → new ≡ with_kept (q / sh.rows) (get_or old.kept (q / sh.rows) 0 + 1) old
in_segment sh q old new shape notes = notes ∙ ap (λ (x : Shape). with_kept (q / x.rows) (get_or old.kept (q / x.rows) 0 + 1) old) shape

pub segment_fits : (sh : Shape) (q : ℕ) → q < sh.segments * sh.rows → q / sh.rows < sh.segments
segment_fits sh q lt = (div-lt_iff_lt-mul (some sh.rows lt)).1 lt
  where
    some : (rows : ℕ) → q < sh.segments * rows → 0 < rows
    some zero less = absurd (omega arith)
    some (suc rows) less = omega arith

placed-row : (sh : Shape) (f : Fields) (p q : ℕ) (old new : Pool) → old.shape ≡ sh → HasCounted sh f p old → place f p ≡ Some (Row q) → q < sh.segments * sh.rows → Notes q old new → HasPlaced sh f p old.fills new
placed-row sh f p q old new shape counted here range notes =
    let low = segment_fits sh q range in
    subst (λ (x : Pool). HasPlaced sh f p old.fills x) (sym (in_segment sh q old new shape notes)) (record {
      shape = shape;
      fills = refl;
      long = length-set old.kept (q / sh.rows) _ ∙ counted.long;
      counted = λ s lt.
          let room : q / sh.rows < length old.kept = rw counted.long low in
          rw here (let was = counted.counted s lt in let rise = risen old.kept (q / sh.rows) s room in omega arith);
    })

placed-none : (sh : Shape) (f : Fields) (p : ℕ) (now : Place) (old : Pool) → old.shape ≡ sh → HasCounted sh f p old → place f p ≡ Some now → ((q : ℕ) → now ≡ Row q → ⊥) → HasPlaced sh f p old.fills old
placed-none sh f p now old shape counted here none = record {
  shape = shape;
  fills = refl;
  long = counted.long;
  counted = λ s lt. rw here (at s lt now none);
}
  where
    at : (s : ℕ) → s < sh.segments → (x : Place) → ((q : ℕ) → x ≡ Row q → ⊥) → get_or old.kept s 0 ≡ kept_in_first sh f p s + bit (is_in sh.rows s (Some x))
    at s lt Absent none = let was = counted.counted s lt in omega arith
    at s lt (Row q) none = absurd (none q refl)
    at s lt (Frame k) none = let was = counted.counted s lt in omega arith

-- the row where the page is was noted, if it is in one
pub HasPlaced-page : (sh : Shape) (f : Fields) (flash : List (List ℕ)) (p : ℕ) (now : Place) (old new : Pool) → Sound sh f flash → old.shape ≡ sh → HasCounted sh f p old → place f p ≡ Some now → ((q : ℕ) × (now ≡ Row q) × Notes q old new) ⊎ (((q : ℕ) → now ≡ Row q → ⊥) × (new ≡ old)) → HasPlaced sh f p old.fills new
HasPlaced-page sh f flash p now old new sound shape counted here (inl (q, row, notes)) =
    let at_row : place f p ≡ Some (Row q) = here ∙ ap (λ (x : Place). Some x) row in
    placed-row sh f p q old new shape counted at_row (Places.rows (Sound.places sound) p q at_row) notes
HasPlaced-page sh f flash p now old new sound shape counted here (inr (none, same)) = subst (λ (x : Pool). HasPlaced sh f p old.fills x) (sym same) (placed-none sh f p now old shape counted here none)

-- the shadow, if there is one
not_row : (q : ℕ) (now : Option Place) → now ≢ Some (Row q) → is_row q now ≡ false
not_row q None apart = refl
not_row q (Some Absent) apart = refl
not_row q (Some (Row r)) apart = ne_eqb r q (λ same. apart (ap (λ (n : ℕ). Some (Row n)) same))
not_row q (Some (Frame k)) apart = refl

same_row : (q : ℕ) (now : Option Place) → now ≡ Some (Row q) → is_row q now ≡ true
same_row q now here = rw here (eq-eqb q q refl)

shadow_some : (rows s q : ℕ) (now back : Option Place) → IsShadow now back (Some q) → is_shadow_in rows s now back ≡ eqb (q / rows) s
shadow_some rows s q now back is = rw (is.0, not_row q now is.1) (and-true (eqb (q / rows) s))

and_false : (b : Bool) → (b && false) ≡ false
and_false true = refl
and_false false = refl

shadow_none : (rows s : ℕ) (now back : Option Place) → IsShadow now back None → is_shadow_in rows s now back ≡ false
shadow_none rows s now None is = refl
shadow_none rows s now (Some Absent) is = refl
shadow_none rows s now (Some (Row q)) is = rw (same_row q now (is q refl)) (and_false (eqb (q / rows) s))
shadow_none rows s now (Some (Frame k)) is = refl

pub HasCounted-shadow : (sh : Shape) (f : Fields) (p q : ℕ) (fills : List ℕ) (old new : Pool) → HasPlaced sh f p fills old → IsShadow (place f p) (kept f p) (Some q) → q < sh.segments * sh.rows → Notes q old new → HasCounted sh f (p + 1) new
HasCounted-shadow sh f p q fills old new placed shadow range notes =
    let low = segment_fits sh q range in
    subst (λ (x : Pool). HasCounted sh f (p + 1) x) (sym (in_segment sh q old new placed.shape notes)) (record {
      long = length-set old.kept (q / sh.rows) _ ∙ placed.long;
      counted = λ s lt.
          let room : q / sh.rows < length old.kept = rw placed.long low in
          let was = placed.counted s lt in
          let rise = risen old.kept (q / sh.rows) s room in
          let more = kept_in_first_more sh f p s in
          let one : bit (is_shadow_in sh.rows s (place f p) (kept f p)) ≡ bit (eqb (q / sh.rows) s) = ap bit (shadow_some sh.rows s q (place f p) (kept f p) shadow) in
          omega arith;
    })

pub HasCounted-no_shadow : (sh : Shape) (f : Fields) (p : ℕ) (fills : List ℕ) (old : Pool) → HasPlaced sh f p fills old → IsShadow (place f p) (kept f p) None → HasCounted sh f (p + 1) old
HasCounted-no_shadow sh f p fills old placed shadow = record {
  long = placed.long;
  counted = λ s lt.
      let was = placed.counted s lt in
      let more = kept_in_first_more sh f p s in
      let none : bit (is_shadow_in sh.rows s (place f p) (kept f p)) ≡ 0 = ap bit (shadow_none sh.rows s (place f p) (kept f p) shadow) in
      omega arith;
}

-- there is room to count a row that a page names
pub room-row : (sh : Shape) (f : Fields) (flash : List (List ℕ)) (p q : ℕ) (old : Pool) → Sound sh f flash → old.shape ≡ sh → HasCounted sh f p old → place f p ≡ Some (Row q) → ((s : ℕ) → kept_in_first sh f (p + 1) s ≤ get_or old.fills s 0) → get_or old.kept (q / old.shape.rows) 0 < get_or old.fills (q / old.shape.rows) 0
room-row sh f flash p q old sound shape counted here fits =
    let range = Places.rows (Sound.places sound) p q here in
    let was = counted.counted (q / sh.rows) (segment_fits sh q range) in
    let more = kept_in_first_more sh f p (q / sh.rows) in
    let one : bit (is_in sh.rows (q / sh.rows) (place f p)) ≡ 1 = ap (λ (x : Option Place). bit (is_in sh.rows (q / sh.rows) x)) here ∙ ap bit (eq-eqb (q / sh.rows) (q / sh.rows) refl) in
    let fit = fits (q / sh.rows) in
    subst (λ (x : Shape). get_or old.kept (q / x.rows) 0 < get_or old.fills (q / x.rows) 0) (sym shape) (omega arith)

pub room-shadow : (sh : Shape) (f : Fields) (p q : ℕ) (fills : List ℕ) (old : Pool) → HasPlaced sh f p fills old → IsShadow (place f p) (kept f p) (Some q) → q < sh.segments * sh.rows → ((s : ℕ) → kept_in_first sh f (p + 1) s ≤ get_or fills s 0) → get_or old.kept (q / old.shape.rows) 0 < get_or old.fills (q / old.shape.rows) 0
room-shadow sh f p q fills old placed shadow range fits =
    let was = placed.counted (q / sh.rows) (segment_fits sh q range) in
    let more = kept_in_first_more sh f p (q / sh.rows) in
    let one : bit (is_shadow_in sh.rows (q / sh.rows) (place f p) (kept f p)) ≡ 1 = ap bit (shadow_some sh.rows (q / sh.rows) q (place f p) (kept f p) shadow ∙ eq-eqb (q / sh.rows) (q / sh.rows) refl) in
    let fit : kept_in_first sh f (p + 1) (q / sh.rows) ≤ get_or old.fills (q / sh.rows) 0 = rw placed.fills (fits (q / sh.rows)) in
    subst (λ (x : Shape). get_or old.kept (q / x.rows) 0 < get_or old.fills (q / x.rows) 0) (sym placed.shape) (omega arith)

-- what the first pages name is below the fill of a sound board's segment
pub kept_in_first-le-fill : (sh : Shape) (f : Fields) (flash : List (List ℕ)) (p s : ℕ) → Sound sh f flash → p ≤ sh.pages → kept_in_first sh f p s ≤ get_or f.fills s 0
kept_in_first-le-fill sh f flash p s sound le =
    let some = kept_in_first-le sh f p sh.pages s le in
    let all : kept_in_first sh f sh.pages s ≡ kept_in sh f.slots f.undos f.places s = kept_in-pages sh f.slots f.undos f.places s in
    let fit = kept_in-le-fill sh f.slots f.undos f.places f.fills f.backs s (Sound.rows sound) in
    omega arith
