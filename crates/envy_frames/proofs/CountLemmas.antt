-- How many things of a list pass a test, by a list of their numbers that has each once.
use Rattle.std.proofs.Common.{◌≡◌, ◌≢◌, ℕ, ◌<◌, eqb, Bool, true, false, List, length, get_or, map, Option, None, Some, refl, sym, ◌∙◌, ap, subst, arith}
use Rattle.std.specs.Prelude.{count_by, if◌then◌else◌}
use Rattle.std.specs.List.{filter, list_any, AllPairs, Any, range_with_len}
use Rattle.std.proofs.lemmas.Bool.{eq-eqb, eqb-true}
use Rattle.std.proofs.lemmas.Bool.Decides.{Decides-eqb}
use Rattle.std.proofs.lemmas.Cmp.{nat_eq_equiv}
use Rattle.std.proofs.lemmas.List.{length-map, get_or-map}
use Rattle.std.proofs.lemmas.List.Elements.{All-filter, filter_passes}
use Rattle.std.proofs.lemmas.List.Folds.{Any-from_list_any, list_any-from_Any}
use Rattle.std.proofs.lemmas.List.Kept.{AllPairs-filter}
use Rattle.std.proofs.lemmas.List.Sums.{length-filter}
use Rattle.std.proofs.lemmas.Map.Made.{length-from_same_keys, IsDistinct-from_AllPairs}
use Rattle.envy_base.specs.declared.shape.Shape.{Shape}
use Rattle.envy_base.specs.declared.fields.Place.{Place}
use Rattle.envy_base.specs.declared.fields.Place.TheVariants.{Absent, Row, Frame}
use Rattle.envy_soundness.proofs.RangeSums.{sum_by-indexed}
use Rattle.envy_frames.specs.declared.held.Held.{Held}
use Rattle.envy_frames.specs.Agreement.{AreHeld, IsHeld, is_framed}
use Rattle.envy_frames.proofs.Agreeing.{place-in}
use Rattle.envy_frames.proofs.Lists.{Any-filter, Any-weaker, range_apart, range_below, range_has}

pub same_tests : (a b : Bool) → (a ≡ true → b ≡ true) → (b ≡ true → a ≡ true) → a ≡ b
same_tests true b left right = sym (left refl)
same_tests false true left right = right refl
same_tests false false left right = refl

module _ {X : Type 0} where
  -- the numbers of the things that pass
  abbrev chosen : (X → Bool) → X → List X → List ℕ
  chosen test d items = filter (λ n. test (get_or items n d)) (range_with_len 0 (length items))

  chosen-has : (test : X → Bool) (d : X) (items : List X) (n : ℕ) → n < length items → test (get_or items n d) ≡ true → list_any (eqb n) (chosen test d items) ≡ true
  chosen-has test d items n lt passes =
      list_any-from_Any (eqb n) (chosen test d items)
      (Any-filter (λ x. test (get_or items x d)) (λ x. eqb n x ≡ true) (range_with_len 0 (length items))
      (λ x same. ap (λ (k : ℕ). test (get_or items k d)) (sym (eqb-true n x same)) ∙ passes)
      (Any-weaker (λ x. x ≡ n) (λ x. eqb n x ≡ true) (range_with_len 0 (length items)) (λ x same. eq-eqb n x (sym same)) (range_has (length items) n lt)))

  has-chosen : (test : X → Bool) (d : X) (items : List X) (n : ℕ) → list_any (eqb n) (chosen test d items) ≡ true → (n < length items) × (test (get_or items n d) ≡ true)
  has-chosen test d items n has = at (Any-from_list_any (eqb n) (chosen test d items) has)
    where
      at : Any (λ x. eqb n x ≡ true) (chosen test d items) → (n < length items) × (test (get_or items n d) ≡ true)
      at (i, x, lt, is, same) =
          let number : n ≡ x = eqb-true n x same in
          let low : x < length items = subst (λ (k : ℕ). k < length items) is (All-filter (λ y. test (get_or items y d)) (λ y. y < length items) (range_with_len 0 (length items)) (range_below (length items)) i x lt) in
          let passes : test (get_or items x d) ≡ true = subst (λ (k : ℕ). test (get_or items k d) ≡ true) is (filter_passes (λ y. test (get_or items y d)) (range_with_len 0 (length items)) i x lt) in
          (omega arith, ap (λ (k : ℕ). test (get_or items k d)) number ∙ passes)

  -- a list that has the number of each thing that passes once, and no other
  pub length-numbers : (test : X → Bool) (d : X) (items : List X) (xs : List ℕ) → AllPairs (λ x y. x ≢ y) xs → ((n : ℕ) → Any (λ x. x ≡ n) xs → (n < length items) × (test (get_or items n d) ≡ true)) → ((n : ℕ) → n < length items → test (get_or items n d) ≡ true → Any (λ x. x ≡ n) xs) → length xs ≡ count_by test items
  length-numbers test d items xs apart inside outside =
      length-from_same_keys nat_eq_equiv xs (chosen test d items)
      (IsDistinct-from_AllPairs Decides-eqb xs apart)
      (IsDistinct-from_AllPairs Decides-eqb (chosen test d items) (AllPairs-filter (λ x y. x ≢ y) (λ n. test (get_or items n d)) (range_with_len 0 (length items)) (range_apart 0 (length items))))
      (λ q. same_tests (list_any (eqb q) xs) (list_any (eqb q) (chosen test d items))
      (λ has. let in_xs : Any (λ x. x ≡ q) xs = Any-weaker (λ x. eqb q x ≡ true) (λ x. x ≡ q) xs (λ x same. sym (eqb-true q x same)) (Any-from_list_any (eqb q) xs has) in
      let p = inside q in_xs in chosen-has test d items q p.0 p.1)
      (λ has. let p = has-chosen test d items q has in
      list_any-from_Any (eqb q) xs (Any-weaker (λ x. x ≡ q) (λ x. eqb q x ≡ true) xs (λ x same. eq-eqb q x (sym same)) (outside q p.0 p.1))))
      ∙ length-filter (λ n. test (get_or items n d)) (range_with_len 0 (length items))
      ∙ sym (sum_by-indexed (λ x. if test x then 1 else 0) d items)

framed-is : (x : Option Place) → is_framed x ≡ true → (k : ℕ) × (x ≡ Some (Frame k))
framed-is None e = cc
framed-is (Some Absent) e = cc
framed-is (Some (Row q)) e = cc
framed-is (Some (Frame k)) e = (k, refl)

-- as many frames are held as places are frames
pub held-framed : (sh : Shape) (places : List (Option Place)) (held : List Held) → AreHeld sh places held → length held ≡ count_by is_framed places
held-framed sh places held a =
    sym (length-map held (λ h. h.page)) ∙ length-numbers is_framed None places (map (λ h. h.page) held) apart inside outside
  where
    some : Held
    some = record { frame = 0; page = 0; home = 0 }

    page_at : (i d : ℕ) → i < length (map (λ (h : Held). h.page) held) → get_or (map (λ (h : Held). h.page) held) i d ≡ (get_or held i some).page
    page_at i d lt = let long = length-map held (λ h. h.page) in get_or-map (λ h. h.page) held i some d (omega arith)

    apart : AllPairs (λ x y. x ≢ y) (map (λ (h : Held). h.page) held)
    apart i j d less lt same =
        let long = length-map held (λ h. h.page) in
        let left : IsHeld sh places (get_or held i some) = a.each i some (omega arith) in
        let right : IsHeld sh places (get_or held j some) = a.each j some (omega arith) in
        let pages : (get_or held i some).page ≡ (get_or held j some).page = sym (page_at i d (omega arith)) ∙ same ∙ page_at j d lt in
        a.apart i j some less (omega arith) (let frames : Some (Frame (get_or held i some).frame) ≡ Some (Frame (get_or held j some).frame) = sym left.here ∙ ap (λ (n : ℕ). get_or places n None) pages ∙ right.here in cc)

    inside : (n : ℕ) → Any (λ x. x ≡ n) (map (λ (h : Held). h.page) held) → (n < length places) × (is_framed (get_or places n None) ≡ true)
    inside n (i, x, lt, is, same) =
        let long = length-map held (λ h. h.page) in
        let mine : IsHeld sh places (get_or held i some) = a.each i some (omega arith) in
        let here : get_or places n None ≡ Some (Frame (get_or held i some).frame) = ap (λ (k : ℕ). get_or places k None) (sym same ∙ sym is ∙ page_at i x lt) ∙ mine.here in
        (place-in places n (get_or held i some).frame here, ap is_framed here)

    outside : (n : ℕ) → n < length places → is_framed (get_or places n None) ≡ true → Any (λ x. x ≡ n) (map (λ (h : Held). h.page) held)
    outside n lt framed = let p = framed-is (get_or places n None) framed in at (a.named n p.0 p.1)
      where
        at : {k : ℕ} → Any (λ h. (h.page ≡ n) × (h.frame ≡ k)) held → Any (λ x. x ≡ n) (map (λ (h : Held). h.page) held)
        at (i, h, less, is, both) = (i, n, omega (arith, length-map held (λ (h : Held). h.page)), get_or-map (λ (h : Held). h.page) held i h n less ∙ ap (λ (e : Held). e.page) is ∙ both.0, refl)
