-- The held frames, when pages go back to where a restart reads them.
use Rattle.std.proofs.Common.{◌≡◌, ◌⊎◌, inl, inr, Bool, true, false, cond, not, ℕ, suc, ◌||◌, ◌&&◌, List, [], ◌∷◌, ◌++◌, get_or, set, Option, None, Some, refl, sym, ◌∙◌, ap, arith}
use Rattle.std.specs.Prelude.{◌==◌}
use Rattle.std.specs.List.{filter, All}
use Rattle.std.proofs.lemmas.Bool.{cases_eq, eq-eqb, ne_eqb}
use Rattle.envy_base.specs.declared.fields.Place.{Place}
use Rattle.envy_base.specs.declared.fields.Place.TheVariants.{Absent, Row, Frame}
use Rattle.envy_base.specs.declared.fields.Undo.{Undo}
use Rattle.envy_base.specs.declared.fields.Undo.TheVariants.{Clear, Blank, Shadow}
use Rattle.envy_base.specs.declared.shape.Shape.{Shape}
use Rattle.envy_map.specs.Fields.{Chart}
use Rattle.envy_soundness.specs.May.{named_by}
use Rattle.envy_frames.specs.Agreement.{AreHeld, IsHeld, IsElsewhere}
use Rattle.envy_frames.specs.declared.held.Held.{Held}
use Rattle.envy_frames.specs.Order.{is_other}
use Rattle.envy_frames.proofs.Agreeing.{AreHeld-given, AreHeld-elsewhere, same-page}
use Rattle.envy_frames.proofs.Lists.{filter_all, filter-filter}
use Rattle.envy_txn.specs.declared.pair.Pair.{Pair}
use Rattle.envy_txn.specs.Turns.{gives, is_among, left_held}
use Rattle.envy_txn.proofs.BackLemmas.{Backs}
use Rattle.envy_txn.proofs.TurnLemmas.{among-push}

module _ {X : Type 0} where
  -- tests that agree on each element keep the same
  pub filter-same : (p q : X → Bool) (xs : List X) → All (λ x. p x ≡ q x) xs → filter p xs ≡ filter q xs
  filter-same p q [] all = refl
  filter-same p q (x ∷ xs) all =
      let here : p x ≡ q x = all 0 x (omega arith) in
      let rest : filter p xs ≡ filter q xs = filter-same p q xs (λ k d lt. all (suc k) d (omega arith)) in
      ap (λ (b : Bool). cond b (x ∷ filter p xs) (filter p xs)) here ∙ ap (λ (ys : List X). cond (q x) (x ∷ ys) ys) rest

abbrev pub is_not_page : ℕ → Held → Bool
is_not_page p h = not (p == h.page)

-- to give back a page's frame is to let the page's item leave
pub left-by_page : (sh : Shape) (places : List (Option Place)) (held : List Held) (p : ℕ) (now : Place) → AreHeld sh places held → get_or places p None ≡ Some now → left_held now held ≡ filter (is_not_page p) held
left-by_page sh places held p (Frame k) a here = filter-same (is_other k) (is_not_page p) held each
  where
    each : All (λ h. is_other k h ≡ is_not_page p h) held
    each i d lt = at (cases_eq (get_or held i d).frame k) (cases_eq p (get_or held i d).page)
      where
        mine : IsHeld sh places (get_or held i d)
        mine = a.each i d lt

        at : ((get_or held i d).frame ≡ k) ⊎ ((get_or held i d).frame ≡ k → ⊥) → (p ≡ (get_or held i d).page) ⊎ (p ≡ (get_or held i d).page → ⊥) → is_other k (get_or held i d) ≡ is_not_page p (get_or held i d)
        at (inl frame) (inl page) = rw (eq-eqb (get_or held i d).frame k frame, eq-eqb p (get_or held i d).page page) refl
        at (inr frame) (inr page) = rw (ne_eqb (get_or held i d).frame k frame, ne_eqb p (get_or held i d).page page) refl
        at (inl frame) (inr page) = absurd (page (same-page sh places held p (get_or held i d).page k a here (IsHeld.here mine ∙ ap (λ (n : ℕ). Some (Frame n)) frame)))
        at (inr frame) (inl page) = absurd (frame (let frames : Some (Frame (get_or held i d).frame) ≡ Some (Frame k) = sym (IsHeld.here mine) ∙ ap (λ (n : ℕ). get_or places n None) (sym page) ∙ here in cc))
left-by_page sh places held p (Row q) a here = sym (filter_all (is_not_page p) held (λ i d lt. ap not (ne_eqb p (get_or held i d).page (λ same. let no : Some (Row q) ≡ Some (Frame (get_or held i d).frame) = sym here ∙ ap (λ (n : ℕ). get_or places n None) same ∙ IsHeld.here (a.each i d lt) in cc))))
left-by_page sh places held p Absent a here = sym (filter_all (is_not_page p) held (λ i d lt. ap not (ne_eqb p (get_or held i d).page (λ same. let no : Some Absent ≡ Some (Frame (get_or held i d).frame) = sym here ∙ ap (λ (n : ℕ). get_or places n None) same ∙ IsHeld.here (a.each i d lt) in cc))))

-- what an undo names is in no frame
back-elsewhere : (u : Undo) (back : Place) → named_by u ≡ Some back → IsElsewhere (Some back)
back-elsewhere Clear back n k is = let e : named_by Clear ≡ Some (Frame k) = n ∙ is in cc
back-elsewhere (Blank y) back n k is = let e : Some Absent ≡ Some (Frame k) = n ∙ is in cc
back-elsewhere (Shadow y q) back n k is = let e : Some (Row q) ≡ Some (Frame k) = n ∙ is in cc

pub held-left : (c : Chart) (p t : ℕ) (u : Undo) (now back : Place) (held : List Held) → Backs c p t u now back → AreHeld c.shape c.fields.places held → AreHeld c.shape (set c.fields.places p (Some back)) (left_held now held)
held-left c p t u (Frame k) back held b a = AreHeld-given c.shape c.fields.places held p k (Some back) a b.here (back-elsewhere u back b.names)
held-left c p t u (Row q) back held b a = AreHeld-elsewhere c.shape c.fields.places held p (Some back) a (λ k is. let no : Some (Row q) ≡ Some (Frame k) = sym b.here ∙ is in cc) (back-elsewhere u back b.names)
held-left c p t u Absent back held b a = AreHeld-elsewhere c.shape c.fields.places held p (Some back) a (λ k is. let no : Some Absent ≡ Some (Frame k) = sym b.here ∙ is in cc) (back-elsewhere u back b.names)

abbrev pub is_kept_by : List Pair → ℕ → Held → Bool
is_kept_by pairs t h = not (is_among pairs t h.page)

-- one pair more
pub held-more : (ps : List Pair) (e : Pair) (t : ℕ) (first now new : List Held) → now ≡ filter (is_kept_by ps t) first → new ≡ filter (λ h. not (gives t h.page e)) now → new ≡ filter (is_kept_by (ps ++ e ∷ []) t) first
held-more ps e t first now new before is =
    is ∙ ap (filter (λ h. not (gives t h.page e))) before ∙ filter-filter (λ h. not (gives t h.page e)) (is_kept_by ps t) first
    ∙ filter-same (λ h. not (gives t h.page e) && is_kept_by ps t h) (is_kept_by (ps ++ e ∷ []) t) first (λ k d lt. at (gives t (get_or first k d).page e) (is_among ps t (get_or first k d).page) ∙ ap not (sym (among-push ps e t (get_or first k d).page)))
  where
    at : (a b : Bool) → (not a && not b) ≡ not (b || a)
    at true true = refl
    at true false = refl
    at false true = refl
    at false false = refl

pub held-none : (t : ℕ) (held : List Held) → held ≡ filter (is_kept_by [] t) held
held-none t held = sym (filter_all (is_kept_by [] t) held (λ k d lt. refl))

pub held-one : (e : Pair) (t : ℕ) (held : List Held) → e.slot ≡ t → filter (is_not_page e.page) held ≡ filter (λ h. not (gives t h.page e)) held
held-one e t held own = filter-same (is_not_page e.page) (λ h. not (gives t h.page e)) held (λ k d lt. at (e.page == (get_or held k d).page))
  where
    slot_is : (e.slot == t) ≡ true
    slot_is = eq-eqb e.slot t own

    at : (b : Bool) → not b ≡ not (b && (e.slot == t))
    at true = ap not (sym slot_is)
    at false = refl
