-- The agreement of the held frames with the map, after a change of a place.
use Rattle.std.proofs.Common.{◌≡◌, ◌≢◌, ◌⊎◌, ◌↔◌, inl, inr, ℕ, suc, ◌-◌, ◌<◌, ◌≤◌, not, List, [], ◌∷◌, ◌++◌, length, get_or, drop, set, Option, None, Some, refl, sym, ◌∙◌, ap, subst, arith}
use Rattle.std.specs.Prelude.{slice_get}
use Rattle.std.specs.List.{Any, filter}
use Rattle.std.proofs.lemmas.List.{get_or-set_same, get_or-set_other, get_or_past, set_past}
use Rattle.std.proofs.lemmas.List.Elements.{All-filter, All-push, filter_passes}
use Rattle.std.proofs.lemmas.List.Kept.{AllPairs-filter}
use Rattle.std.proofs.lemmas.List.Quantifiers.{all_pairs_push, Any-push}
use Rattle.std.proofs.lemmas.Option.{slice_get_within, get_or_from_slice_get}
use Rattle.std.proofs.lemmas.Bool.{cases_eq, cases_lt, ne_eqb}
use Rattle.envy_base.specs.declared.shape.Shape.{Shape}
use Rattle.envy_base.specs.declared.fields.Place.{Place}
use Rattle.envy_base.specs.declared.fields.Place.TheVariants.{Frame}
use Rattle.envy_frames.specs.declared.held.Held.{Held}
use Rattle.envy_frames.specs.Order.{IsApart, IsUnheld, is_other}
use Rattle.envy_frames.specs.Agreement.{IsHeld, AreHeld, IsElsewhere}
use Rattle.envy_frames.proofs.Lists.{Any-filter, Any-left, same-one}
use Rattle.envy_frames.proofs.Stacks.{other-frame}
use Rattle.envy_base.specs.Shape.{positions_of}

-- a place that names a frame is one of the list
pub place-in : (places : List (Option Place)) (p k : ℕ) → get_or places p None ≡ Some (Frame k) → p < length places
place-in places p k is = at (cases_lt p (length places))
  where
    at : (p < length places) ⊎ (length places ≤ p) → p < length places
    at (inl lt) = lt
    at (inr past) = absurd (let none : None ≡ Some (Frame k) = sym (get_or_past places p None past) ∙ is in cc)

-- the page of another frame is another
other-page : (sh : Shape) (places : List (Option Place)) (h : Held) (p k : ℕ) → IsHeld sh places h → h.frame ≢ k → get_or places p None ≡ Some (Frame k) → h.page ≢ p
other-page sh places h p k mine other is same =
    other (let frames : Some (Frame h.frame) ≡ Some (Frame k) = sym mine.here ∙ ap (λ (n : ℕ). get_or places n None) same ∙ is in cc)

IsHeld-other : (sh : Shape) (places : List (Option Place)) (h : Held) (p : ℕ) (x : Option Place) → h.page ≢ p → IsHeld sh places h → IsHeld sh (set places p x) h
IsHeld-other sh places h p x other mine = record {
  here = get_or-set_other places p h.page x None other ∙ mine.here;
  page = mine.page;
  home = mine.home;
}

-- two held frames of one number are one
pub same-page : (sh : Shape) (places : List (Option Place)) (held : List Held) (p r k : ℕ) → AreHeld sh places held → get_or places p None ≡ Some (Frame k) → get_or places r None ≡ Some (Frame k) → p ≡ r
same-page sh places held p r k a one two = at (a.named p k one) (a.named r k two)
  where
    at : Any (λ h. (h.page ≡ p) × (h.frame ≡ k)) held → Any (λ h. (h.page ≡ r) × (h.frame ≡ k)) held → p ≡ r
    at (i, h, lt, is, mine) (j, e, less, its, other) =
        let same : h ≡ e = same-one (λ (x : Held). x.frame) held a.apart i j h e lt less is its (mine.1 ∙ sym other.1) in
        sym mine.0 ∙ ap (λ (x : Held). x.page) same ∙ other.0

-- a frame given back, and its page elsewhere
pub AreHeld-given : (sh : Shape) (places : List (Option Place)) (held : List Held) (p k : ℕ) (x : Option Place) → AreHeld sh places held → get_or places p None ≡ Some (Frame k) → IsElsewhere x → AreHeld sh (set places p x) (filter (is_other k) held)
AreHeld-given sh places held p k x a is elsewhere = record {
  each = λ i d lt. let h = get_or (filter (is_other k) held) i d in let mine : IsHeld sh places h = All-filter (is_other k) (IsHeld sh places) held a.each i d lt in
      IsHeld-other sh places h p x (other-page sh places h p k mine (other-frame k h (filter_passes (is_other k) held i d lt)) is) mine;
  apart = AllPairs-filter IsApart (is_other k) held a.apart;
  named = λ r j names. at r j names (cases_eq r p);
}
  where
    at : (r j : ℕ) → get_or (set places p x) r None ≡ Some (Frame j) → (r ≡ p) ⊎ (r ≡ p → ⊥) → Any (λ h. (h.page ≡ r) × (h.frame ≡ j)) (filter (is_other k) held)
    at r j names (inl same) = absurd (elsewhere j (sym (get_or-set_same places p x None (place-in places p k is)) ∙ ap (λ (n : ℕ). get_or (set places p x) n None) (sym same) ∙ names))
    at r j names (inr other) =
        let there : get_or places r None ≡ Some (Frame j) = sym (get_or-set_other places p r x None other) ∙ names in
        Any-filter (is_other k) (λ h. (h.page ≡ r) × (h.frame ≡ j)) held (λ h both. ap not (ne_eqb h.frame k (λ e. other (same-page sh places held r p k a (there ∙ ap (λ (n : ℕ). Some (Frame n)) (sym both.1 ∙ e)) is)))) (a.named r j there)

-- a frame taken for a page that lay elsewhere
pub AreHeld-taken : (sh : Shape) (places : List (Option Place)) (held : List Held) (p k home : ℕ) → AreHeld sh places held → length places ≡ sh.pages → p < sh.pages → home < positions_of sh → IsElsewhere (get_or places p None) → IsUnheld held k → AreHeld sh (set places p (Some (Frame k))) (held ++ (record { frame = k; page = p; home = home }) ∷ [])
AreHeld-taken sh places held p k home a long lt position elsewhere unheld = record {
  each = All-push (IsHeld sh (set places p (Some (Frame k)))) held new
      (λ i d less. let h = get_or held i d in let mine : IsHeld sh places h = a.each i d less in IsHeld-other sh places h p (Some (Frame k)) (λ same. elsewhere h.frame (ap (λ (n : ℕ). get_or places n None) (sym same) ∙ mine.here)) mine)
      (record { here = get_or-set_same places p (Some (Frame k)) None (omega arith); page = lt; home = position });
  apart = all_pairs_push IsApart held new a.apart unheld;
  named = λ r j names. at r j names (cases_eq r p);
}
  where
    new : Held
    new = record { frame = k; page = p; home = home }

    at : (r j : ℕ) → get_or (set places p (Some (Frame k))) r None ≡ Some (Frame j) → (r ≡ p) ⊎ (r ≡ p → ⊥) → Any (λ h. (h.page ≡ r) × (h.frame ≡ j)) (held ++ new ∷ [])
    at r j names (inl same) = Any-push (λ h. (h.page ≡ r) × (h.frame ≡ j)) held new (sym same, let frames : Some (Frame k) ≡ Some (Frame j) = sym (get_or-set_same places p (Some (Frame k)) None (omega arith)) ∙ ap (λ (n : ℕ). get_or (set places p (Some (Frame k))) n None) (sym same) ∙ names in cc)
    at r j names (inr other) = Any-left (λ h. (h.page ≡ r) × (h.frame ≡ j)) held (new ∷ []) (a.named r j (sym (get_or-set_other places p r (Some (Frame k)) None other) ∙ names))

-- a page that moves from one place to another, neither of them a frame
pub AreHeld-elsewhere : (sh : Shape) (places : List (Option Place)) (held : List Held) (p : ℕ) (x : Option Place) → AreHeld sh places held → IsElsewhere (get_or places p None) → IsElsewhere x → AreHeld sh (set places p x) held
AreHeld-elsewhere sh places held p x a before after = record {
  each = λ i d lt. let h = get_or held i d in let mine : IsHeld sh places h = a.each i d lt in IsHeld-other sh places h p x (λ same. before h.frame (ap (λ (n : ℕ). get_or places n None) (sym same) ∙ mine.here)) mine;
  apart = a.apart;
  named = λ r j names. at r j names (cases_eq r p) (cases_lt p (length places));
}
  where
    at : (r j : ℕ) → get_or (set places p x) r None ≡ Some (Frame j) → (r ≡ p) ⊎ (r ≡ p → ⊥) → (p < length places) ⊎ (length places ≤ p) → Any (λ h. (h.page ≡ r) × (h.frame ≡ j)) held
    at r j names (inl same) (inl lt) = absurd (after j (sym (get_or-set_same places p x None lt) ∙ ap (λ (n : ℕ). get_or (set places p x) n None) (sym same) ∙ names))
    at r j names (inl same) (inr past) = a.named r j (ap (λ (ys : List (Option Place)). get_or ys r None) (sym (set_past places p x past)) ∙ names)
    at r j names (inr other) any = a.named r j (sym (get_or-set_other places p r x None other) ∙ names)

-- the oldest is held
pub oldest-held : (sh : Shape) (places : List (Option Place)) (held : List Held) (h : Held) → AreHeld sh places held → slice_get held 0 ≡ Some h → IsHeld sh places h × Any (λ e. e.frame ≡ h.frame) held
oldest-held sh places held h a front =
    let some : 0 < length held = slice_get_within held 0 h front in
    let is : get_or held 0 h ≡ h = get_or_from_slice_get held 0 h h front in
    (subst (IsHeld sh places) is (a.each 0 h some), (0, h, some, is, refl))

-- each place is a frame exactly where it was, the same one
pub AreHeld-stay : (sh : Shape) (places new : List (Option Place)) (held : List Held) → ((p k : ℕ) → (get_or new p None ≡ Some (Frame k)) ↔ (get_or places p None ≡ Some (Frame k))) → AreHeld sh places held → AreHeld sh new held
AreHeld-stay sh places new held stay a = record {
  each = λ i d lt. let mine : IsHeld sh places (get_or held i d) = a.each i d lt in record { here = (stay (get_or held i d).page (get_or held i d).frame).1 mine.here; page = mine.page; home = mine.home };
  apart = a.apart;
  named = λ p k is. a.named p k ((stay p k).0 is);
}

-- a frame that isn't held is no page's
pub unnamed-unheld : (sh : Shape) (places : List (Option Place)) (held : List Held) (k p : ℕ) → AreHeld sh places held → IsUnheld held k → get_or places p None ≢ Some (Frame k)
unnamed-unheld sh places held k p a unheld is = at (a.named p k is)
  where
    at : Any (λ h. (h.page ≡ p) × (h.frame ≡ k)) held → ⊥
    at (i, h, lt, here, both) = unheld i h lt (ap (λ (x : Held). x.frame) here ∙ both.1)

-- a page that was in no frame isn't in one after the oldest held page left
pub elsewhere-dropped : (sh sh2 : Shape) (places new : List (Option Place)) (held rest : List Held) (p : ℕ) → AreHeld sh places held → AreHeld sh2 new rest → rest ≡ drop 1 held → IsElsewhere (get_or places p None) → IsElsewhere (get_or new p None)
elsewhere-dropped sh sh2 places new held rest p a b left elsewhere k is = at held left (λ i d lt. a.each i d lt) (b.named p k is)
  where
    at : (hs : List Held) → rest ≡ drop 1 hs → ((i : ℕ) (d : Held) → i < length hs → IsHeld sh places (get_or hs i d)) → Any (λ h. (h.page ≡ p) × (h.frame ≡ k)) rest → ⊥
    at [] none each (i, h, lt, here, both) = let empty : length rest ≡ 0 = ap length none in omega arith
    at (first ∷ others) tail each (i, h, lt, here, both) =
        let less : i < length others = subst (λ (hs : List Held). i < length hs) tail lt in
        let own = each (suc i) h (omega arith) in
        let e : get_or others i h ≡ h = ap (λ (hs : List Held). get_or hs i h) (sym tail) ∙ here in
        let mine : IsHeld sh places h = subst (IsHeld sh places) e own in
        elsewhere h.frame (ap (λ (n : ℕ). get_or places n None) (sym both.0) ∙ IsHeld.here mine)
