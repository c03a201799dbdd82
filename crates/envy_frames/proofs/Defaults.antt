-- What a restart makes of the places: the frames that they name, in rising order of page.
use Rattle.std.proofs.Common.{◌≡◌, ◌≢◌, ◌⊎◌, inl, inr, ℕ, zero, suc, add-one, zero-add, ◌+◌, ◌-◌, ◌*◌, ◌<◌, ◌≤◌, List, [], ◌∷◌, ◌++◌, map, length, get_or, Option, None, Some, refl, sym, ◌∙◌, ap, subst, arith}
use Rattle.std.specs.List.{All, AllPairs, Any, filter_map, range_with_len, cons_option}
use Rattle.std.proofs.lemmas.List.{append-nil, length_push, length-map, get_or-map}
use Rattle.std.proofs.lemmas.List.Elements.{All-map, All-push, All-weaker, filter_map-append}
use Rattle.std.proofs.lemmas.List.Quantifiers.{all_pairs_push, Any-push}
use Rattle.std.proofs.lemmas.Bool.{cases_eq}
use Rattle.std.proofs.lemmas.Nat.{div_below, mul-add-lt}
use Rattle.envy_base.specs.declared.shape.Shape.{Shape}
use Rattle.envy_base.specs.declared.fields.Place.{Place}
use Rattle.envy_base.specs.declared.fields.Place.TheVariants.{Absent, Row, Frame}
use Rattle.envy_base.specs.Shape.{IsShape, positions_of}
use Rattle.envy_soundness.specs.Sound.{Places}
use Rattle.envy_frames.specs.declared.held.Held.{Held}
use Rattle.envy_frames.specs.Order.{IsApart, IsOrder}
use Rattle.envy_frames.specs.Agreement.{IsHeld, AreHeld, default_home, held_at, held_by_default}
use Rattle.envy_frames.proofs.Agreeing.{place-in}
use Rattle.envy_frames.proofs.Lists.{AllPairs-last, Any-left, range_more, length-le_apart}

-- the first n pages
abbrev pub held_before : Shape → List (Option Place) → ℕ → List Held
held_before sh places n = filter_map (λ p. held_at sh p (get_or places p None)) (range_with_len 0 n)

pub held_before_more : (sh : Shape) (places : List (Option Place)) (n : ℕ) → held_before sh places (n + 1) ≡ held_before sh places n ++ cons_option (held_at sh n (get_or places n None)) []
held_before_more sh places n =
    let h : ℕ → Option Held = λ p. held_at sh p (get_or places p None) in
    ap (filter_map h) (range_more 0 n ∙ ap (λ (m : ℕ). range_with_len 0 n ++ m ∷ []) (zero-add n)) ∙ filter_map-append h (range_with_len 0 n) (n ∷ [])

length-le_apart-frames : (held : List Held) (n : ℕ) → All (λ h. h.frame < n) held → AllPairs IsApart held → length held ≤ n
length-le_apart-frames held n below apart =
    let same = length-map held frame in
    let few = length-le_apart (map frame held) n differ (All-map (λ x. x < n) frame held below) in
    omega (arith, same, few)
  where
    frame : Held → ℕ
    frame h = h.frame

    some : Held
    some = record { frame = 0; page = 0; home = 0 }

    differ : AllPairs (λ x y. x ≢ y) (map frame held)
    differ i j d less lt same =
        let long = length-map held frame in
        let left : get_or (map frame held) i d ≡ (get_or held i some).frame = get_or-map frame held i some d (omega arith) in
        let right : get_or (map frame held) j d ≡ (get_or held j some).frame = get_or-map frame held j some d (omega arith) in
        apart i j some less (omega arith) (sym left ∙ same ∙ right)

-- the home that a page has by default is a position
pub default_home-fits : (sh : Shape) (p : ℕ) → IsShape sh → p < sh.pages → default_home sh p < positions_of sh
default_home-fits sh p shape lt =
    let n = positions_of sh in
    let some = shape.segments in
    let pages = shape.pages in
    let below : p * n + 0 < n * sh.pages = mul-add-lt p n 0 sh.pages lt (omega arith) in
    div_below (p * n) sh.pages n (omega arith) (omega arith)

-- of the first n pages, those in frames are held, each once, in rising order
pub record AreBefore (sh : Shape) (places : List (Option Place)) (n : ℕ) (held : List Held) : Type 0 where
  pub each : All (IsHeld sh places) held
  pub early : All (λ h. h.page < n) held
  pub apart : AllPairs IsApart held
  pub named : (p k : ℕ) → p < n → get_or places p None ≡ Some (Frame k) → Any (λ h. (h.page ≡ p) × (h.frame ≡ k)) held

before_same : (sh : Shape) (places : List (Option Place)) (n : ℕ) (held : List Held) → ((k : ℕ) → get_or places n None ≢ Some (Frame k)) → AreBefore sh places n held → AreBefore sh places (n + 1) (held ++ [])
before_same sh places n held elsewhere before = rw (append-nil held) (record {
  each = before.each;
  early = All-weaker (λ h. h.page < n) (λ h. h.page < n + 1) (λ h low. omega arith) held before.early;
  apart = before.apart;
  named = λ p k low names. before.named p k (at p k (cases_eq p n) low names) names;
})
  where
    at : (p k : ℕ) → (p ≡ n) ⊎ (p ≡ n → ⊥) → p < n + 1 → get_or places p None ≡ Some (Frame k) → p < n
    at p k (inl same) low names = absurd (elsewhere k (ap (λ (q : ℕ). get_or places q None) (sym same) ∙ names))
    at p k (inr other) low names = omega arith

before_next : (sh : Shape) (places : List (Option Place)) (n : ℕ) → IsShape sh → Places sh places → n < sh.pages → (x : Option Place) → get_or places n None ≡ x → (held : List Held) → AreBefore sh places n held → AreBefore sh places (n + 1) (held ++ cons_option (held_at sh n x) [])
before_next sh places n shape ok lt (Some (Frame k)) is held before = record {
  each = All-push (IsHeld sh places) held new before.each (record { here = is; page = lt; home = default_home-fits sh n shape lt });
  early = All-push (λ h. h.page < n + 1) held new (All-weaker (λ h. h.page < n) (λ h. h.page < n + 1) (λ h low. omega arith) held before.early) (omega arith);
  apart = all_pairs_push IsApart held new before.apart differs;
  named = λ p j low names. at p j (cases_eq p n) low names;
}
  where
    new : Held
    new = record { frame = k; page = n; home = default_home sh n }

    differs : (i : ℕ) (d : Held) → i < length held → (get_or held i d).frame ≢ k
    differs i d less same =
        let mine : get_or places (get_or held i d).page None ≡ Some (Frame k) = IsHeld.here (before.each i d less) ∙ ap (λ (j : ℕ). Some (Frame j)) same in
        let one : (get_or held i d).page ≡ n = ok.apart (get_or held i d).page n k mine is in
        let low = before.early i d less in
        omega arith

    at : (p j : ℕ) → (p ≡ n) ⊎ (p ≡ n → ⊥) → p < n + 1 → get_or places p None ≡ Some (Frame j) → Any (λ h. (h.page ≡ p) × (h.frame ≡ j)) (held ++ new ∷ [])
    at p j (inl same) low names = Any-push (λ h. (h.page ≡ p) × (h.frame ≡ j)) held new (sym same, let frames : Some (Frame k) ≡ Some (Frame j) = sym is ∙ ap (λ (q : ℕ). get_or places q None) (sym same) ∙ names in cc)
    at p j (inr other) low names = Any-left (λ h. (h.page ≡ p) × (h.frame ≡ j)) held (new ∷ []) (before.named p j (omega arith) names)
before_next sh places n shape ok lt (Some (Row q)) is held before = before_same sh places n held (λ k e. let no : Some (Row q) ≡ Some (Frame k) = sym is ∙ e in cc) before
before_next sh places n shape ok lt (Some Absent) is held before = before_same sh places n held (λ k e. let no : Some Absent ≡ Some (Frame k) = sym is ∙ e in cc) before
before_next sh places n shape ok lt None is held before = before_same sh places n held (λ k e. let no : None ≡ Some (Frame k) = sym is ∙ e in cc) before

pub AreBefore-all : (sh : Shape) (places : List (Option Place)) → IsShape sh → Places sh places → (n : ℕ) → n ≤ sh.pages → AreBefore sh places n (held_before sh places n)
AreBefore-all sh places shape ok zero le = record {
  each = λ k d lt. absurd (omega arith);
  early = λ k d lt. absurd (omega arith);
  apart = λ i j d less lt. absurd (omega arith);
  named = λ p k low names. absurd (omega arith);
}
AreBefore-all sh places shape ok (suc n) le =
    let next : AreBefore sh places (n + 1) (held_before sh places n ++ cons_option (held_at sh n (get_or places n None)) []) = before_next sh places n shape ok (omega arith) (get_or places n None) refl (held_before sh places n) (AreBefore-all sh places shape ok n (omega arith)) in
    let grown : AreBefore sh places (n + 1) (held_before sh places (n + 1)) = subst (AreBefore sh places (n + 1)) (sym (held_before_more sh places n)) next in
    subst (λ (m : ℕ). AreBefore sh places m (held_before sh places m)) (add-one n) grown

-- the pages in frames, in order of pages, are those held
pub AreHeld-default : (sh : Shape) (places : List (Option Place)) → IsShape sh → Places sh places → AreHeld sh places (held_by_default sh places)
AreHeld-default sh places shape ok =
    let all = AreBefore-all sh places shape ok sh.pages (omega arith) in
    record { each = all.each; apart = all.apart; named = λ p k names. let lt = place-in places p k names in all.named p k (omega (arith, ok.long)) names }

order_before : (sh : Shape) (places : List (Option Place)) → IsShape sh → Places sh places → (n : ℕ) → n ≤ sh.pages → IsOrder (record { held = held_before sh places n; count = sh.frames })
order_before sh places shape ok n le = record { below = below; apart = all.apart; few = length-le_apart-frames held sh.frames below all.apart }
  where
    held : List Held
    held = held_before sh places n

    all : AreBefore sh places n held
    all = AreBefore-all sh places shape ok n le

    below : All (λ h. h.frame < sh.frames) held
    below i d lt = ok.frames (get_or held i d).page (get_or held i d).frame (IsHeld.here (all.each i d lt))

-- no frame is held twice then
pub order-default : (sh : Shape) (places : List (Option Place)) → IsShape sh → Places sh places → IsOrder (record { held = held_by_default sh places; count = sh.frames })
order-default sh places shape ok = order_before sh places shape ok sh.pages (omega arith)

-- where the next page's place is a frame, there is room for it
pub room_before : (sh : Shape) (places : List (Option Place)) → IsShape sh → Places sh places → (n k : ℕ) → n < sh.pages → get_or places n None ≡ Some (Frame k) → length (held_before sh places n) < sh.frames
room_before sh places shape ok n k lt is =
    let new : Held = record { frame = k; page = n; home = default_home sh n } in
    let more : held_before sh places (n + 1) ≡ held_before sh places n ++ new ∷ [] = held_before_more sh places n ∙ ap (λ (x : Option Place). held_before sh places n ++ cons_option (held_at sh n x) []) is in
    omega (arith, (order_before sh places shape ok (n + 1) (omega arith)).few, ap length more, length_push (held_before sh places n) new)

-- a page that isn't in a frame adds none
pub held_before_same : (sh : Shape) (places : List (Option Place)) (n : ℕ) → ((k : ℕ) → get_or places n None ≢ Some (Frame k)) → held_before sh places (n + 1) ≡ held_before sh places n
held_before_same sh places n elsewhere = held_before_more sh places n ∙ at (get_or places n None) refl
  where
    at : (x : Option Place) → get_or places n None ≡ x → held_before sh places n ++ cons_option (held_at sh n x) [] ≡ held_before sh places n
    at (Some (Frame k)) is = absurd (elsewhere k is)
    at (Some (Row q)) is = append-nil (held_before sh places n)
    at (Some Absent) is = append-nil (held_before sh places n)
    at None is = append-nil (held_before sh places n)

-- one in a frame adds it
pub held_before_next : (sh : Shape) (places : List (Option Place)) (n k : ℕ) → get_or places n None ≡ Some (Frame k) → held_before sh places (n + 1) ≡ held_before sh places n ++ (record { frame = k; page = n; home = default_home sh n }) ∷ []
held_before_next sh places n k is = held_before_more sh places n ∙ ap (λ (x : Option Place). held_before sh places n ++ cons_option (held_at sh n x) []) is

-- no page before has the frame of the next
pub apart_before : (sh : Shape) (places : List (Option Place)) → IsShape sh → Places sh places → (n k : ℕ) → n < sh.pages → get_or places n None ≡ Some (Frame k) → All (λ h. h.frame ≢ k) (held_before sh places n)
apart_before sh places shape ok n k lt is =
    let new : Held = record { frame = k; page = n; home = default_home sh n } in
    let more : held_before sh places (n + 1) ≡ held_before sh places n ++ new ∷ [] = held_before_next sh places n k is in
    AllPairs-last IsApart (held_before sh places n) new (subst (AllPairs IsApart) more (order_before sh places shape ok (n + 1) (omega arith)).apart)
