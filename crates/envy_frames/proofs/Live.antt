-- The live entries of the ring, when a page joins them, a frame's go stale, or stale ones leave.
use Rattle.std.proofs.Common.{◌≡◌, ◌≢◌, ◌⊎◌, inl, inr, ℕ, ◌+◌, ◌<◌, ◌≤◌, Bool, true, false, cond, not, ◌&&◌, List, [], ◌∷◌, ◌++◌, map, length, get_or, set, take, drop, Option, None, Some, refl, sym, ◌∙◌, ap, subst, length-drop, arith}
use Rattle.std.specs.Prelude.{◌==◌, IfSome, IsTrue, slice_get}
use Rattle.std.specs.List.{filter, All}
use Rattle.std.proofs.lemmas.Bool.{cases_eq, eq-eqb, ne_eqb, not-true, both_ways}
use Rattle.std.proofs.lemmas.List.{get_or-map, get_or-set_same, get_or-set_other, length-map, length-set, length_push, map-append}
use Rattle.std.proofs.lemmas.List.Elements.{All-append, All-drop, All-filter, All-push, All-tail, All-take, filter-append, filter_passes}
use Rattle.std.proofs.lemmas.List.Sums.{length-filter, count_by-le-length}
use Rattle.circular_buffer.specs.Buffer.{Buffer, buffer}
use Rattle.envy_frames.specs.declared.entry.Entry.{Entry}
use Rattle.envy_frames.specs.declared.held.Held.{Held}
use Rattle.envy_frames.specs.Entries.{AreHomes, AreStamped, IsLiveFirst, WereKept, held_in, is_kept, is_live, unstamped}
use Rattle.envy_frames.specs.Order.{IsUnheld, is_other}
use Rattle.envy_frames.proofs.Lists.{filter_all, filter-filter}

module _ {X : Type 0} where
  pub filter_within : (p q : X → Bool) (xs : List X) → All (λ x. p x ≡ q x) xs → filter p xs ≡ filter q xs
  filter_within p q [] same = refl
  filter_within p q (x ∷ xs) same =
      let here : p x ≡ q x = same 0 x (omega arith) in
      rw here (ap (λ (r : List X). cond (q x) (x ∷ r) r) (filter_within p q xs (All-tail (λ y. p y ≡ q y) x xs same)))

  pub filter-twice : (p : X → Bool) (xs : List X) → filter p (filter p xs) ≡ filter p xs
  filter-twice p xs = filter_all p (filter p xs) (filter_passes p xs)

  pub map-filter : {Y : Type 0} (f : X → Y) (p : Y → Bool) (xs : List X) → map f (filter (λ x. p (f x)) xs) ≡ filter p (map f xs)
  map-filter {Y = Y} f p [] = refl
  map-filter {Y = Y} f p (x ∷ xs) = at (p (f x)) (map-filter f p xs)
    where
      at : (b : Bool) → map f (filter (λ y. p (f y)) xs) ≡ filter p (map f xs) → map f (cond b (x ∷ filter (λ y. p (f y)) xs) (filter (λ y. p (f y)) xs)) ≡ cond b (f x ∷ filter p (map f xs)) (filter p (map f xs))
      at true same = ap (λ (r : List Y). f x ∷ r) same
      at false same = same

  pub first-of : (P : X → Type 0) (xs : List X) → All P xs → IfSome (slice_get xs 0) P
  first-of P [] all = tt
  first-of P (x ∷ xs) all = all 0 x (omega arith)

  pub first-push : (P : X → Type 0) (xs : List X) (y : X) → IfSome (slice_get xs 0) P → P y → IfSome (slice_get (xs ++ y ∷ []) 0) P
  first-push P [] y first last = last
  first-push P (x ∷ xs) y first last = first

  pub first-is : (P : X → Type 0) (xs : List X) (x : X) → slice_get xs 0 ≡ Some x → P x → IfSome (slice_get xs 0) P
  first-is P xs x is here = subst (λ (o : Option X). IfSome o P) (sym is) here

  pub first-none : (P : X → Type 0) (xs : List X) → slice_get xs 0 ≡ None → IfSome (slice_get xs 0) P
  first-none P xs none = subst (λ (o : Option X). IfSome o P) (sym none) tt

  -- what is left of a ring that has turned so far, and its first
  pub first-turned : (P : X → Type 0) (p : X → Bool) (xs items : List X) (i : ℕ) → All P xs → items ≡ drop i xs ++ filter p (take i xs) → IfSome (slice_get items 0) P
  first-turned P p xs items i all is = first-of P items (subst (All P) (sym is) (All-append P (drop i xs) (filter p (take i xs)) (All-drop P i xs all) (All-filter p P (take i xs) (All-take P i xs all))))

-- what an entry says that a frame holds
abbrev pub held_of : Entry → Held
held_of e = e.held

-- the entries of other frames that are live are those of the others of the live ones
pub kept-held : (stamps : List ℕ) (f : ℕ) (xs : List Entry) → map held_of (filter (is_kept stamps f) xs) ≡ filter (is_other f) (held_in stamps xs)
kept-held stamps f xs =
    ap (map held_of) (sym (filter-filter (λ (e : Entry). is_other f e.held) (is_live stamps) xs)) ∙ map-filter held_of (is_other f) (filter (is_live stamps) xs)

-- where the frame isn't held, those are all that are live
pub kept-unheld : (stamps : List ℕ) (f : ℕ) (xs : List Entry) → IsUnheld (held_in stamps xs) f → filter (is_kept stamps f) xs ≡ filter (is_live stamps) xs
kept-unheld stamps f xs unheld =
    sym (filter-filter (λ (e : Entry). is_other f e.held) (is_live stamps) xs) ∙ filter_all (λ (e : Entry). is_other f e.held) live others
  where
    live : List Entry
    live = filter (is_live stamps) xs

    others : All (λ e. is_other f e.held ≡ true) live
    others k d lt =
        let is : get_or (map held_of live) k (held_of d) ≡ (get_or live k d).held = get_or-map held_of live k d (held_of d) lt in
        ap not (ne_eqb (get_or live k d).held.frame f (λ same. unheld k (held_of d) (omega (arith, length-map live held_of)) (ap (λ (h : Held). h.frame) is ∙ same)))

-- dropping what is stale leaves what is live
pub kept-live : (stamps : List ℕ) (xs kept : List Entry) → WereKept stamps xs kept → filter (is_live stamps) kept ≡ filter (is_live stamps) xs
kept-live stamps xs kept (inl all) = ap (filter (is_live stamps)) all
kept-live stamps xs kept (inr live) = ap (filter (is_live stamps)) live ∙ filter-twice (is_live stamps) xs

kept-each : (P : Entry → Type 0) (stamps : List ℕ) (xs kept : List Entry) → WereKept stamps xs kept → All P xs → All P kept
kept-each P stamps xs kept (inl all) each = subst (All P) (sym all) each
kept-each P stamps xs kept (inr live) each = subst (All P) (sym live) (All-filter (is_live stamps) P xs each)

kept-first : (stamps : List ℕ) (xs kept : List Entry) → WereKept stamps xs kept → IsLiveFirst stamps xs → IsLiveFirst stamps kept
kept-first stamps xs kept (inl all) first = subst (IsLiveFirst stamps) (sym all) first
kept-first stamps xs kept (inr live) first = subst (IsLiveFirst stamps) (sym live) (first-of (λ e. is_live stamps e ≡ true) (filter (is_live stamps) xs) (filter_passes (is_live stamps) xs))

-- a page joins the entries that were kept
module _ (stamps : List ℕ) (xs kept : List Entry) (e : Entry) (were : WereKept stamps xs kept) (is : get_or stamps e.held.frame 0 ≡ e.stamp) where
  joins : is_live stamps e ≡ true
  joins = eq-eqb (get_or stamps e.held.frame 0) e.stamp is

  -- an entry put behind what was kept is held last
  pub held-joined : held_in stamps (kept ++ e ∷ []) ≡ held_in stamps xs ++ e.held ∷ []
  held-joined =
      ap (map held_of) (filter-append (is_live stamps) kept (e ∷ []) ∙ rw (kept-live stamps xs kept were, joins) refl) ∙ map-append held_of (filter (is_live stamps) xs) (e ∷ [])

  -- and the first is still live
  pub first-joined : IsLiveFirst stamps xs → IsLiveFirst stamps (kept ++ e ∷ [])
  first-joined first = first-push (λ x. is_live stamps x ≡ true) kept e (kept-first stamps xs kept were first) joins

  pub AreStamped-joined : (cap : ℕ) → AreStamped (buffer xs cap) stamps → e.held.frame < length stamps → length kept < cap → AreStamped (buffer (kept ++ e ∷ []) cap) stamps
  AreStamped-joined cap were_stamped lt room = record {
    below = All-push (λ x. x.held.frame < length stamps) kept e (kept-each (λ x. x.held.frame < length stamps) stamps xs kept were were_stamped.below) lt;
    past = All-push (λ x. x.stamp ≤ get_or stamps x.held.frame 0) kept e (kept-each (λ x. x.stamp ≤ get_or stamps x.held.frame 0) stamps xs kept were were_stamped.past) (omega (arith, is));
    fits = omega (arith, length_push kept e);
  }

-- the frame's next stamp is no entry's
pub next-kept : (stamps : List ℕ) (f s : ℕ) (e : Entry) → get_or stamps f 0 ≡ s → f < length stamps → e.stamp ≤ get_or stamps e.held.frame 0 → is_live (set stamps f (s + 1)) e ≡ is_kept stamps f e
next-kept stamps f s e is lt past = at (cases_eq e.held.frame f)
  where
    at : (e.held.frame ≡ f) ⊎ (e.held.frame ≡ f → ⊥) → is_live (set stamps f (s + 1)) e ≡ is_kept stamps f e
    at (inl same) =
        let here : get_or (set stamps f (s + 1)) e.held.frame 0 ≡ s + 1 = ap (λ (n : ℕ). get_or (set stamps f (s + 1)) n 0) same ∙ get_or-set_same stamps f (s + 1) 0 lt in
        let old : get_or stamps e.held.frame 0 ≡ s = ap (λ (n : ℕ). get_or stamps n 0) same ∙ is in
        let dead : is_live (set stamps f (s + 1)) e ≡ false = ne_eqb (get_or (set stamps f (s + 1)) e.held.frame 0) e.stamp (λ eq. omega arith) in
        let out : (e.held.frame == f) ≡ true = eq-eqb e.held.frame f same in
        dead ∙ sym (rw out refl)
    at (inr other) =
        let there : get_or (set stamps f (s + 1)) e.held.frame 0 ≡ get_or stamps e.held.frame 0 = get_or-set_other stamps f e.held.frame (s + 1) 0 other in
        let out : (e.held.frame == f) ≡ false = ne_eqb e.held.frame f other in
        rw (there, out) refl

-- a frame whose stamp has moved on is held no more
pub next-held : (entries : Buffer Entry) (stamps : List ℕ) (f s : ℕ) → AreStamped entries stamps → get_or stamps f 0 ≡ s → f < length stamps → held_in (set stamps f (s + 1)) entries.items ≡ filter (is_other f) (held_in stamps entries.items)
next-held entries stamps f s stamped is lt =
    ap (map held_of) (filter_within (is_live (set stamps f (s + 1))) (is_kept stamps f) entries.items (λ k d less. next-kept stamps f s (get_or entries.items k d) is lt (stamped.past k d less))) ∙ kept-held stamps f entries.items

pub AreStamped-next : (entries : Buffer Entry) (stamps : List ℕ) (f s : ℕ) → AreStamped entries stamps → get_or stamps f 0 ≡ s → f < length stamps → AreStamped entries (set stamps f (s + 1))
AreStamped-next entries stamps f s stamped is lt = record {
  below = λ k d less. rw (length-set stamps f (s + 1)) (stamped.below k d less);
  past = λ k d less. at (get_or entries.items k d) (stamped.past k d less) (cases_eq (get_or entries.items k d).held.frame f);
  fits = stamped.fits;
}
  where
    at : (e : Entry) → e.stamp ≤ get_or stamps e.held.frame 0 → (e.held.frame ≡ f) ⊎ (e.held.frame ≡ f → ⊥) → e.stamp ≤ get_or (set stamps f (s + 1)) e.held.frame 0
    at e low (inl same) =
        let here : get_or (set stamps f (s + 1)) e.held.frame 0 ≡ s + 1 = ap (λ (n : ℕ). get_or (set stamps f (s + 1)) n 0) same ∙ get_or-set_same stamps f (s + 1) 0 lt in
        let old : get_or stamps e.held.frame 0 ≡ s = ap (λ (n : ℕ). get_or stamps n 0) same ∙ is in
        omega arith
    at e low (inr other) = rw (get_or-set_other stamps f e.held.frame (s + 1) 0 other) low

-- the frame's stamps begin anew, once no entry is of the frame
module _ (xs : List Entry) (stamps : List ℕ) (f x : ℕ) where
  passed : (k : ℕ) (d : Entry) → k < length (filter (is_kept stamps f) xs) → (is_other f (get_or (filter (is_kept stamps f) xs) k d).held && is_live stamps (get_or (filter (is_kept stamps f) xs) k d)) ≡ true
  passed k d lt = filter_passes (is_kept stamps f) xs k d lt

  both : (a b : Bool) → (a && b) ≡ true → (a ≡ true) × (b ≡ true)
  both true b is = (refl, is)
  both false b is = cc

  stays : (e : Entry) → is_kept stamps f e ≡ true → get_or (set stamps f x) e.held.frame 0 ≡ get_or stamps e.held.frame 0
  stays e kept = get_or-set_other stamps f e.held.frame x 0 (λ same. both_ways (e.held.frame == f) (not-true (e.held.frame == f) (both (is_other f e.held) (is_live stamps e) kept).0) (eq-eqb e.held.frame f same))

  -- so is one whose stamp is any other, where its entries were dropped
  pub anew-held : held_in (set stamps f x) (filter (is_kept stamps f) xs) ≡ filter (is_other f) (held_in stamps xs)
  anew-held =
      ap (map held_of) (filter_all (is_live (set stamps f x)) (filter (is_kept stamps f) xs) live) ∙ kept-held stamps f xs
    where
      live : All (λ e. is_live (set stamps f x) e ≡ true) (filter (is_kept stamps f) xs)
      live k d lt =
          let e = get_or (filter (is_kept stamps f) xs) k d in
          let kept = passed k d lt in
          rw (stays e kept) ((both (is_other f e.held) (is_live stamps e) kept).1)

  pub AreStamped-anew : (cap : ℕ) → AreStamped (buffer xs cap) stamps → AreStamped (buffer (filter (is_kept stamps f) xs) cap) (set stamps f x)
  AreStamped-anew cap stamped = record {
    below = λ k d lt. rw (length-set stamps f x) (All-filter (is_kept stamps f) (λ e. e.held.frame < length stamps) xs stamped.below k d lt);
    past = λ k d lt. rw (stays (get_or (filter (is_kept stamps f) xs) k d) (passed k d lt)) (All-filter (is_kept stamps f) (λ e. e.stamp ≤ get_or stamps e.held.frame 0) xs stamped.past k d lt);
    fits = omega (arith, stamped.fits, length-filter (is_kept stamps f) xs, count_by-le-length (is_kept stamps f) xs);
  }

-- the page of the first entry is the oldest
pub first-held : (stamps : List ℕ) (xs : List Entry) (e : Entry) → IsLiveFirst stamps xs → slice_get xs 0 ≡ Some e → slice_get (held_in stamps xs) 0 ≡ Some e.held
first-held stamps [] e live front = cc
first-held stamps (x ∷ xs) e live front = let same : x ≡ e = cc in rw live (ap (λ (y : Entry). Some y.held) same)

pub none-held : (stamps : List ℕ) (xs : List Entry) → slice_get xs 0 ≡ None → held_in stamps xs ≡ []
none-held stamps [] none = refl
none-held stamps (x ∷ xs) none = cc

-- where each stamp is 0 all pages are held whose entries have no other
pub held-unstamped : (stamps : List ℕ) (hs : List Held) → All (λ h. get_or stamps h.frame 0 ≡ 0) hs → held_in stamps (map unstamped hs) ≡ hs
held-unstamped stamps [] zero = refl
held-unstamped stamps (h ∷ hs) zero =
    let live : is_live stamps (unstamped h) ≡ true = eq-eqb (get_or stamps h.frame 0) 0 (zero 0 h (omega arith)) in
    rw live (ap (λ (r : List Held). h ∷ r) (held-unstamped stamps hs (All-tail (λ x. get_or stamps x.frame 0 ≡ 0) h hs zero)))

-- the home of a frame is noted where it is taken
pub homes-joined : (homes : List ℕ) (held : List Held) (h : Held) → AreHomes homes held → All (λ x. x.frame ≢ h.frame) held → h.frame < length homes → AreHomes (set homes h.frame h.home) (held ++ h ∷ [])
homes-joined homes held h are apart lt =
    All-push (λ x. get_or (set homes h.frame h.home) x.frame 0 ≡ x.home) held h
    (λ k d less. get_or-set_other homes h.frame (get_or held k d).frame h.home 0 (apart k d less) ∙ are k d less)
    (get_or-set_same homes h.frame h.home 0 lt)

-- a stale entry leaves the front
pub held-dropped : (stamps : List ℕ) (xs : List Entry) (e : Entry) → slice_get xs 0 ≡ Some e → (get_or stamps e.held.frame 0 ≡ e.stamp → ⊥) → held_in stamps (drop 1 xs) ≡ held_in stamps xs
held-dropped stamps [] e front stale = refl
held-dropped stamps (x ∷ xs) e front stale =
    let same : x ≡ e = cc in
    let gone : is_live stamps x ≡ false = ne_eqb (get_or stamps x.held.frame 0) x.stamp (λ is. stale (subst (λ (y : Entry). get_or stamps y.held.frame 0 ≡ y.stamp) same is)) in
    rw gone refl

pub AreStamped-dropped : (entries : Buffer Entry) (stamps : List ℕ) → AreStamped entries stamps → AreStamped (buffer (drop 1 entries.items) entries.capacity) stamps
AreStamped-dropped entries stamps s = record {
  below = All-drop (λ e. e.held.frame < length stamps) 1 entries.items s.below;
  past = All-drop (λ e. e.stamp ≤ get_or stamps e.held.frame 0) 1 entries.items s.past;
  fits = let fits = s.fits in omega (arith, length-drop 1 entries.items);
}

pub live-first : (stamps : List ℕ) (xs : List Entry) (e : Entry) → slice_get xs 0 ≡ Some e → get_or stamps e.held.frame 0 ≡ e.stamp → IsLiveFirst stamps xs
live-first stamps xs e front same = first-is (λ x. IsTrue (is_live stamps x)) xs e front (eq-eqb (get_or stamps e.held.frame 0) e.stamp same)
