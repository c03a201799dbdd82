-- What a ledger keeps, when a pair joins it or a slot's leave.
use Rattle.std.proofs.Common.{◌≡◌, ◌≢◌, ◌⊎◌, inl, inr, Bool, true, false, ℕ, ◌+◌, ◌-◌, ◌<◌, ◌≤◌, ◌&&◌, List, [], ◌∷◌, ◌++◌, map, length, get_or, set, take, None, refl, sym, ◌∙◌, ap, subst, arith}
use Rattle.std.specs.Prelude.{◌==◌, if◌then◌else◌}
use Rattle.std.specs.List.{AllPairs}
use Rattle.std.proofs.lemmas.Bool.{cases_lt, cases_eq, and_parts, and_from, eq-eqb, ne_eqb, eqb-true}
use Rattle.std.proofs.lemmas.List.{length-set, length-map, length_push, get_or-map, get_or-set_same, get_or-set_other, get_or_append_left, get_or_push, get_or_default, get_or-take, length-take}
use Rattle.envy_txn.specs.declared.entry.Entry.{Entry}
use Rattle.envy_txn.specs.declared.pair.Pair.{Pair}
use Rattle.envy_txn.specs.Entries.{pairs_in, own_of, is_of, end_of, IsNewest, IsChained, ArePlaced, Book, IsLedger}
use Rattle.envy_txn.specs.Owners.{AreApart, owner_of, others_of}
use Rattle.envy_txn.proofs.EntryLemmas.{some_entry, pairs_in-append, pairs_in-ended, own-long, owner_of-free}
use Rattle.envy_txn.proofs.OwnerLemmas.{owner_of-all}

-- what lies below n is as it was
newest-front : (t at n : ℕ) (xs : List Entry) (e : Entry) → n ≤ length xs → IsNewest t at n xs → IsNewest t at n (xs ++ e ∷ [])
newest-front t at n xs e within new = record {
  low = new.low;
  here = λ d some. let low = new.low in ap (is_of t) (get_or_append_left xs (e ∷ []) d (at - 1) (omega arith)) ∙ new.here d some;
  above = λ k d from less. ap (is_of t) (get_or_append_left xs (e ∷ []) d k (omega arith)) ∙ new.above k d from less;
}

-- the pair's own slot, and another's
newest-own : (t : ℕ) (xs : List Entry) (e : Entry) → is_of t e ≡ true → IsNewest t (length xs + 1) (length (xs ++ e ∷ [])) (xs ++ e ∷ [])
newest-own t xs e own =
    let long = length_push xs e in
    record {
      low = omega arith;
      here = λ d some. ap (is_of t) (get_or_push xs e d (length xs + 1 - 1) (omega arith)) ∙ own;
      above = λ k d from less. absurd (omega arith);
    }

newest-other : (t at : ℕ) (xs : List Entry) (e : Entry) → is_of t e ≡ false → IsNewest t at (length xs) xs → IsNewest t at (length (xs ++ e ∷ [])) (xs ++ e ∷ [])
newest-other t at xs e other new =
    let long = length_push xs e in
    let low = new.low in
    let front = newest-front t at (length xs) xs e (omega arith) new in
    record {
      low = omega arith;
      here = front.here;
      above = λ k d from less. past k d from less (cases_lt k (length xs));
    }
  where
    past : (k : ℕ) (d : Entry) → at ≤ k → k < length (xs ++ e ∷ []) → (k < length xs) ⊎ (length xs ≤ k) → is_of t (get_or (xs ++ e ∷ []) k d) ≡ false
    past k d from less (inl before) = ap (is_of t) (get_or_append_left xs (e ∷ []) d k before) ∙ new.above k d from before
    past k d from less (inr after) = let long = length_push xs e in ap (is_of t) (get_or_push xs e d k (omega arith)) ∙ other

-- the entry of a pair that joins
abbrev pub joined : List ℕ → Pair → Entry
joined newest y = record { pair = y; live = true; older = get_or newest y.slot 0 }

chained-joined : (xs : List Entry) (newest : List ℕ) (y : Pair) → y.slot < 256 → IsChained xs newest → IsChained (xs ++ joined newest y ∷ []) (set newest y.slot (length xs + 1))
chained-joined xs newest y lt c = record {
  slots = length-set newest y.slot (length xs + 1) ∙ c.slots;
  heads = λ t low. head t low (cases_eq t y.slot);
  links = λ i d less live. link i d less live (cases_lt i (length xs));
}
  where
    e : Entry
    e = joined newest y

    long : length (xs ++ e ∷ []) ≡ length xs + 1
    long = length_push xs e

    head : (t : ℕ) → t < 256 → (t ≡ y.slot) ⊎ (t ≡ y.slot → ⊥) → IsNewest t (get_or (set newest y.slot (length xs + 1)) t 0) (length (xs ++ e ∷ [])) (xs ++ e ∷ [])
    head t low (inl same) =
        let slots = c.slots in
        let is : get_or (set newest y.slot (length xs + 1)) t 0 ≡ length xs + 1 = ap (λ (s : ℕ). get_or (set newest y.slot (length xs + 1)) s 0) same ∙ get_or-set_same newest y.slot (length xs + 1) 0 (omega arith) in
        subst (λ (a : ℕ). IsNewest t a (length (xs ++ e ∷ [])) (xs ++ e ∷ [])) (sym is) (newest-own t xs e (eq-eqb y.slot t (sym same)))
    head t low (inr other) =
        subst (λ (a : ℕ). IsNewest t a (length (xs ++ e ∷ [])) (xs ++ e ∷ [])) (sym (get_or-set_other newest y.slot t (length xs + 1) 0 other))
        (newest-other t (get_or newest t 0) xs e (ne_eqb y.slot t (λ same. other (sym same))) (c.heads t low))

    link : (i : ℕ) (d : Entry) → i < length (xs ++ e ∷ []) → (get_or (xs ++ e ∷ []) i d).live ≡ true → (i < length xs) ⊎ (length xs ≤ i) → IsNewest (get_or (xs ++ e ∷ []) i d).pair.slot (get_or (xs ++ e ∷ []) i d).older i (xs ++ e ∷ [])
    link i d less live (inl before) =
        let same = get_or_append_left xs (e ∷ []) d i before in
        let was = c.links i d before (sym (ap (λ (x : Entry). x.live) same) ∙ live) in
        subst (λ (x : Entry). IsNewest x.pair.slot x.older i (xs ++ e ∷ [])) (sym same) (newest-front (get_or xs i d).pair.slot (get_or xs i d).older i xs e (omega arith) was)
    link i d less live (inr after) =
        let grown = long in
        let end : length xs ≡ i = omega arith in
        let was = newest-front y.slot (get_or newest y.slot 0) (length xs) xs e (omega arith) (c.heads y.slot lt) in
        subst (λ (x : Entry). IsNewest x.pair.slot x.older i (xs ++ e ∷ [])) (sym (get_or_push xs e d i end))
        (subst (λ (n : ℕ). IsNewest y.slot (get_or newest y.slot 0) n (xs ++ e ∷ [])) end was)

placed-joined : (xs : List Entry) (e : Entry) (places : List ℕ) → owner_of (pairs_in xs) e.pair.page ≡ None → ArePlaced xs places → ArePlaced (xs ++ e ∷ []) (set places e.pair.page (length xs))
placed-joined xs e places free placed i d less live low = at (cases_lt i (length xs))
  where
    at : (i < length xs) ⊎ (length xs ≤ i) → get_or (set places e.pair.page (length xs)) (get_or (xs ++ e ∷ []) i d).pair.page 0 ≡ i
    at (inl before) =
        let same = get_or_append_left xs (e ∷ []) d i before in
        let was_live : (get_or xs i d).live ≡ true = sym (ap (λ (x : Entry). x.live) same) ∙ live in
        let long = length-set places e.pair.page (length xs) in
        let page = ap (λ (x : Entry). x.pair.page) same in
        ap (λ (p : ℕ). get_or (set places e.pair.page (length xs)) p 0) page
        ∙ get_or-set_other places e.pair.page (get_or xs i d).pair.page (length xs) 0 (λ clash. owner_of-free xs e.pair.page free i d before was_live clash)
        ∙ placed i d before was_live (omega arith)
    at (inr after) =
        let grown = length_push xs e in
        let long = length-set places e.pair.page (length xs) in
        let is = get_or_push xs e d i (omega arith) in
        let page = ap (λ (x : Entry). x.pair.page) is in
        let end : length xs ≡ i = omega arith in
        ap (λ (p : ℕ). get_or (set places e.pair.page (length xs)) p 0) page
        ∙ get_or-set_same places e.pair.page (length xs) 0 (omega arith) ∙ end

pub IsLedger-joined : (xs new : List Entry) (newest new_newest places new_places : List ℕ) (count room capacity then_capacity : ℕ) (y : Pair) → IsLedger xs newest places count room capacity
    → length xs < room → y.slot < 256 → owner_of (pairs_in xs) y.page ≡ None → capacity ≤ then_capacity
    → new ≡ xs ++ joined newest y ∷ [] → new_newest ≡ set newest y.slot (length xs + 1) → new_places ≡ set places y.page (length xs) → IsLedger new new_newest new_places (count + 1) room then_capacity
IsLedger-joined xs new newest new_newest places new_places count room capacity then_capacity y l less lt free grown is newest_is places_is = rw (is, newest_is, places_is) (record {
  chained = chained-joined xs newest y lt l.chained;
  placed = placed-joined xs (joined newest y) places free l.placed;
  counted = let counted = l.counted in let long = ap (λ (ps : List Pair). length ps) (pairs_in-append xs (joined newest y ∷ [])) ∙ length_push (pairs_in xs) y in omega arith;
  used = let long = length_push xs (joined newest y) in omega arith;
  fits = let fits = l.fits in omega arith;
  few = l.few;
})

pub book-joined : (xs new : List Entry) (e : Entry) (room : ℕ) (old : Book) → (record { pairs = pairs_in xs; used = length xs; room = room }) ≡ old → e.live ≡ true → new ≡ xs ++ e ∷ []
    → (record { pairs = pairs_in new; used = length new; room = room }) ≡ record old { pairs = old.pairs ++ e.pair ∷ []; used = old.used + 1 }
book-joined xs new e room old view live is =
    ap (λ (ys : List Entry). record { pairs = pairs_in ys; used = length ys; room = room }) is
    ∙ ap (λ (ps : List Pair). record { pairs = ps; used = length (xs ++ e ∷ []); room = room }) (pairs_in-append xs (e ∷ []) ∙ ap (λ (b : Bool). pairs_in xs ++ (if b then e.pair ∷ [] else [])) live)
    ∙ ap (λ (n : ℕ). record { pairs = pairs_in xs ++ e.pair ∷ []; used = n; room = room }) (length_push xs e)
    ∙ ap (λ (b : Book). record b { pairs = b.pairs ++ e.pair ∷ []; used = b.used + 1 }) view

-- an entry that is live once the slot owns no more is as it was, and another slot's
stays : (t : ℕ) (e : Entry) → (end_of t e).live ≡ true → (is_of t e ≡ false) × (end_of t e ≡ e)
stays t e live = at (is_of t e) refl
  where
    at : (b : Bool) → is_of t e ≡ b → (is_of t e ≡ false) × (end_of t e ≡ e)
    at true own = absurd (let clash : false ≡ true = sym (ap (λ (b : Bool). (if b then record e { live = false } else e).live) own) ∙ live in cc)
    at false other = (other, ap (λ (b : Bool). if b then record e { live = false } else e) other)

-- to another slot an entry is what it was
is_of-other : (t s : ℕ) (e : Entry) → s ≢ t → is_of s (end_of t e) ≡ is_of s e
is_of-other t s e other = at (is_of t e) refl
  where
    at : (b : Bool) → is_of t e ≡ b → is_of s (end_of t e) ≡ is_of s e
    at false free = ap (λ (b : Bool). is_of s (if b then record e { live = false } else e)) free
    at true own =
        let slot : e.pair.slot ≡ t = eqb-true e.pair.slot t (and_parts e.live (e.pair.slot == t) own).1 in
        let none : (e.pair.slot == s) ≡ false = ne_eqb e.pair.slot s (λ same. other (sym same ∙ slot)) in
        ap (λ (b : Bool). is_of s (if b then record e { live = false } else e)) own ∙ sym (ap (λ (b : Bool). e.live && b) none ∙ never e.live)
      where
        never : (b : Bool) → (b && false) ≡ false
        never true = refl
        never false = refl

is_of-ended : (t : ℕ) (e : Entry) → is_of t (end_of t e) ≡ false
is_of-ended t e = at (is_of t e) refl
  where
    at : (b : Bool) → is_of t e ≡ b → is_of t (end_of t e) ≡ false
    at true own = ap (λ (b : Bool). is_of t (if b then record e { live = false } else e)) own
    at false free = ap (λ (b : Bool). is_of t (if b then record e { live = false } else e)) free ∙ free

newest-ended : (t s at n : ℕ) (xs : List Entry) → s ≢ t → n ≤ length xs → IsNewest s at n xs → IsNewest s at n (map (end_of t) xs)
newest-ended t s at n xs other within new = record {
  low = new.low;
  here = λ d some. let low = new.low in ap (is_of s) (get_or-map (end_of t) xs (at - 1) d d (omega arith)) ∙ is_of-other t s (get_or xs (at - 1) d) other ∙ new.here d some;
  above = λ k d from less. ap (is_of s) (get_or-map (end_of t) xs k d d (omega arith)) ∙ is_of-other t s (get_or xs k d) other ∙ new.above k d from less;
}

chained-ended : (t : ℕ) (xs : List Entry) (newest : List ℕ) → IsChained xs newest → IsChained (map (end_of t) xs) (set newest t 0)
chained-ended t xs newest c = record {
  slots = length-set newest t 0 ∙ c.slots;
  heads = λ s low. head s low (cases_eq s t);
  links = link;
}
  where
    ys : List Entry
    ys = map (end_of t) xs

    long : length (map (end_of t) xs) ≡ length xs
    long = length-map xs (end_of t)

    head : (s : ℕ) → s < 256 → (s ≡ t) ⊎ (s ≡ t → ⊥) → IsNewest s (get_or (set newest t 0) s 0) (length (map (end_of t) xs)) (map (end_of t) xs)
    head s low (inl same) =
        let slots = c.slots in
        let all = long in
        let is : get_or (set newest t 0) s 0 ≡ 0 = ap (λ (r : ℕ). get_or (set newest t 0) r 0) same ∙ get_or-set_same newest t 0 0 (omega arith) in
        record {
          low = omega arith;
          here = λ d some. absurd (omega arith);
          above = λ k d from less. ap (λ (r : ℕ). is_of r (get_or (map (end_of t) xs) k d)) same ∙ ap (is_of t) (get_or-map (end_of t) xs k d d (omega arith)) ∙ is_of-ended t (get_or xs k d);
        }
    head s low (inr other) =
        let new = newest-ended t s (get_or newest s 0) (length xs) xs other (omega arith) (c.heads s low) in
        subst (λ (a : ℕ). IsNewest s a (length (map (end_of t) xs)) (map (end_of t) xs)) (sym (get_or-set_other newest t s 0 0 other))
        (subst (λ (n : ℕ). IsNewest s (get_or newest s 0) n (map (end_of t) xs)) (sym long) new)

    link : (i : ℕ) (d : Entry) → i < length (map (end_of t) xs) → (get_or (map (end_of t) xs) i d).live ≡ true → IsNewest (get_or (map (end_of t) xs) i d).pair.slot (get_or (map (end_of t) xs) i d).older i (map (end_of t) xs)
    link i d less live =
        let all = long in
        let lt : i < length xs = omega arith in
        let is = get_or-map (end_of t) xs i d d lt in
        let e = get_or xs i d in
        let stay = stays t e (sym (ap (λ (x : Entry). x.live) is) ∙ live) in
        let whole : get_or (map (end_of t) xs) i d ≡ e = is ∙ stay.1 in
        let was_live : e.live ≡ true = sym (ap (λ (x : Entry). x.live) whole) ∙ live in
        let other : e.pair.slot ≢ t = λ same. let clash : false ≡ true = sym stay.0 ∙ and_from e.live (e.pair.slot == t) was_live (eq-eqb e.pair.slot t same) in cc in
        subst (λ (x : Entry). IsNewest x.pair.slot x.older i (map (end_of t) xs)) (sym whole) (newest-ended t e.pair.slot e.older i xs other (omega arith) (c.links i d lt was_live))

placed-ended : (t : ℕ) (xs : List Entry) (places : List ℕ) → ArePlaced xs places → ArePlaced (map (end_of t) xs) places
placed-ended t xs places placed i d less live low =
    let long = length-map xs (end_of t) in
    let lt : i < length xs = omega arith in
    let is = get_or-map (end_of t) xs i d d lt in
    let stay = stays t (get_or xs i d) (sym (ap (λ (x : Entry). x.live) is) ∙ live) in
    let whole : get_or (map (end_of t) xs) i d ≡ get_or xs i d = is ∙ stay.1 in
    let page = ap (λ (x : Entry). x.pair.page) whole in
    ap (λ (p : ℕ). get_or places p 0) page ∙ placed i d lt (sym (ap (λ (x : Entry). x.live) whole) ∙ live) (omega arith)

pub IsLedger-ended : (t : ℕ) (xs new : List Entry) (newest new_newest places : List ℕ) (count ended room capacity : ℕ) → IsLedger xs newest places count room capacity
    → new ≡ map (end_of t) xs → new_newest ≡ set newest t 0 → ended ≡ length (own_of t (pairs_in xs)) → (ended ≤ count) × IsLedger new new_newest places (count - ended) room capacity
IsLedger-ended t xs new newest new_newest places count ended room capacity l is newest_is ended_is =
    let both = own-long t (pairs_in xs) in
    let counted = l.counted in
    let left = ap (λ (ps : List Pair). length ps) (pairs_in-ended t xs) in
    let long = length-map xs (end_of t) in (
      omega arith,
      rw (is, newest_is) (record {
        chained = chained-ended t xs newest l.chained;
        placed = placed-ended t xs places l.placed;
        counted = omega arith;
        used = let used = l.used in omega arith;
        fits = l.fits;
        few = l.few;
      }),
    )

pub book-ended : (t : ℕ) (xs new : List Entry) (room : ℕ) (old : Book) → (record { pairs = pairs_in xs; used = length xs; room = room }) ≡ old → new ≡ map (end_of t) xs
    → (record { pairs = pairs_in new; used = length new; room = room }) ≡ record old { pairs = others_of t old.pairs }
book-ended t xs new room old view is =
    ap (λ (ys : List Entry). record { pairs = pairs_in ys; used = length ys; room = room }) is
    ∙ ap (λ (ps : List Pair). record { pairs = ps; used = length (map (end_of t) xs); room = room }) (pairs_in-ended t xs)
    ∙ ap (λ (n : ℕ). record { pairs = others_of t (pairs_in xs); used = n; room = room }) (length-map xs (end_of t))
    ∙ ap (λ (b : Book). record b { pairs = others_of t b.pairs }) view

pub no-pairs : (pairs : List Pair) → length pairs ≡ 0 → pairs ≡ []
no-pairs [] none = refl
no-pairs (y ∷ rest) none = absurd (omega arith)

-- where no page is owned no entry owns
no-owner : (xs : List Entry) → pairs_in xs ≡ [] → (k : ℕ) (d : Entry) → k < length xs → (get_or xs k d).live ≡ true → ⊥
no-owner xs none k d lt live = owner_of-free xs (get_or xs k d).pair.page (ap (λ (ps : List Pair). owner_of ps (get_or xs k d).pair.page) none) k d lt live refl

chained-cleared : (xs : List Entry) (newest : List ℕ) → pairs_in xs ≡ [] → IsChained xs newest → IsChained [] newest
chained-cleared xs newest none c = record {
  slots = c.slots;
  heads = λ t low. record {
    low = first t low (cases_lt 0 (get_or newest t 0));
    here = λ d some. let front = first t low (cases_lt 0 (get_or newest t 0)) in absurd (omega arith);
    above = λ k d from less. absurd (omega arith);
  };
  links = λ i d less live. absurd (omega arith);
}
  where
    first : (t : ℕ) → t < 256 → (0 < get_or newest t 0) ⊎ (get_or newest t 0 ≤ 0) → get_or newest t 0 ≤ 0
    first t low (inl some) =
        let n = c.heads t low in
        let within = n.low in
        let e = get_or xs (get_or newest t 0 - 1) some_entry in
        absurd (no-owner xs none (get_or newest t 0 - 1) some_entry (omega arith) (and_parts e.live (e.pair.slot == t) (n.here some_entry some)).0)
    first t low (inr front) = front

pub IsLedger-cleared : (xs new : List Entry) (newest places : List ℕ) (count room capacity then_capacity : ℕ) → IsLedger xs newest places count room capacity
    → pairs_in xs ≡ [] → new ≡ [] → capacity ≤ then_capacity → IsLedger new newest places count room then_capacity
IsLedger-cleared xs new newest places count room capacity then_capacity l none is grown = rw is (record {
  chained = chained-cleared xs newest none l.chained;
  placed = λ i d less live low. absurd (omega arith);
  counted = l.counted ∙ ap (λ (ps : List Pair). length ps) none;
  used = omega arith;
  fits = let fits = l.fits in omega arith;
  few = l.few;
})

pub book-cleared : (xs new : List Entry) (room : ℕ) (old : Book) → (record { pairs = pairs_in xs; used = length xs; room = room }) ≡ old → pairs_in xs ≡ [] → new ≡ []
    → (record { pairs = pairs_in new; used = length new; room = room }) ≡ record old { used = 0 }
book-cleared xs new room old view none is =
    ap (λ (ys : List Entry). record { pairs = pairs_in ys; used = length ys; room = room }) is
    ∙ ap (λ (ps : List Pair). record { pairs = ps; used = 0; room = room }) (sym none)
    ∙ ap (λ (b : Book). record b { used = 0 }) view

-- no earlier pair has the page of a pair
pub free-before : (pairs before : List Pair) (i : ℕ) (d : Pair) → AllPairs AreApart pairs → before ≡ take i pairs → i < length pairs → owner_of before (get_or pairs i d).page ≡ None
free-before pairs before i d apart is lt =
    ap (λ (ps : List Pair). owner_of ps (get_or pairs i d).page) is
    ∙ owner_of-all (take i pairs) (get_or pairs i d).page (λ k e less same.
    let short = length-take i pairs in
    let low : k < i = omega arith in
    apart k i e low lt (sym (ap (λ (x : Pair). x.page) (get_or-take i pairs k e low)) ∙ same ∙ ap (λ (x : Pair). x.page) (get_or_default pairs i d e lt)))
