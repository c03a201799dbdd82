-- The chain of a slot's entries.
use Rattle.std.proofs.Common.{◌≡◌, ◌⊎◌, inl, inr, Bool, true, false, ℕ, ◌+◌, ◌-◌, ◌<◌, ◌≤◌, List, [], ◌∷◌, ◌++◌, map, length, get_or, set, take, reverse, refl, sym, ◌∙◌, ap, subst, arith}
use Rattle.std.specs.Prelude.{◌==◌, if◌then◌else◌}
use Rattle.std.proofs.lemmas.Bool.{cases_lt, cases_eq, and_parts, eqb-true}
use Rattle.std.proofs.lemmas.List.{take_more, take_all, length-append, length-reverse, length-set, length-map, get_or-map, get_or-set_same, get_or-set_other, get_or_default, same_lists}
use Rattle.envy_txn.specs.declared.entry.Entry.{Entry}
use Rattle.envy_txn.specs.declared.pair.Pair.{Pair}
use Rattle.envy_txn.specs.Entries.{pairs_in, own_of, is_of, end_of, IsNewest, IsChained}
use Rattle.envy_txn.proofs.EntryLemmas.{some_entry, own-long, own-push, own-skip}

-- the walk over a slot's chain has come to place `at`
pub record Walks (t at : ℕ) (xs : List Entry) : Type 0 where
  pub within : at ≤ length xs
  pub here : (d : Entry) → 0 < at → is_of t (get_or xs (at - 1) d) ≡ true

pub Walks-first : (t : ℕ) (xs : List Entry) (newest : List ℕ) → IsChained xs newest → t < 256 → Walks t (get_or newest t 0) xs
Walks-first t xs newest c lt = let n = c.heads t lt in record { within = n.low; here = n.here }

pub own-first : (t : ℕ) (xs : List Entry) (newest : List ℕ) → IsChained xs newest → t < 256 → own_of t (pairs_in (take (get_or newest t 0) xs)) ≡ own_of t (pairs_in xs)
own-first t xs newest c lt =
    let n = c.heads t lt in
    sym (own-skip t (get_or newest t 0) (length xs) xs n.low (omega arith) n.above) ∙ ap (λ (ys : List Entry). own_of t (pairs_in ys)) (take_all (length xs) xs (omega arith))

-- the entry before
pub record Turns (t at : ℕ) (xs : List Entry) (e : Entry) : Type 0 where
  pub less : e.older < at
  pub walks : Walks t e.older xs
  pub own : is_of t e ≡ true
  pub pairs : own_of t (pairs_in (take at xs)) ≡ own_of t (pairs_in (take e.older xs)) ++ e.pair ∷ []
  pub between : (k : ℕ) (d : Entry) → e.older ≤ k → k < at - 1 → is_of t (get_or xs k d) ≡ false

own-slot : (t : ℕ) (e : Entry) → is_of t e ≡ true → (e.live ≡ true) × (e.pair.slot ≡ t)
own-slot t e own = let parts = and_parts e.live (e.pair.slot == t) own in (parts.0, eqb-true e.pair.slot t parts.1)

pub Turns-at : (t at : ℕ) (xs : List Entry) (newest : List ℕ) (d : Entry) → IsChained xs newest → Walks t at xs → 0 < at → Turns t at xs (get_or xs (at - 1) d)
Turns-at t at xs newest d c w some =
    let e = get_or xs (at - 1) d in
    let within = w.within in
    let own = w.here d some in
    let slot = own-slot t e own in
    let link : IsNewest t e.older (at - 1) xs = subst (λ (s : ℕ). IsNewest s e.older (at - 1) xs) slot.1 (c.links (at - 1) d (omega arith) slot.0) in
    let low = link.low in
    let back : at ≡ at - 1 + 1 = omega arith in
    record {
      less = omega arith;
      walks = record { within = omega arith; here = link.here };
      own = own;
      pairs = ap (λ (k : ℕ). own_of t (pairs_in (take k xs))) back ∙ ap (λ (ys : List Entry). own_of t (pairs_in ys)) (take_more xs (at - 1) d (omega arith)) ∙ own-push t (take (at - 1) xs) e
          ∙ ap (λ (b : Bool). own_of t (pairs_in (take (at - 1) xs)) ++ (if b then e.pair ∷ [] else [])) own
          ∙ ap (λ (ps : List Pair). ps ++ e.pair ∷ []) (own-skip t e.older (at - 1) xs low (omega arith) link.above);
      between = link.above;
    }

-- from place `at` on the slot's entries own no more
pub record EndedFrom (t at : ℕ) (xs ys : List Entry) : Type 0 where
  pub long : length ys ≡ length xs
  pub front : (k : ℕ) (d : Entry) → k < at → get_or ys k d ≡ get_or xs k d
  pub back : (k : ℕ) (d : Entry) → at ≤ k → k < length xs → get_or ys k d ≡ end_of t (get_or xs k d)

pub EndedFrom-none : (t at : ℕ) (xs : List Entry) (newest : List ℕ) → IsChained xs newest → t < 256 → at ≡ get_or newest t 0 → EndedFrom t at xs xs
EndedFrom-none t at xs newest c lt is = record {
  long = refl;
  front = λ k d less. refl;
  back = λ k d from less. let n = c.heads t lt in sym (ap (λ (b : Bool). if b then record (get_or xs k d) { live = false } else get_or xs k d) (n.above k d (omega arith) less));
}

pub EndedFrom-more : (t at : ℕ) (xs ys : List Entry) (e : Entry) → (here : get_or xs (at - 1) e ≡ e) → 0 < at → at ≤ length xs → Turns t at xs e → EndedFrom t at xs ys → EndedFrom t e.older xs (set ys (at - 1) (record e { live = false }))
EndedFrom-more t at xs ys e here some within turn r = record {
  long = length-set ys (at - 1) dead ∙ r.long;
  front = λ k d less. let low = turn.less in get_or-set_other ys (at - 1) k dead d (λ same. omega arith) ∙ r.front k d (omega arith);
  back = λ k d from less. at_place k d from less (cases_eq k (at - 1)) (cases_lt k at);
}
  where
    dead : Entry
    dead = record e { live = false }

    at_place : (k : ℕ) (d : Entry) → e.older ≤ k → k < length xs → (k ≡ at - 1) ⊎ (k ≡ at - 1 → ⊥) → (k < at) ⊎ (at ≤ k) → get_or (set ys (at - 1) dead) k d ≡ end_of t (get_or xs k d)
    at_place k d from less (inl same) any =
        let long = r.long in
        let is : get_or xs k d ≡ e = ap (λ (n : ℕ). get_or xs n d) same ∙ get_or_default xs (at - 1) d e (omega arith) ∙ here in
        ap (λ (n : ℕ). get_or (set ys (at - 1) dead) n d) same ∙ get_or-set_same ys (at - 1) dead d (omega arith)
        ∙ sym (ap (end_of t) is ∙ ap (λ (b : Bool). if b then dead else e) turn.own)
    at_place k d from less (inr other) (inl below) =
        get_or-set_other ys (at - 1) k dead d other ∙ r.front k d below
        ∙ sym (ap (λ (b : Bool). if b then record (get_or xs k d) { live = false } else get_or xs k d) (turn.between k d from (omega arith)))
    at_place k d from less (inr other) (inr above) = get_or-set_other ys (at - 1) k dead d other ∙ r.back k d above less

-- the entry that is read stands as it did
pub EndedFrom-turn : (t at : ℕ) (xs ys : List Entry) (newest : List ℕ) (d : Entry) → IsChained xs newest → Walks t at xs → 0 < at → EndedFrom t at xs ys → Turns t at xs (get_or ys (at - 1) d) × EndedFrom t (get_or ys (at - 1) d).older xs (set ys (at - 1) (record (get_or ys (at - 1) d) { live = false }))
EndedFrom-turn t at xs ys newest d c w some r =
    let e = get_or ys (at - 1) d in
    let within = w.within in
    let same : e ≡ get_or xs (at - 1) d = r.front (at - 1) d (omega arith) in
    let turn : Turns t at xs e = subst (λ (x : Entry). Turns t at xs x) (sym same) (Turns-at t at xs newest d c w some) in
    (turn, EndedFrom-more t at xs ys e (get_or_default xs (at - 1) e d (omega arith) ∙ sym same) some within turn r)

pub EndedFrom-all : (t at : ℕ) (xs ys : List Entry) → at ≡ 0 → EndedFrom t at xs ys → ys ≡ map (end_of t) xs
EndedFrom-all t at xs ys end r =
    same_lists ys (map (end_of t) xs) (r.long ∙ sym (length-map xs (end_of t)))
    (λ k d lt. let long = r.long in r.back k d (omega arith) (omega arith) ∙ sym (get_or-map (end_of t) xs k d d (omega arith)))

-- before its last turn a walk has listed fewer pairs than there are
pub listed-few : (t at : ℕ) (xs : List Entry) (newest : List ℕ) (listed : List Pair) → IsChained xs newest → Walks t at xs → 0 < at
    → own_of t (pairs_in (take at xs)) ++ reverse listed ≡ own_of t (pairs_in xs) → length listed < length (pairs_in xs)
listed-few t at xs newest listed c w some all =
    let turn = Turns-at t at xs newest some_entry c w some in
    let e = get_or xs (at - 1) some_entry in
    let front = own_of t (pairs_in (take e.older xs)) in
    let long = sym (ap (λ (ps : List Pair). length ps) all) ∙ length-append (own_of t (pairs_in (take at xs))) (reverse listed) in
    let one = ap (λ (ps : List Pair). length ps) turn.pairs ∙ length-append front (e.pair ∷ []) in
    let back = length-reverse listed in
    let fewer = own-long t (pairs_in xs) in
    omega arith
