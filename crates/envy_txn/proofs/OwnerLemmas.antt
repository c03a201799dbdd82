-- Who owns a page, by a list of pairs, and how many pages are owned.
use Rattle.std.proofs.Common.{◌≡◌, ◌≢◌, ◌⊎◌, inl, inr, ℕ, zero, suc, ◌<◌, ◌≤◌, Bool, true, false, List, [], ◌∷◌, ◌++◌, map, length, get_or, set, Option, None, Some, refl, sym, ◌∙◌, ap, subst, arith}
use Rattle.std.specs.Prelude.{◌==◌, ◌↔◌, IsNone, count_by, if◌then◌else◌}
use Rattle.std.specs.List.{All, AllPairs, Any}
use Rattle.std.specs.Option.{is_some, option_or}
use Rattle.std.proofs.lemmas.Bool.{cases_eq, cases_lt, eq-eqb, ne_eqb}
use Rattle.std.proofs.lemmas.List.{get_or-map, get_or-set_same, get_or-set_other, length-map, get_or_past}
use Rattle.envy_base.specs.declared.fields.Slot.{Slot}
use Rattle.envy_base.specs.declared.fields.Undo.{Undo}
use Rattle.envy_base.specs.declared.fields.Undo.TheVariants.{Clear, Blank, Shadow}
use Rattle.envy_base.specs.declared.fields.Slot.TheVariants.{Active}
use Rattle.envy_base.specs.declared.shape.Shape.{Shape}
use Rattle.envy_map.specs.Fields.{Fields}
use Rattle.envy_soundness.specs.May.{MayUndo, IsOpen}
use Rattle.envy_soundness.specs.Sound.{owned_by, slot_named}
use Rattle.envy_soundness.proofs.KeptLemmas.{owned_by-active}
use Rattle.envy_frames.proofs.CountLemmas.{length-numbers}
use Rattle.envy_frames.proofs.Lists.{AllPairs-head, AllPairs-tail}
use Rattle.envy_txn.specs.declared.pair.Pair.{Pair}
use Rattle.envy_txn.specs.Owners.{AreApart, AreOwned, owner_of, owner_in, others_of, without}

pub owner_of-all : (pairs : List Pair) (p : ℕ) → All (λ e. e.page ≢ p) pairs → owner_of pairs p ≡ None
owner_of-all [] p all = refl
owner_of-all (e ∷ rest) p all =
    let other : (e.page == p) ≡ false = ne_eqb e.page p (all 0 e (omega arith)) in
    rw other (owner_of-all rest p (λ k d lt. all (suc k) d (omega arith)))

pub owner_of-none : (pairs : List Pair) (p : ℕ) → owner_of pairs p ≡ None → All (λ e. e.page ≢ p) pairs
owner_of-none [] p none = λ k d lt. absurd (omega arith)
owner_of-none (e ∷ rest) p none = at (cases_eq e.page p) (owner_of-none rest p)
  where
    both : (e.page ≢ p) → All (λ x. x.page ≢ p) rest → All (λ x. x.page ≢ p) (e ∷ rest)
    both first others zero d lt = first
    both first others (suc k) d lt = others k d (omega arith)

    at : (e.page ≡ p) ⊎ (e.page ≡ p → ⊥) → (owner_of rest p ≡ None → All (λ x. x.page ≢ p) rest) → All (λ x. x.page ≢ p) (e ∷ rest)
    at (inl same) others = let is : (e.page == p) ≡ true = eq-eqb e.page p same in let here : Some e.slot ≡ None = rw is at none in cc
    at (inr other) others = let is : (e.page == p) ≡ false = ne_eqb e.page p other in both other (others (rw is at none))

pub none-owner_of : (pairs : List Pair) (p : ℕ) → IsNone (owner_of pairs p) ↔ All (λ e. e.page ≢ p) pairs
none-owner_of pairs p = (λ none. owner_of-none pairs p (at (owner_of pairs p) none), λ all. ap is_some (owner_of-all pairs p all))
  where
    at : (x : Option ℕ) → IsNone x → x ≡ None
    at None e = refl
    at (Some t) e = cc

pub owner_of-at : (pairs : List Pair) (i p : ℕ) (d : Pair) → AllPairs AreApart pairs → i < length pairs → (get_or pairs i d).page ≡ p → owner_of pairs p ≡ Some (get_or pairs i d).slot
owner_of-at [] i p d apart lt is = absurd (omega arith)
owner_of-at (e ∷ rest) zero p d apart lt is = let same : (e.page == p) ≡ true = eq-eqb e.page p is in rw same refl
owner_of-at (e ∷ rest) (suc i) p d apart lt is =
    let other : (e.page == p) ≡ false = ne_eqb e.page p (λ same. apart 0 (suc i) d (omega arith) lt (same ∙ sym is)) in
    rw other (owner_of-at rest i p d (AllPairs-tail AreApart e rest apart) (omega arith) is)

pub owner_of-some : (pairs : List Pair) (p t : ℕ) → owner_of pairs p ≡ Some t → Any (λ e. (e.page ≡ p) × (e.slot ≡ t)) pairs
owner_of-some [] p t some = cc
owner_of-some (e ∷ rest) p t some = at (cases_eq e.page p) (owner_of-some rest p t)
  where
    later : Any (λ x. (x.page ≡ p) × (x.slot ≡ t)) rest → Any (λ x. (x.page ≡ p) × (x.slot ≡ t)) (e ∷ rest)
    later (k, x, lt, is, both) = (suc k, x, omega arith, is, both)

    at : (e.page ≡ p) ⊎ (e.page ≡ p → ⊥) → (owner_of rest p ≡ Some t → Any (λ x. (x.page ≡ p) × (x.slot ≡ t)) rest) → Any (λ x. (x.page ≡ p) × (x.slot ≡ t)) (e ∷ rest)
    at (inl same) others = let is : (e.page == p) ≡ true = eq-eqb e.page p same in let here : Some e.slot ≡ Some t = rw is at some in (0, e, omega arith, refl, (same, cc))
    at (inr other) others = let is : (e.page == p) ≡ false = ne_eqb e.page p other in later (others (rw is at some))

pub owner_of-append : (xs ys : List Pair) (p : ℕ) → owner_of (xs ++ ys) p ≡ option_or (owner_of xs p) (owner_of ys p)
owner_of-append [] ys p = refl
owner_of-append (e ∷ rest) ys p = at (e.page == p) (owner_of-append rest ys p)
  where
    at : (b : Bool) → owner_of (rest ++ ys) p ≡ option_or (owner_of rest p) (owner_of ys p) → (if b then Some e.slot else owner_of (rest ++ ys) p) ≡ option_or (if b then Some e.slot else owner_of rest p) (owner_of ys p)
    at true same = refl
    at false same = same

-- one pair more, of a page that had none
pub owner_of-push : (xs : List Pair) (y : Pair) (p : ℕ) → owner_of xs y.page ≡ None → owner_of (xs ++ y ∷ []) p ≡ (if y.page == p then Some y.slot else owner_of xs p)
owner_of-push xs y p none = owner_of-append xs (y ∷ []) p ∙ at (cases_eq y.page p)
  where
    alone : (a : Option ℕ) → option_or a None ≡ a
    alone None = refl
    alone (Some t) = refl

    at : (y.page ≡ p) ⊎ (y.page ≡ p → ⊥) → option_or (owner_of xs p) (owner_of (y ∷ []) p) ≡ (if y.page == p then Some y.slot else owner_of xs p)
    at (inl same) =
        let is : (y.page == p) ≡ true = eq-eqb y.page p same in
        let empty : owner_of xs p ≡ None = ap (λ (q : ℕ). owner_of xs q) (sym same) ∙ none in
        rw (is, empty) refl
    at (inr other) = let is : (y.page == p) ≡ false = ne_eqb y.page p other in rw is (alone (owner_of xs p))

-- without the pairs of a slot
pub owner_of-others : (t : ℕ) (pairs : List Pair) (p : ℕ) → AllPairs AreApart pairs → owner_of (others_of t pairs) p ≡ without t (owner_of pairs p)
owner_of-others t [] p apart = refl
owner_of-others t (e ∷ rest) p apart = at (cases_eq e.slot t) (cases_eq e.page p) (owner_of-others t rest p (AllPairs-tail AreApart e rest apart))
  where
    alone : e.page ≡ p → owner_of rest p ≡ None
    alone same = owner_of-all rest p (λ k d lt is. AllPairs-head AreApart e rest apart k d lt (same ∙ sym is))

    at : (e.slot ≡ t) ⊎ (e.slot ≡ t → ⊥) → (e.page ≡ p) ⊎ (e.page ≡ p → ⊥) → owner_of (others_of t rest) p ≡ without t (owner_of rest p) → owner_of (others_of t (e ∷ rest)) p ≡ without t (owner_of (e ∷ rest) p)
    at (inl mine) (inl same) left =
        let slot : (e.slot == t) ≡ true = eq-eqb e.slot t mine in
        let page : (e.page == p) ≡ true = eq-eqb e.page p same in
        rw (slot, page) (rw slot (left ∙ ap (without t) (alone same)))
    at (inl mine) (inr other) left =
        let slot : (e.slot == t) ≡ true = eq-eqb e.slot t mine in
        let page : (e.page == p) ≡ false = ne_eqb e.page p other in
        rw (slot, page) left
    at (inr theirs) (inl same) left =
        let slot : (e.slot == t) ≡ false = ne_eqb e.slot t theirs in
        let page : (e.page == p) ≡ true = eq-eqb e.page p same in
        rw slot (rw page (rw slot refl))
    at (inr theirs) (inr other) left =
        let slot : (e.slot == t) ≡ false = ne_eqb e.slot t theirs in
        let page : (e.page == p) ≡ false = ne_eqb e.page p other in
        rw slot (rw page left)

-- the owner by the undo
pub owner_in-some : (slots : List (Option Slot)) (u : Option Undo) (t : ℕ) → owner_in slots u ≡ Some t → (owned_by slots u ≡ true) × (slot_named u ≡ Some t)
owner_in-some slots u t is = at (owned_by slots u) refl
  where
    at : (b : Bool) → owned_by slots u ≡ b → (owned_by slots u ≡ true) × (slot_named u ≡ Some t)
    at true owned = (owned, sym (rw owned refl) ∙ is)
    at false free = absurd (let no : None ≡ Some t = sym (rw free refl) ∙ is in cc)

pub owned-owner_in : (slots : List (Option Slot)) (u : Option Undo) → owned_by slots u ≡ true → (t : ℕ) × (owner_in slots u ≡ Some t)
owned-owner_in slots None owned = cc
owned-owner_in slots (Some Clear) owned = cc
owned-owner_in slots (Some (Blank t)) owned = (t, rw owned refl)
owned-owner_in slots (Some (Shadow t q)) owned = (t, rw owned refl)

some_pair : Pair
some_pair = record { page = 0; slot = 0 }

abbrev pages_of : List Pair → List ℕ
pages_of pairs = map (λ e. e.page) pairs

pages-at : (pairs : List Pair) (i d : ℕ) → i < length (pages_of pairs) → get_or (pages_of pairs) i d ≡ (get_or pairs i some_pair).page
pages-at pairs i d lt = let long = length-map pairs (λ e. e.page) in get_or-map (λ e. e.page) pairs i some_pair d (omega arith)

pages-apart : (pairs : List Pair) → AllPairs AreApart pairs → AllPairs (λ x y. x ≢ y) (pages_of pairs)
pages-apart pairs apart i j d less lt same =
    let long = length-map pairs (λ e. e.page) in
    apart i j some_pair less (omega arith) (sym (pages-at pairs i d (omega arith)) ∙ same ∙ pages-at pairs j d lt)

pages-any : (pairs : List Pair) (p : ℕ) → Any (λ x. x ≡ p) (pages_of pairs) → (i : ℕ) × (i < length pairs) × ((get_or pairs i some_pair).page ≡ p)
pages-any pairs p (i, x, lt, is, same) = (i, (let long = length-map pairs (λ (e : Pair). e.page) in omega arith), sym (pages-at pairs i x lt) ∙ is ∙ same)

any-pages : (pairs : List Pair) (p t : ℕ) → Any (λ e. (e.page ≡ p) × (e.slot ≡ t)) pairs → Any (λ x. x ≡ p) (pages_of pairs)
any-pages pairs p t (i, e, lt, is, both) = (i, p, omega (arith, length-map pairs (λ (x : Pair). x.page)), get_or-map (λ (x : Pair). x.page) pairs i e p lt ∙ ap (λ (x : Pair). x.page) is ∙ both.0, refl)

-- as many pairs as undos of active slots
pub pairs-counted : (slots : List (Option Slot)) (undos : List (Option Undo)) (pairs : List Pair) → AllPairs AreApart pairs → AreOwned slots undos pairs → length pairs ≡ count_by (owned_by slots) undos
pairs-counted slots undos pairs apart owned =
    sym (length-map pairs (λ e. e.page)) ∙ length-numbers (owned_by slots) None undos (pages_of pairs) (pages-apart pairs apart) inside outside
  where
    low : (n : ℕ) → owned_by slots (get_or undos n None) ≡ true → n < length undos
    low n test = at (cases_lt n (length undos))
      where
        at : (n < length undos) ⊎ (length undos ≤ n) → n < length undos
        at (inl lt) = lt
        at (inr past) = absurd (let no : false ≡ true = sym (ap (owned_by slots) (get_or_past undos n None past)) ∙ test in cc)

    inside : (n : ℕ) → Any (λ x. x ≡ n) (pages_of pairs) → (n < length undos) × (owned_by slots (get_or undos n None) ≡ true)
    inside n any =
        let found = pages-any pairs n any in
        let test = (owner_in-some slots (get_or undos n None) (get_or pairs found.0 some_pair).slot (sym (owned n) ∙ owner_of-at pairs found.0 n some_pair apart found.1 found.2)).0 in
        (low n test, test)

    outside : (n : ℕ) → n < length undos → owned_by slots (get_or undos n None) ≡ true → Any (λ x. x ≡ n) (pages_of pairs)
    outside n lt test = let some = owned-owner_in slots (get_or undos n None) test in any-pages pairs n some.0 (owner_of-some pairs n some.0 (owned n ∙ some.1))

-- an undo that may be written names an open slot
pub may-open : (sh : Shape) (f : Fields) (flash : List (List ℕ)) (p t : ℕ) (u : Undo) → MayUndo sh f flash p u → slot_named (Some u) ≡ Some t → IsOpen f t
may-open sh f flash p t Clear may named = absurd may
may-open sh f flash p t (Blank s) may named = let same : s ≡ t = cc in subst (λ (x : ℕ). IsOpen f x) same may.0
may-open sh f flash p t (Shadow s q) may named = let same : s ≡ t = cc in subst (λ (x : ℕ). IsOpen f x) same may.0

pub may-named : (sh : Shape) (f : Fields) (flash : List (List ℕ)) (p : ℕ) (u : Undo) → MayUndo sh f flash p u → slot_named (Some u) ≢ None
may-named sh f flash p Clear may none = may
may-named sh f flash p (Blank s) may none = cc
may-named sh f flash p (Shadow s q) may none = cc

pub owner_in-active : (slots : List (Option Slot)) (u : Option Undo) (t : ℕ) → slot_named u ≡ Some t → get_or slots t None ≡ Some Active → owner_in slots u ≡ Some t
owner_in-active slots u t named active = rw (owned_by-active slots u t named active) named

-- the page of a pair that joins them has its owner
pub AreOwned-pushed : (slots : List (Option Slot)) (undos : List (Option Undo)) (pairs : List Pair) (p t : ℕ) (u : Undo) → AreOwned slots undos pairs → owner_of pairs p ≡ None → p < length undos → slot_named (Some u) ≡ Some t → get_or slots t None ≡ Some Active → AreOwned slots (set undos p (Some u)) (pairs ++ (record { page = p; slot = t }) ∷ [])
AreOwned-pushed slots undos pairs p t u owned free lt named active r = owner_of-push pairs (record { page = p; slot = t }) r free ∙ at (cases_eq p r)
  where
    at : (p ≡ r) ⊎ (p ≡ r → ⊥) → (if p == r then Some t else owner_of pairs r) ≡ owner_in slots (get_or (set undos p (Some u)) r None)
    at (inl same) =
        let is : (p == r) ≡ true = eq-eqb p r same in
        rw is (sym (ap (λ (n : ℕ). owner_in slots (get_or (set undos p (Some u)) n None)) (sym same) ∙ ap (owner_in slots) (get_or-set_same undos p (Some u) None lt) ∙ owner_in-active slots (Some u) t named active))
    at (inr other) =
        let is : (p == r) ≡ false = ne_eqb p r other in
        rw is (owned r ∙ ap (owner_in slots) (sym (get_or-set_other undos p r (Some u) None (λ e. other (sym e)))))
