-- Pages of a slot among pairs.
use Rattle.std.proofs.Common.{◌≡◌, ◌≢◌, ◌⊎◌, inl, inr, Bool, true, false, ℕ, ◌<◌, ◌≤◌, ◌||◌, List, [], ◌∷◌, ◌++◌, length, get_or, take, Option, None, Some, refl, sym, ◌∙◌, ap, arith}
use Rattle.std.specs.Prelude.{if◌then◌else◌}
use Rattle.std.specs.List.{AllPairs, Any}
use Rattle.std.proofs.lemmas.Bool.{cases_eq, cases_lt, eq-eqb, ne_eqb}
use Rattle.std.proofs.lemmas.List.{get_or_past, get_or_default, get_or-take, length-take}
use Rattle.std.proofs.lemmas.List.Folds.{list_any-append, list_any-from_Any, Any-from_list_any}
use Rattle.envy_base.specs.declared.fields.Slot.{Slot}
use Rattle.envy_base.specs.declared.fields.Slot.TheVariants.{Active}
use Rattle.envy_base.specs.declared.fields.Undo.{Undo}
use Rattle.envy_base.specs.declared.fields.Undo.TheVariants.{Clear, Blank, Shadow}
use Rattle.envy_soundness.specs.Sound.{owned_by, slot_named, is_active}
use Rattle.envy_soundness.proofs.SlotLaw.{names-slot}
use Rattle.envy_frames.proofs.Lists.{Any-weaker}
use Rattle.envy_txn.specs.declared.pair.Pair.{Pair}
use Rattle.envy_txn.specs.Owners.{AreApart, AreOwned, owner_of, owner_in, others_of, without}
use Rattle.envy_txn.specs.Turns.{gives, is_among}
use Rattle.envy_txn.proofs.OwnerLemmas.{owner_of-at, owner_of-some, owner_of-others, owner_in-some, owner_in-active}

or-none : (b : Bool) → (b || false) ≡ b
or-none true = refl
or-none false = refl

pub among-push : (ps : List Pair) (e : Pair) (t p : ℕ) → is_among (ps ++ e ∷ []) t p ≡ (is_among ps t p || gives t p e)
among-push ps e t p = list_any-append (gives t p) ps (e ∷ []) ∙ ap (λ (b : Bool). is_among ps t p || b) (or-none (gives t p e))

pub gives-page : (e : Pair) (t p : ℕ) → gives t p e ≡ true → (e.page ≡ p) × (e.slot ≡ t)
gives-page e t p is = at (cases_eq e.page p) (cases_eq e.slot t)
  where
    at : (e.page ≡ p) ⊎ (e.page ≡ p → ⊥) → (e.slot ≡ t) ⊎ (e.slot ≡ t → ⊥) → (e.page ≡ p) × (e.slot ≡ t)
    at (inl page) (inl slot) = (page, slot)
    at (inl page) (inr other) = absurd (let no : false ≡ true = sym (rw (eq-eqb e.page p page, ne_eqb e.slot t other) refl) ∙ is in cc)
    at (inr other) slot = absurd (let no : false ≡ true = sym (rw (ne_eqb e.page p other) refl) ∙ is in cc)

pub gives-own : (e : Pair) (t p : ℕ) → e.page ≡ p → e.slot ≡ t → gives t p e ≡ true
gives-own e t p page slot = rw (eq-eqb e.page p page, eq-eqb e.slot t slot) refl

pub gives-other : (e : Pair) (t p : ℕ) → (e.slot ≢ t) ⊎ (e.page ≢ p) → gives t p e ≡ false
gives-other e t p other = at (gives t p e) refl other
  where
    at : (b : Bool) → gives t p e ≡ b → (e.slot ≢ t) ⊎ (e.page ≢ p) → gives t p e ≡ false
    at false is differs = is
    at true is (inl differs) = absurd (differs (gives-page e t p is).1)
    at true is (inr differs) = absurd (differs (gives-page e t p is).0)

pub among-other : (ps : List Pair) (e : Pair) (t p : ℕ) → e.page ≢ p → is_among (ps ++ e ∷ []) t p ≡ is_among ps t p
among-other ps e t p other = among-push ps e t p ∙ ap (λ (b : Bool). is_among ps t p || b) (gives-other e t p (inr other)) ∙ or-none (is_among ps t p)

pub among-here : (ps : List Pair) (e : Pair) (t p : ℕ) → e.slot ≡ t → e.page ≡ p → is_among (ps ++ e ∷ []) t p ≡ true
among-here ps e t p slot page = among-push ps e t p ∙ ap (λ (b : Bool). is_among ps t p || b) (gives-own e t p page slot) ∙ at (is_among ps t p)
  where
    at : (b : Bool) → (b || true) ≡ true
    at true = refl
    at false = refl

-- no earlier pair gives the page of a pair
pub among-before : (pairs : List Pair) (i t : ℕ) (d : Pair) → AllPairs AreApart pairs → i < length pairs → is_among (take i pairs) t (get_or pairs i d).page ≡ false
among-before pairs i t d apart lt = at (is_among (take i pairs) t (get_or pairs i d).page) refl
  where
    clash : Any (λ e. gives t (get_or pairs i d).page e ≡ true) (take i pairs) → ⊥
    clash (k, e, less, is, yes_gives) =
        let low : k < i = omega (arith, length-take {A = Pair} i pairs) in
        let same : get_or pairs k e ≡ e = sym (get_or-take i pairs k e low) ∙ is in
        let page = (gives-page e t (get_or pairs i d).page yes_gives).0 in
        apart k i e low lt (ap (λ (x : Pair). x.page) same ∙ page ∙ ap (λ (x : Pair). x.page) (get_or_default pairs i d e lt))

    at : (b : Bool) → is_among (take i pairs) t (get_or pairs i d).page ≡ b → is_among (take i pairs) t (get_or pairs i d).page ≡ false
    at false is = is
    at true is = absurd (clash (Any-from_list_any (gives t (get_or pairs i d).page) (take i pairs) is))

-- the pages that the pairs give an active slot are those whose undo names it
pub among-named : (slots : List (Option Slot)) (undos : List (Option Undo)) (pairs : List Pair) (t p : ℕ) → AllPairs AreApart pairs → AreOwned slots undos pairs → is_among pairs t p ≡ true → slot_named (get_or undos p None) ≡ Some t
among-named slots undos pairs t p apart owned is = at (Any-from_list_any (gives t p) pairs is)
  where
    at : Any (λ e. gives t p e ≡ true) pairs → slot_named (get_or undos p None) ≡ Some t
    at (i, e, lt, here, yes_gives) =
        let given = gives-page e t p yes_gives in
        let some : owner_of pairs p ≡ Some t = owner_of-at pairs i p e apart lt (ap (λ (x : Pair). x.page) here ∙ given.0) ∙ ap (λ (x : Pair). Some x.slot) here ∙ ap (λ (n : ℕ). Some n) given.1 in
        (owner_in-some slots (get_or undos p None) t (sym (owned p) ∙ some)).1

pub named-among : (slots : List (Option Slot)) (undos : List (Option Undo)) (pairs : List Pair) (t p : ℕ) → AreOwned slots undos pairs → get_or slots t None ≡ Some Active → slot_named (get_or undos p None) ≡ Some t → is_among pairs t p ≡ true
named-among slots undos pairs t p owned active named =
    let some : owner_of pairs p ≡ Some t = owned p ∙ owner_in-active slots (get_or undos p None) t named active in
    list_any-from_Any (gives t p) pairs (Any-weaker (λ e. (e.page ≡ p) × (e.slot ≡ t)) (λ e. gives t p e ≡ true) pairs (λ e both. gives-own e t p both.0 both.1) (owner_of-some pairs p t some))

pub unnamed-among : (slots : List (Option Slot)) (undos : List (Option Undo)) (pairs : List Pair) (t p : ℕ) → AllPairs AreApart pairs → AreOwned slots undos pairs → slot_named (get_or undos p None) ≢ Some t → is_among pairs t p ≡ false
unnamed-among slots undos pairs t p apart owned free = at (is_among pairs t p) refl
  where
    at : (b : Bool) → is_among pairs t p ≡ b → is_among pairs t p ≡ false
    at false is = is
    at true is = absurd (free (among-named slots undos pairs t p apart owned is))

-- the undo of a pair's page names the pair's slot
pub pair-named : (slots : List (Option Slot)) (undos : List (Option Undo)) (pairs : List Pair) (i : ℕ) (d : Pair) → AllPairs AreApart pairs → AreOwned slots undos pairs → i < length pairs → slot_named (get_or undos (get_or pairs i d).page None) ≡ Some (get_or pairs i d).slot
pair-named slots undos pairs i d apart owned lt =
    (owner_in-some slots (get_or undos (get_or pairs i d).page None) (get_or pairs i d).slot (sym (owned (get_or pairs i d).page) ∙ owner_of-at pairs i (get_or pairs i d).page d apart lt refl)).1

pub named-low : (undos : List (Option Undo)) (p t : ℕ) → slot_named (get_or undos p None) ≡ Some t → p < length undos
named-low undos p t named = at (cases_lt p (length undos))
  where
    at : (p < length undos) ⊎ (length undos ≤ p) → p < length undos
    at (inl lt) = lt
    at (inr past) = absurd (let no : None ≡ Some t = sym (ap slot_named (get_or_past undos p None past)) ∙ named in cc)

-- the owners once a slot's undos are clear
gone : (t s : ℕ) (b : Bool) → s ≡ t → without t (if b then Some s else None) ≡ None
gone t s false same = refl
gone t s true same = rw (eq-eqb s t same) refl

still : (t s : ℕ) (b : Bool) → s ≢ t → without t (if b then Some s else None) ≡ (if b then Some s else None)
still t s false other = refl
still t s true other = rw (ne_eqb s t other) refl

mine : (slots : List (Option Slot)) (u : Option Undo) (t : ℕ) → slot_named u ≡ Some t → without t (owner_in slots u) ≡ None
mine slots None t e = cc
mine slots (Some Clear) t e = cc
mine slots (Some (Blank s)) t e = gone t s (owned_by slots (Some (Blank s))) (let same : s ≡ t = cc in same)
mine slots (Some (Shadow s q)) t e = gone t s (owned_by slots (Some (Blank s))) (let same : s ≡ t = cc in same)

theirs : (slots new : List (Option Slot)) (u : Option Undo) (t : ℕ) → ((s : ℕ) → s ≢ t → get_or new s None ≡ get_or slots s None) → slot_named u ≢ Some t → without t (owner_in slots u) ≡ owner_in new u
theirs slots new None t same free = refl
theirs slots new (Some Clear) t same free = refl
theirs slots new (Some (Blank s)) t same free =
    let other : s ≢ t = λ e. free (ap (λ (n : ℕ). Some n) e) in
    still t s (owned_by slots (Some (Blank s))) other ∙ ap (λ (x : Option Slot). if is_active x then Some s else None) (sym (same s other))
theirs slots new (Some (Shadow s q)) t same free =
    let other : s ≢ t = λ e. free (ap (λ (n : ℕ). Some n) e) in
    still t s (owned_by slots (Some (Blank s))) other ∙ ap (λ (x : Option Slot). if is_active x then Some s else None) (sym (same s other))

pub AreOwned-left : (slots new : List (Option Slot)) (undos then_undos : List (Option Undo)) (pairs : List Pair) (t : ℕ) → AllPairs AreApart pairs → ((s : ℕ) → s ≢ t → get_or new s None ≡ get_or slots s None)
    → ((p : ℕ) → slot_named (get_or undos p None) ≡ Some t → get_or then_undos p None ≡ Some Clear) → ((p : ℕ) → slot_named (get_or undos p None) ≢ Some t → get_or then_undos p None ≡ get_or undos p None)
    → AreOwned slots undos pairs → AreOwned new then_undos (others_of t pairs)
AreOwned-left slots new undos then_undos pairs t apart same own others owned p =
    owner_of-others t pairs p apart ∙ ap (without t) (owned p) ∙ at (names-slot (get_or undos p None) t)
  where
    at : (slot_named (get_or undos p None) ≡ Some t) ⊎ (slot_named (get_or undos p None) ≢ Some t) → without t (owner_in slots (get_or undos p None)) ≡ owner_in new (get_or then_undos p None)
    at (inl named) = mine slots (get_or undos p None) t named ∙ sym (ap (owner_in new) (own p named))
    at (inr free) = theirs slots new (get_or undos p None) t same free ∙ sym (ap (owner_in new) (others p free))

-- no undo names the slot any more
pub unused-left : (undos then_undos : List (Option Undo)) (t : ℕ) → ((p : ℕ) → slot_named (get_or undos p None) ≡ Some t → get_or then_undos p None ≡ Some Clear) → ((p : ℕ) → slot_named (get_or undos p None) ≢ Some t → get_or then_undos p None ≡ get_or undos p None)
    → (p : ℕ) → slot_named (get_or then_undos p None) ≢ Some t
unused-left undos then_undos t own others p named = at (names-slot (get_or undos p None) t)
  where
    at : (slot_named (get_or undos p None) ≡ Some t) ⊎ (slot_named (get_or undos p None) ≢ Some t) → ⊥
    at (inl is) = let no : None ≡ Some t = sym (ap slot_named (own p is)) ∙ named in cc
    at (inr free) = free (sym (ap slot_named (others p free)) ∙ named)
