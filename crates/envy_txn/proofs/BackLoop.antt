-- The pages of an open slot go back, one pair after another.
use Rattle.std.proofs.Common.{◌≡◌, ◌≢◌, ◌⊎◌, inl, inr, true, false, ℕ, ◌/◌, ◌%◌, ◌<◌, List, [], ◌∷◌, ◌++◌, length, get_or, Option, None, Some, refl, sym, ◌∙◌, ap, subst}
use Rattle.std.specs.Prelude.{not}
use Rattle.std.specs.List.{filter, AllPairs}
use Rattle.std.proofs.lemmas.Bool.{cases_eq, eq-eqb, ne_eqb}
use Rattle.std.proofs.lemmas.List.{get_or-set_same, get_or-set_other}
use Rattle.envy_base.specs.declared.fields.Place.{Place}
use Rattle.envy_base.specs.declared.fields.Slot.{Slot}
use Rattle.envy_base.specs.declared.fields.Slot.TheVariants.{Active}
use Rattle.envy_base.specs.declared.fields.Undo.{Undo}
use Rattle.envy_base.specs.declared.fields.Undo.TheVariants.{Clear, Blank, Shadow}
use Rattle.envy_map.specs.Fields.{Chart, with_fields, place, undo, slot}
use Rattle.envy_map.specs.Writes.{with_place, with_undo}
use Rattle.envy_soundness.specs.May.{IsUnused}
use Rattle.envy_soundness.specs.Sound.{slot_named}
use Rattle.envy_soundness.specs.Words.{kept, kept_by, live, durable, live_word, durable_word, word_at}
use Rattle.envy_soundness.proofs.WordLists.{words-at}
use Rattle.envy_soundness.proofs.SlotLaw.{names-slot}
use Rattle.envy_frames.specs.declared.held.Held.{Held}
use Rattle.envy_txn.specs.declared.pair.Pair.{Pair}
use Rattle.envy_txn.specs.Ending.{Restores}
use Rattle.envy_txn.specs.Owners.{AreApart, AreOwned, names_slot, others_of}
use Rattle.envy_txn.specs.Turns.{RestoredIn, is_among}
use Rattle.envy_txn.proofs.HeldLemmas.{filter-same, is_kept_by}
use Rattle.envy_txn.proofs.TurnLemmas.{among-other, among-here, named-among, unnamed-among, AreOwned-left, unused-left}

-- a page goes back
pub record Returns (p : ℕ) (back : Place) (d new : Chart) : Type 0 where
  pub names : kept d.fields p ≡ Some back
  pub fields : new ≡ with_fields d (with_undo p (Some Clear) (with_place p (Some back) d.fields))
  pub room : p < length d.fields.places
  pub undo_room : p < length d.fields.undos

pub place-here : (p : ℕ) (back : Place) (d new : Chart) → Returns p back d new → place new.fields p ≡ kept d.fields p
place-here p back d new r = ap (λ (z : Chart). place z.fields p) r.fields ∙ get_or-set_same d.fields.places p (Some back) None r.room ∙ sym r.names

pub undo-here : (p : ℕ) (back : Place) (d new : Chart) → Returns p back d new → undo new.fields p ≡ Some Clear
undo-here p back d new r = ap (λ (z : Chart). undo z.fields p) r.fields ∙ get_or-set_same d.fields.undos p (Some Clear) None r.undo_room

pub place-other : (p : ℕ) (back : Place) (d new : Chart) (o : ℕ) → Returns p back d new → o ≢ p → place new.fields o ≡ place d.fields o
place-other p back d new o r other = ap (λ (z : Chart). place z.fields o) r.fields ∙ get_or-set_other d.fields.places p o (Some back) None other

pub undo-other : (p : ℕ) (back : Place) (d new : Chart) (o : ℕ) → Returns p back d new → o ≢ p → undo new.fields o ≡ undo d.fields o
undo-other p back d new o r other = ap (λ (z : Chart). undo z.fields o) r.fields ∙ get_or-set_other d.fields.undos p o (Some Clear) None other

pub RestoredIn-none : (t : ℕ) (c : Chart) → RestoredIn [] t c c
RestoredIn-none t c = record { own = λ p is. absurd (let no : false ≡ true = is in cc); others = λ p is. (refl, refl); rest = refl }

-- what changed of the fields is the places and the undos alone
pub rest-more : (c d new : Chart) (p : ℕ) (back : Place) → Returns p back d new → d ≡ with_fields c (record c.fields { places = d.fields.places; undos = d.fields.undos }) → new ≡ with_fields c (record c.fields { places = new.fields.places; undos = new.fields.undos })
rest-more c d new p back r rest =
    subst (λ (z : Chart). new ≡ with_fields c (record c.fields { places = z.fields.places; undos = z.fields.undos })) (sym r.fields)
    (r.fields ∙ ap (λ (z : Chart). with_fields z (with_undo p (Some Clear) (with_place p (Some back) z.fields))) rest)

-- a restart reads an untouched page where it did at first
pub kept-same : (c d : Chart) (p : ℕ) → d ≡ with_fields c (record c.fields { places = d.fields.places; undos = d.fields.undos }) → place d.fields p ≡ place c.fields p → undo d.fields p ≡ undo c.fields p → kept d.fields p ≡ kept c.fields p
kept-same c d p rest at_place at_undo =
    ap (λ (ss : List (Option Slot)). kept_by ss (undo d.fields p) (place d.fields p)) (ap (λ (z : Chart). z.fields.slots) rest)
    ∙ ap (λ (u : Option Undo). kept_by c.fields.slots u (place d.fields p)) at_undo ∙ ap (λ (x : Option Place). kept_by c.fields.slots (undo c.fields p) x) at_place

pub RestoredIn-more : (ps : List Pair) (e : Pair) (t : ℕ) (c d new : Chart) (back : Place) → e.slot ≡ t → Returns e.page back d new → is_among ps t e.page ≡ false → RestoredIn ps t c d → RestoredIn (ps ++ e ∷ []) t c new
RestoredIn-more ps e t c d new back slot_is turn before r = record {
  own = λ p among. own p among (cases_eq p e.page);
  others = λ p among. others p among (cases_eq p e.page);
  rest = rest-more c d new e.page back turn r.rest;
}
  where
    own : (p : ℕ) → is_among (ps ++ e ∷ []) t p ≡ true → (p ≡ e.page) ⊎ (p ≡ e.page → ⊥) → (place new.fields p ≡ kept c.fields p) × (undo new.fields p ≡ Some Clear)
    own p among (inl same) =
        let was = r.others e.page before in
        (ap (place new.fields) same ∙ place-here e.page back d new turn ∙ kept-same c d e.page r.rest was.0 was.1 ∙ ap (kept c.fields) (sym same), ap (undo new.fields) same ∙ undo-here e.page back d new turn)
    own p among (inr other) =
        let was = r.own p (sym (among-other ps e t p (λ eq. other (sym eq))) ∙ among) in
        (place-other e.page back d new p turn other ∙ was.0, undo-other e.page back d new p turn other ∙ was.1)

    others : (p : ℕ) → is_among (ps ++ e ∷ []) t p ≡ false → (p ≡ e.page) ⊎ (p ≡ e.page → ⊥) → (place new.fields p ≡ place c.fields p) × (undo new.fields p ≡ undo c.fields p)
    others p among (inl same) = absurd (let clash : true ≡ false = sym (among-here ps e t p slot_is (sym same)) ∙ among in cc)
    others p among (inr other) =
        let was = r.others p (sym (among-other ps e t p (λ eq. other (sym eq))) ∙ among) in
        (place-other e.page back d new p turn other ∙ was.0, undo-other e.page back d new p turn other ∙ was.1)

-- the words of a page that went back, and of one that stayed
word-own : (c d : Chart) (a : ℕ) → d ≡ with_fields c (record c.fields { places = d.fields.places; undos = d.fields.undos }) → place d.fields (a / 32) ≡ kept c.fields (a / 32) → get_or (live d) a 0 ≡ get_or (durable c) a 0
word-own c d a rest at_place =
    ap (λ (z : Chart). get_or (live z) a 0) rest
    ∙ words-at c.shape.pages (durable_word c.fields c.flash) (live_word (record c.fields { places = d.fields.places; undos = d.fields.undos }) c.flash) a (λ lt. ap (λ (x : Option Place). word_at c.fields.frames c.flash x (a % 32)) at_place)

word-other : (c d : Chart) (a : ℕ) → d ≡ with_fields c (record c.fields { places = d.fields.places; undos = d.fields.undos }) → place d.fields (a / 32) ≡ place c.fields (a / 32) → get_or (live d) a 0 ≡ get_or (live c) a 0
word-other c d a rest at_place =
    ap (λ (z : Chart). get_or (live z) a 0) rest
    ∙ words-at c.shape.pages (live_word c.fields c.flash) (live_word (record c.fields { places = d.fields.places; undos = d.fields.undos }) c.flash) a (λ lt. ap (λ (x : Option Place). word_at c.fields.frames c.flash x (a % 32)) at_place)

-- all pairs have had their turn
pub Restores-all : (c d : Chart) (pairs : List Pair) (t : ℕ) → slot c.fields t ≡ Some Active → AllPairs AreApart pairs → AreOwned c.fields.slots c.fields.undos pairs → RestoredIn pairs t c d → Restores t c d
Restores-all c d pairs t active apart owned r = record {
  own = λ p named. r.own p (named-among c.fields.slots c.fields.undos pairs t p owned active named);
  others = λ p free. r.others p (unnamed-among c.fields.slots c.fields.undos pairs t p apart owned free);
  rest = r.rest;
  own_words = λ a named. word-own c d a r.rest (r.own (a / 32) (named-among c.fields.slots c.fields.undos pairs t (a / 32) owned active named)).0;
  other_words = λ a free. word-other c d a r.rest (r.others (a / 32) (unnamed-among c.fields.slots c.fields.undos pairs t (a / 32) apart owned free)).0;
}

pub unused-restored : (c d : Chart) (t : ℕ) → Restores t c d → IsUnused d.fields t
unused-restored c d t r = unused-left c.fields.undos d.fields.undos t (λ p named. (r.own p named).1) (λ p free. (r.others p free).1)

pub AreOwned-restored : (c d : Chart) (pairs : List Pair) (t : ℕ) → AllPairs AreApart pairs → AreOwned c.fields.slots c.fields.undos pairs → Restores t c d → AreOwned d.fields.slots d.fields.undos (others_of t pairs)
AreOwned-restored c d pairs t apart owned r =
    AreOwned-left c.fields.slots d.fields.slots c.fields.undos d.fields.undos pairs t apart (λ s other. ap (λ (z : Chart). get_or z.fields.slots s None) r.rest) (λ p named. (r.own p named).1) (λ p free. (r.others p free).1) owned

-- whether an undo names a slot
names_slot-is : (t : ℕ) (u : Option Undo) → slot_named u ≡ Some t → names_slot t u ≡ true
names_slot-is t None named = cc
names_slot-is t (Some Clear) named = cc
names_slot-is t (Some (Blank s)) named = let same : s ≡ t = cc in eq-eqb s t same
names_slot-is t (Some (Shadow s q)) named = let same : s ≡ t = cc in eq-eqb s t same

names_slot-not : (t : ℕ) (u : Option Undo) → slot_named u ≢ Some t → names_slot t u ≡ false
names_slot-not t None free = refl
names_slot-not t (Some Clear) free = refl
names_slot-not t (Some (Blank s)) free = ne_eqb s t (λ same. free (ap (λ (n : ℕ). Some n) same))
names_slot-not t (Some (Shadow s q)) free = ne_eqb s t (λ same. free (ap (λ (n : ℕ). Some n) same))

-- the frames that are left are those of the pages that the slot didn't own
pub held-restored : (c : Chart) (pairs : List Pair) (t : ℕ) (first held : List Held) → slot c.fields t ≡ Some Active → AllPairs AreApart pairs → AreOwned c.fields.slots c.fields.undos pairs → held ≡ filter (is_kept_by pairs t) first → held ≡ filter (λ h. not (names_slot t (undo c.fields h.page))) first
held-restored c pairs t first held active apart owned is =
    is ∙ filter-same (is_kept_by pairs t) (λ h. not (names_slot t (undo c.fields h.page))) first (λ k d lt. ap not (at (get_or first k d).page (names-slot (undo c.fields (get_or first k d).page) t)))
  where
    at : (p : ℕ) → (slot_named (undo c.fields p) ≡ Some t) ⊎ (slot_named (undo c.fields p) ≢ Some t) → is_among pairs t p ≡ names_slot t (undo c.fields p)
    at p (inl named) = named-among c.fields.slots c.fields.undos pairs t p owned active named ∙ sym (names_slot-is t (undo c.fields p) named)
    at p (inr free) = unnamed-among c.fields.slots c.fields.undos pairs t p apart owned free ∙ sym (names_slot-not t (undo c.fields p) free)
