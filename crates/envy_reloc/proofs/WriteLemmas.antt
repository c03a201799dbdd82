-- A plan stays one for the map after each kind of write between two steps.
use Rattle.std.proofs.Common.{◌≡◌, ◌≢◌, ◌⊎◌, inl, inr, ℕ, ◌+◌, ◌*◌, ◌/◌, ◌<◌, ◌≤◌, List, [], length, get_or, set, Option, None, Some, sym, ◌∙◌, ap, subst}
use Rattle.std.proofs.lemmas.Bool.{cases_eq, cases_lt}
use Rattle.std.proofs.lemmas.List.{get_or-set_same, get_or-set_other, set_past}
use Rattle.envy_base.specs.declared.fields.Job.TheVariants.{Copy, Switch}
use Rattle.envy_base.specs.declared.fields.Place.{Place}
use Rattle.envy_base.specs.declared.fields.Place.TheVariants.{Row}
use Rattle.envy_base.specs.declared.fields.Slot.{Slot}
use Rattle.envy_base.specs.declared.fields.Slot.TheVariants.{Active}
use Rattle.envy_base.specs.declared.fields.Undo.{Undo}
use Rattle.envy_base.specs.declared.fields.Undo.TheVariants.{Clear, Blank, Shadow}
use Rattle.envy_base.specs.declared.shape.Shape.{Shape}
use Rattle.envy_map.specs.Fields.{Fields, place, undo, slot}
use Rattle.envy_map.specs.Writes.{with_back, with_fill, with_place, with_undo, with_slot}
use Rattle.envy_soundness.specs.May.{IsUnused}
use Rattle.envy_soundness.specs.Sound.{Sound, Slots, Places, Names, IsPlaced, IsSpare, slot_named}
use Rattle.envy_soundness.proofs.PlaceLaw.{Names-placed}
use Rattle.envy_soundness.proofs.References.{apart-spare, copy-segment}
use Rattle.envy_soundness.proofs.UndoLaw.{UndoCases, undo-cases}
use Rattle.envy_reloc.specs.Plan.{Plan, IsPlanOf, AreCopies, IsFreeOf}
use Rattle.envy_reloc.proofs.SwitchLemmas.{Names-cases, Names-undo}

-- a segment at a position isn't the spare
pub other-spare : (sh : Shape) (positions : List ℕ) (s e : ℕ) → IsPlaced sh positions s → IsSpare sh positions e → e ≢ s
other-spare sh positions s e placed spare same = apart-spare sh positions s placed (subst (λ (x : ℕ). IsSpare sh positions x) same spare)

-- a row of a segment that the job leaves free is claimed
pub IsPlanOf-claimed : (sh : Shape) (f : Fields) (flash : List (List ℕ)) (plan : Plan) (s q p n : ℕ) → Sound sh f flash → IsPlaced sh f.positions s → IsFreeOf f.job s → q / sh.rows ≡ s → IsPlanOf sh f flash plan → IsPlanOf sh (with_fill s n (with_back q p f)) flash plan
IsPlanOf-claimed sh f flash plan s q p n sound placed free here was = record {
  prepared = record {
    moves = was.prepared.moves;
    aside = was.prepared.aside;
    copies = λ v e copy spare.
        let c = was.prepared.copies v e copy spare in
        let level : get_or (set f.fills s n) e 0 ≡ get_or f.fills e 0 = get_or-set_other f.fills s e n 0 (other-spare sh f.positions s e placed spare) in
        record {
          each = λ i lt.
              let low = rw level at lt in
              let one = AreCopies.each c i low in
              record {
                row = one.row;
                same = one.same;
                back =
                    get_or-set_other f.backs q (e * sh.rows + i) p 0 (λ is. other-spare sh f.positions s e placed spare (sym (copy-segment sh f flash e i sound low) ∙ ap (λ (x : ℕ). x / sh.rows) is ∙ here))
                    ∙ one.back
                    ∙ sym (get_or-set_other f.backs q (get_or f.origins i 0) p 0 (λ is. free.0 (copy ∙ ap (λ (x : ℕ). Some (Copy x)) (sym one.row ∙ ap (λ (x : ℕ). x / sh.rows) is ∙ here))));
              };
          apart = λ i j lt less. AreCopies.apart c i j (rw (← level) lt) (rw (← level) less);
        };
  };
  marked = record {
    kept = λ v e r x copy spare names at lt. rw (get_or-set_other f.fills s e n 0 (other-spare sh f.positions s e placed spare)) (was.marked.kept v e r x copy spare names at lt);
    copied = λ v e i copy spare lt. was.marked.copied v e i copy spare (rw (← get_or-set_other f.fills s e n 0 (other-spare sh f.positions s e placed spare)) lt);
  };
  switched = record { placed = was.switched.placed; clear = was.switched.clear };
}

-- a row of such a segment is programmed
pub IsPlanOf-programmed : (sh : Shape) (f : Fields) (flash new : List (List ℕ)) (plan : Plan) (s q : ℕ) → Sound sh f flash → IsPlaced sh f.positions s → IsFreeOf f.job s → q / sh.rows ≡ s → ((r : ℕ) → r ≢ q → get_or new r [] ≡ get_or flash r []) → IsPlanOf sh f flash plan → IsPlanOf sh f new plan
IsPlanOf-programmed sh f flash new plan s q sound placed free here others was = record {
  prepared = record {
    moves = was.prepared.moves;
    aside = was.prepared.aside;
    copies = λ v e copy spare. let c = was.prepared.copies v e copy spare in record {
      each = λ i lt. let one = AreCopies.each c i lt in record {
        row = one.row;
        same =
            others (e * sh.rows + i) (λ is. other-spare sh f.positions s e placed spare (sym (copy-segment sh f flash e i sound lt) ∙ ap (λ (x : ℕ). x / sh.rows) is ∙ here))
            ∙ one.same
            ∙ sym (others (get_or f.origins i 0) (λ is. free.0 (copy ∙ ap (λ (x : ℕ). Some (Copy x)) (sym one.row ∙ ap (λ (x : ℕ). x / sh.rows) is ∙ here))));
        back = one.back;
      };
      apart = c.apart;
    };
  };
  marked = was.marked;
  switched = was.switched;
}

-- References alone have changed: each that is there now was there before, or is one to a row of a segment that
-- the job leaves free.
pub IsPlanOf-references : (sh : Shape) (f : Fields) (flash : List (List ℕ)) (plan : Plan) (slots : List (Option Slot)) (undos : List (Option Undo)) (places : List (Option Place)) → ((p q : ℕ) → Names (record f { slots = slots; undos = undos; places = places }) p q → Names f p q ⊎ IsFreeOf f.job (q / sh.rows)) → IsPlanOf sh f flash plan → IsPlanOf sh (record f { slots = slots; undos = undos; places = places }) flash plan
IsPlanOf-references sh f flash plan slots undos places from was = record {
  prepared = record { moves = was.prepared.moves; aside = was.prepared.aside; copies = was.prepared.copies };
  marked = record {
    kept = λ v e p q copy spare names at lt. has v e p q copy spare at lt (from p q names);
    copied = was.marked.copied;
  };
  switched = record {
    placed = was.switched.placed;
    clear = λ v p q switch names. clear v p q switch (from p q names);
  };
}
  where
    has : (v e p q : ℕ) → f.job ≡ Some (Copy v) → IsSpare sh f.positions e → q / sh.rows ≡ v → q < plan.mark → Names f p q ⊎ IsFreeOf f.job (q / sh.rows) → (i : ℕ) × (i < get_or f.fills e 0) × (get_or f.origins i 0 ≡ q)
    has v e p q copy spare at lt (inl names) = was.marked.kept v e p q copy spare names at lt
    has v e p q copy spare at lt (inr free) = absurd (free.0 (copy ∙ ap (λ (x : ℕ). Some (Copy x)) (sym at)))

    clear : (v p q : ℕ) → f.job ≡ Some (Switch v) → Names f p q ⊎ IsFreeOf f.job (q / sh.rows) → q / sh.rows ≢ v
    clear v p q switch (inl names) = was.switched.clear v p q switch names
    clear v p q switch (inr free) = λ at. free.1 (switch ∙ ap (λ (x : ℕ). Some (Switch x)) (sym at))

-- a page moves to a row that it names already, or of such a segment
pub IsPlanOf-rowed : (sh : Shape) (f : Fields) (flash : List (List ℕ)) (plan : Plan) (p q : ℕ) → Sound sh f flash → p < sh.pages → Names f p q ⊎ IsFreeOf f.job (q / sh.rows) → IsPlanOf sh f flash plan → IsPlanOf sh (with_place p (Some (Row q)) f) flash plan
IsPlanOf-rowed sh f flash plan p q sound lt may was = IsPlanOf-references sh f flash plan f.slots f.undos (set f.places p (Some (Row q))) (λ r x names. at r x (Names-placed f p (Some (Row q)) r x (rw (Places.long sound.places) lt) names)) was
  where
    at : (r x : ℕ) → Names f r x ⊎ ((r ≡ p) × (Some (Row q) ≡ Some (Row x))) → Names f r x ⊎ IsFreeOf f.job (x / sh.rows)
    at r x (inl names) = inl names
    at r x (inr (same, is)) =
        let one : q ≡ x = cc in
        subst (λ (n : ℕ). Names f r n ⊎ IsFreeOf f.job (n / sh.rows)) one (subst (λ (n : ℕ). Names f n q ⊎ IsFreeOf f.job (q / sh.rows)) (sym same) may)

-- it moves to a frame, or is absent then
pub IsPlanOf-unrowed : (sh : Shape) (f : Fields) (flash : List (List ℕ)) (plan : Plan) (p : ℕ) (x : Place) → Sound sh f flash → p < sh.pages → ((q : ℕ) → x ≢ Row q) → IsPlanOf sh f flash plan → IsPlanOf sh (with_place p (Some x) f) flash plan
IsPlanOf-unrowed sh f flash plan p x sound lt none was = IsPlanOf-references sh f flash plan f.slots f.undos (set f.places p (Some x)) (λ r y names. at r y (Names-placed f p (Some x) r y (rw (Places.long sound.places) lt) names)) was
  where
    at : (r y : ℕ) → Names f r y ⊎ ((r ≡ p) × (Some x ≡ Some (Row y))) → Names f r y ⊎ IsFreeOf f.job (y / sh.rows)
    at r y (inl names) = inl names
    at r y (inr (same, is)) = absurd (none y (let e : x ≡ Row y = cc in e))

-- what is named after the undo of a page was written: it was named before, or the undo names it
named-undo : (sh : Shape) (f : Fields) (flash : List (List ℕ)) (p : ℕ) (u : Undo) (r x : ℕ) → Sound sh f flash → p < sh.pages → Names (with_undo p (Some u) f) r x → Names f r x ⊎ ((r ≡ p) × ((t : ℕ) × (Some u ≡ Some (Shadow t x))))
named-undo sh f flash p u r x sound lt names = at (Names-cases (with_undo p (Some u) f) r x names) (undo-cases f p r (Some u) (rw (Slots.undos_long sound.slots) lt))
  where
    at : (place f r ≡ Some (Row x)) ⊎ ((t : ℕ) × (undo (with_undo p (Some u) f) r ≡ Some (Shadow t x)) × (slot f t ≡ Some Active)) → UndoCases f p (Some u) r → Names f r x ⊎ ((r ≡ p) × ((t : ℕ) × (Some u ≡ Some (Shadow t x))))
    at (inl by_place) cases = inl (inl by_place)
    at (inr (t, shadow, active)) (inl (same, now)) = inr (same, (t, sym now ∙ shadow))
    at (inr (t, shadow, active)) (inr (other, now)) = inl (Names-undo f r t x (sym now ∙ shadow) active)

-- the undo of a page comes to name a row that the page names already, or of such a segment
pub IsPlanOf-shaded : (sh : Shape) (f : Fields) (flash : List (List ℕ)) (plan : Plan) (p t q : ℕ) → Sound sh f flash → p < sh.pages → Names f p q ⊎ IsFreeOf f.job (q / sh.rows) → IsPlanOf sh f flash plan → IsPlanOf sh (with_undo p (Some (Shadow t q)) f) flash plan
IsPlanOf-shaded sh f flash plan p t q sound lt may was = IsPlanOf-references sh f flash plan f.slots (set f.undos p (Some (Shadow t q))) f.places (λ r x names. at r x (named-undo sh f flash p (Shadow t q) r x sound lt names)) was
  where
    at : (r x : ℕ) → Names f r x ⊎ ((r ≡ p) × ((s : ℕ) × (Some (Shadow t q) ≡ Some (Shadow s x)))) → Names f r x ⊎ IsFreeOf f.job (x / sh.rows)
    at r x (inl names) = inl names
    at r x (inr (same, (s, is))) =
        let one : q ≡ x = cc in
        subst (λ (n : ℕ). Names f r n ⊎ IsFreeOf f.job (n / sh.rows)) one (subst (λ (n : ℕ). Names f n q ⊎ IsFreeOf f.job (q / sh.rows)) (sym same) may)

-- it names no row
unshaded : (sh : Shape) (f : Fields) (flash : List (List ℕ)) (plan : Plan) (p : ℕ) (u : Undo) → Sound sh f flash → p < sh.pages → ((t q : ℕ) → Some u ≢ Some (Shadow t q)) → IsPlanOf sh f flash plan → IsPlanOf sh (with_undo p (Some u) f) flash plan
unshaded sh f flash plan p u sound lt none was = IsPlanOf-references sh f flash plan f.slots (set f.undos p (Some u)) f.places (λ r x names. at r x (named-undo sh f flash p u r x sound lt names)) was
  where
    at : (r x : ℕ) → Names f r x ⊎ ((r ≡ p) × ((s : ℕ) × (Some u ≡ Some (Shadow s x)))) → Names f r x ⊎ IsFreeOf f.job (x / sh.rows)
    at r x (inl names) = inl names
    at r x (inr (same, (s, is))) = absurd (none s x is)

pub IsPlanOf-blanked : (sh : Shape) (f : Fields) (flash : List (List ℕ)) (plan : Plan) (p t : ℕ) → Sound sh f flash → p < sh.pages → IsPlanOf sh f flash plan → IsPlanOf sh (with_undo p (Some (Blank t)) f) flash plan
IsPlanOf-blanked sh f flash plan p t sound lt was = unshaded sh f flash plan p (Blank t) sound lt (λ s q is. absurd (cc)) was

pub IsPlanOf-cleared : (sh : Shape) (f : Fields) (flash : List (List ℕ)) (plan : Plan) (p : ℕ) → Sound sh f flash → p < sh.pages → IsPlanOf sh f flash plan → IsPlanOf sh (with_undo p (Some Clear) f) flash plan
IsPlanOf-cleared sh f flash plan p sound lt was = unshaded sh f flash plan p Clear sound lt (λ s q is. absurd (cc)) was

-- a slot after one was written
slot-cases : (slots : List (Option Slot)) (t s : ℕ) (x : Option Slot) → (get_or (set slots t x) s None ≡ get_or slots s None) ⊎ ((s ≡ t) × (get_or (set slots t x) s None ≡ x))
slot-cases slots t s x = at (cases_eq s t) (cases_lt t (length slots))
  where
    at : (s ≡ t) ⊎ (s ≡ t → ⊥) → (t < length slots) ⊎ (length slots ≤ t) → (get_or (set slots t x) s None ≡ get_or slots s None) ⊎ ((s ≡ t) × (get_or (set slots t x) s None ≡ x))
    at (inl same) (inl lt) = inr (same, ap (λ (n : ℕ). get_or (set slots t x) n None) same ∙ get_or-set_same slots t x None lt)
    at (inl same) (inr past) = inl (ap (λ (xs : List (Option Slot)). get_or xs s None) (set_past slots t x past))
    at (inr other) room = inl (get_or-set_other slots t s x None other)

-- a slot that no undo names becomes any
pub IsPlanOf-unused : (sh : Shape) (f : Fields) (flash : List (List ℕ)) (plan : Plan) (t : ℕ) (x : Slot) → IsUnused f t → IsPlanOf sh f flash plan → IsPlanOf sh (with_slot t (Some x) f) flash plan
IsPlanOf-unused sh f flash plan t x unused was = IsPlanOf-references sh f flash plan (set f.slots t (Some x)) f.undos f.places (λ p q names. at p q (Names-cases (with_slot t (Some x) f) p q names)) was
  where
    at : (p q : ℕ) → (place f p ≡ Some (Row q)) ⊎ ((s : ℕ) × (undo f p ≡ Some (Shadow s q)) × (slot (with_slot t (Some x) f) s ≡ Some Active)) → Names f p q ⊎ IsFreeOf f.job (q / sh.rows)
    at p q (inl by_place) = inl (inl by_place)
    at p q (inr (s, shadow, active)) = by (slot-cases f.slots t s (Some x))
      where
        by : (get_or (set f.slots t (Some x)) s None ≡ get_or f.slots s None) ⊎ ((s ≡ t) × (get_or (set f.slots t (Some x)) s None ≡ Some x)) → Names f p q ⊎ IsFreeOf f.job (q / sh.rows)
        by (inl stays) = inl (Names-undo f p s q shadow (sym stays ∙ active))
        by (inr (same, now)) = absurd (unused p (ap slot_named shadow ∙ ap (λ (n : ℕ). Some n) same))

-- a slot becomes one that isn't active
pub IsPlanOf-closed : (sh : Shape) (f : Fields) (flash : List (List ℕ)) (plan : Plan) (t : ℕ) (x : Slot) → x ≢ Active → IsPlanOf sh f flash plan → IsPlanOf sh (with_slot t (Some x) f) flash plan
IsPlanOf-closed sh f flash plan t x closed was = IsPlanOf-references sh f flash plan (set f.slots t (Some x)) f.undos f.places (λ p q names. at p q (Names-cases (with_slot t (Some x) f) p q names)) was
  where
    at : (p q : ℕ) → (place f p ≡ Some (Row q)) ⊎ ((s : ℕ) × (undo f p ≡ Some (Shadow s q)) × (slot (with_slot t (Some x) f) s ≡ Some Active)) → Names f p q ⊎ IsFreeOf f.job (q / sh.rows)
    at p q (inl by_place) = inl (inl by_place)
    at p q (inr (s, shadow, active)) = by (slot-cases f.slots t s (Some x))
      where
        by : (get_or (set f.slots t (Some x)) s None ≡ get_or f.slots s None) ⊎ ((s ≡ t) × (get_or (set f.slots t (Some x)) s None ≡ Some x)) → Names f p q ⊎ IsFreeOf f.job (q / sh.rows)
        by (inl stays) = inl (Names-undo f p s q shadow (sym stays ∙ active))
        by (inr (same, now)) = absurd (closed (let both : Some x ≡ Some Active = sym now ∙ active in cc))
