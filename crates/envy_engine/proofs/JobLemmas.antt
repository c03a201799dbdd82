-- What changes of a map leave of the agreement with a relocation.
use Rattle.std.proofs.Common.{◌≡◌, ◌≢◌, ◌⊎◌, inl, inr, ℕ, ◌+◌, ◌*◌, ◌/◌, ◌<◌, List, [], length, get_or, set, Option, None, Some, refl, sym, ◌∙◌, ap}
use Rattle.std.proofs.lemmas.Bool.{cases_eq}
use Rattle.std.proofs.lemmas.List.{get_or-set_same, get_or-set_other}
use Rattle.envy_base.specs.declared.shape.Shape.{Shape}
use Rattle.envy_base.specs.declared.fields.Job.TheVariants.{Copy, Switch}
use Rattle.envy_base.specs.declared.fields.Place.{Place}
use Rattle.envy_base.specs.declared.fields.Place.TheVariants.{Row, Frame}
use Rattle.envy_base.specs.declared.fields.Slot.{Slot}
use Rattle.envy_base.specs.declared.fields.Undo.{Undo}
use Rattle.envy_base.specs.declared.fields.Undo.TheVariants.{Shadow}
use Rattle.envy_map.specs.Fields.{Fields, place, undo}
use Rattle.envy_map.specs.Writes.{with_back, with_fill, with_place}
use Rattle.envy_soundness.specs.Sound.{Sound, Names, IsPlaced, IsSpare}
use Rattle.envy_soundness.specs.Words.{kept_by}
use Rattle.envy_soundness.proofs.KeptLemmas.{kept_by-active}
use Rattle.envy_soundness.proofs.PlaceLaw.{Names-placed}
use Rattle.envy_soundness.proofs.References.{copy-segment}
use Rattle.envy_reloc.specs.Plan.{IsFreeOf}
use Rattle.envy_soundness.specs.Naming.{AreParted}
use Rattle.envy_reloc.specs.Plan.{Plan, IsPlanOf, AreCopies, HasCopy}
use Rattle.envy_reloc.proofs.WriteLemmas.{other-spare}

-- a row of a segment that the job leaves free is claimed
pub IsPlanOf-claimed : (sh : Shape) (f : Fields) (flash : List (List ℕ)) (t : Plan) (s q p n : ℕ) → Sound sh f flash → IsPlaced sh f.positions s → IsFreeOf f.job s → q / sh.rows ≡ s → IsPlanOf sh f flash t → IsPlanOf sh (with_fill s n (with_back q p f)) flash t
IsPlanOf-claimed sh f flash t s q p n sound placed free here a = record {
  prepared = record {
    moves = a.prepared.moves;
    aside = a.prepared.aside;
    copies = λ v e copy spare.
        let c = a.prepared.copies v e copy spare in
        let level : get_or (set f.fills s n) e 0 ≡ get_or f.fills e 0 = get_or-set_other f.fills s e n 0 (other-spare sh f.positions s e placed spare) in
        record {
          each = λ i lt. let low = rw level at lt in let one = AreCopies.each c i low in record {
            row = one.row;
            same = one.same;
            back =
                get_or-set_other f.backs q (e * sh.rows + i) p 0 (λ is. other-spare sh f.positions s e placed spare (sym (copy-segment sh f flash e i sound low) ∙ ap (λ (x : ℕ). x / sh.rows) is ∙ here))
                ∙ one.back
                ∙ sym (get_or-set_other f.backs q (get_or f.origins i 0) p 0 (λ is. free.0 (copy ∙ ap (λ (x : ℕ). Some (Copy x)) (sym one.row ∙ ap (λ (x : ℕ). x / sh.rows) is ∙ here))));
          };
          apart = λ i j lt less. AreCopies.apart c i j (rw (← level) lt) (rw (← level) less);
        };
  };
  marked = record {
    kept = λ v e r x copy spare names here_too less.
        let level : get_or (set f.fills s n) e 0 ≡ get_or f.fills e 0 = get_or-set_other f.fills s e n 0 (other-spare sh f.positions s e placed spare) in
        rw level (a.marked.kept v e r x copy spare names here_too less);
    copied = λ v e i copy spare lt.
        let level : get_or (set f.fills s n) e 0 ≡ get_or f.fills e 0 = get_or-set_other f.fills s e n 0 (other-spare sh f.positions s e placed spare) in
        a.marked.copied v e i copy spare (rw (← level) lt);
  };
  switched = record { placed = a.switched.placed; clear = a.switched.clear };
}

-- a row of such a segment is programmed
pub IsPlanOf-programmed : (sh : Shape) (f : Fields) (flash new : List (List ℕ)) (t : Plan) (s q : ℕ) → Sound sh f flash → IsPlaced sh f.positions s → IsFreeOf f.job s → q / sh.rows ≡ s → ((r : ℕ) → r ≢ q → get_or new r [] ≡ get_or flash r []) → IsPlanOf sh f flash t → IsPlanOf sh f new t
IsPlanOf-programmed sh f flash new t s q sound placed free here others a = record {
  prepared = record {
    moves = a.prepared.moves;
    aside = a.prepared.aside;
    copies = λ v e copy spare. let c = a.prepared.copies v e copy spare in record {
      each = λ i lt. let one = AreCopies.each c i lt in record {
        row = one.row;
        same =
            others (e * sh.rows + i) (λ is. other-spare sh f.positions s e placed spare (sym (copy-segment sh f flash e i sound lt) ∙ ap (λ (x : ℕ). x / sh.rows) is ∙ here))
            ∙ one.same
            ∙ sym (others (get_or f.origins i 0) (λ is. free.0 (copy ∙ ap (λ (x : ℕ). Some (Copy x)) (sym one.row ∙ ap (λ (x : ℕ). x / sh.rows) is ∙ here))));
        back = one.back;
      };
      apart = AreCopies.apart c;
    };
  };
  marked = a.marked;
  switched = record { placed = a.switched.placed; clear = a.switched.clear };
}

-- a page moves to a row of such a segment
pub IsPlanOf-rowed : (sh : Shape) (f : Fields) (flash : List (List ℕ)) (t : Plan) (s q p : ℕ) → p < length f.places → IsFreeOf f.job s → q / sh.rows ≡ s → IsPlanOf sh f flash t → IsPlanOf sh (with_place p (Some (Row q)) f) flash t
IsPlanOf-rowed sh f flash t s q p lt free here a = record {
  prepared = a.prepared;
  marked = record {
    kept = λ v e r x copy spare names own less. old v e r x copy spare own less (Names-placed f p (Some (Row q)) r x lt names);
    copied = a.marked.copied;
  };
  switched = record {
    placed = a.switched.placed;
    clear = λ v r x switch names. at v r x switch (Names-placed f p (Some (Row q)) r x lt names);
  };
}
  where
    old : (v e r x : ℕ) → f.job ≡ Some (Copy v) → IsSpare sh f.positions e → x / sh.rows ≡ v → x < t.mark → Names f r x ⊎ ((r ≡ p) × (Some (Row q) ≡ Some (Row x))) → HasCopy f.origins (get_or f.fills e 0) x
    old v e r x copy spare own less (inl names) = a.marked.kept v e r x copy spare names own less
    old v e r x copy spare own less (inr (same, is)) = absurd (free.0 (copy ∙ ap (λ (y : ℕ). Some (Copy y)) (sym own ∙ ap (λ (y : ℕ). y / sh.rows) (let e : x ≡ q = cc in e) ∙ here)))

    at : (v r x : ℕ) → f.job ≡ Some (Switch v) → Names f r x ⊎ ((r ≡ p) × (Some (Row q) ≡ Some (Row x))) → x / sh.rows ≢ v
    at v r x switch (inl old) = a.switched.clear v r x switch old
    at v r x switch (inr (same, is)) = λ own. free.1 (switch ∙ ap (λ (y : ℕ). Some (Switch y)) (sym own ∙ ap (λ (y : ℕ). y / sh.rows) (let e : x ≡ q = cc in e) ∙ here))

-- a page moves to a frame
pub IsPlanOf-framed : (sh : Shape) (f : Fields) (flash : List (List ℕ)) (t : Plan) (p k : ℕ) → p < length f.places → IsPlanOf sh f flash t → IsPlanOf sh (with_place p (Some (Frame k)) f) flash t
IsPlanOf-framed sh f flash t p k lt a = record {
  prepared = a.prepared;
  marked = record {
    kept = λ v e r x copy spare names own less. old v e r x copy spare own less (Names-placed f p (Some (Frame k)) r x lt names);
    copied = a.marked.copied;
  };
  switched = record {
    placed = a.switched.placed;
    clear = λ v r x switch names. at v r x switch (Names-placed f p (Some (Frame k)) r x lt names);
  };
}
  where
    old : (v e r x : ℕ) → f.job ≡ Some (Copy v) → IsSpare sh f.positions e → x / sh.rows ≡ v → x < t.mark → Names f r x ⊎ ((r ≡ p) × (Some (Frame k) ≡ Some (Row x))) → HasCopy f.origins (get_or f.fills e 0) x
    old v e r x copy spare own less (inl names) = a.marked.kept v e r x copy spare names own less
    old v e r x copy spare own less (inr (same, is)) = cc

    at : (v r x : ℕ) → f.job ≡ Some (Switch v) → Names f r x ⊎ ((r ≡ p) × (Some (Frame k) ≡ Some (Row x))) → x / sh.rows ≢ v
    at v r x switch (inl old) = a.switched.clear v r x switch old
    at v r x switch (inr (same, is)) = cc

-- the row is no other that the page's undo names
pub AreParted-rowed : (f : Fields) (p q : ℕ) → p < length f.places → (Names f p q → ⊥) → AreParted f.slots f.undos f.places → AreParted f.slots f.undos (set f.places p (Some (Row q)))
AreParted-rowed f p q lt fresh two r t x shadow active is = at (cases_eq r p)
  where
    at : (r ≡ p) ⊎ (r ≡ p → ⊥) → ⊥
    at (inl same) =
        let row : Some (Row q) ≡ Some (Row x) = sym (get_or-set_same f.places p (Some (Row q)) None lt) ∙ ap (λ (y : ℕ). get_or (set f.places p (Some (Row q))) y None) (sym same) ∙ is in
        let e : x ≡ q = cc in
        let named : kept_by f.slots (undo f r) (place f r) ≡ Some (Row x) = ap (λ (u : Option Undo). kept_by f.slots u (place f r)) shadow ∙ kept_by-active f.slots (Shadow t x) t (place f r) refl active in
        fresh (inr (ap (λ (y : ℕ). kept_by f.slots (undo f y) (place f y)) (sym same) ∙ named ∙ ap (λ (y : ℕ). Some (Row y)) e))
    at (inr other) = two r t x shadow active (sym (get_or-set_other f.places p r (Some (Row q)) None other) ∙ is)

-- a frame is no row
pub AreParted-framed : (f : Fields) (p k : ℕ) → p < length f.places → AreParted f.slots f.undos f.places → AreParted f.slots f.undos (set f.places p (Some (Frame k)))
AreParted-framed f p k lt two r t x shadow active is = at (cases_eq r p)
  where
    at : (r ≡ p) ⊎ (r ≡ p → ⊥) → ⊥
    at (inl same) =
        let row : Some (Frame k) ≡ Some (Row x) = sym (get_or-set_same f.places p (Some (Frame k)) None lt) ∙ ap (λ (y : ℕ). get_or (set f.places p (Some (Frame k))) y None) (sym same) ∙ is in
        cc
    at (inr other) = two r t x shadow active (sym (get_or-set_other f.places p r (Some (Frame k)) None other) ∙ is)

-- references changed, and no page names a row that it didn't name before
pub IsPlanOf-fewer : (sh : Shape) (f : Fields) (flash : List (List ℕ)) (t : Plan) (ss : List (Option Slot)) (ps : List (Option Place)) (us : List (Option Undo)) → ((r x : ℕ) → Names (record f { slots = ss; places = ps; undos = us }) r x → Names f r x) → IsPlanOf sh f flash t → IsPlanOf sh (record f { slots = ss; places = ps; undos = us }) flash t
IsPlanOf-fewer sh f flash t ss ps us fewer a = record {
  prepared = a.prepared;
  marked = record { kept = λ v e p q copy spare names own less. a.marked.kept v e p q copy spare (fewer p q names) own less; copied = a.marked.copied };
  switched = record { placed = a.switched.placed; clear = λ v p q switch names. a.switched.clear v p q switch (fewer p q names) };
}

-- words of frames changed
pub IsPlanOf-words : (sh : Shape) (f : Fields) (flash : List (List ℕ)) (t : Plan) (ws : List ℕ) → IsPlanOf sh f flash t → IsPlanOf sh (record f { frames = ws }) flash t
IsPlanOf-words sh f flash t ws a = record { prepared = a.prepared; marked = a.marked; switched = a.switched }

-- the same where its count of erases begins anew
pub IsPlanOf-anew : (sh : Shape) (f : Fields) (flash : List (List ℕ)) (x y : Plan) → y ≡ record x { since = 0 } → IsPlanOf sh f flash x → IsPlanOf sh f flash y
IsPlanOf-anew sh f flash x y is p = rw is (record {
  prepared = let a = p.prepared in record { moves = a.moves; aside = a.aside; copies = a.copies };
  marked = p.marked;
  switched = p.switched;
})
