-- References that are switched to copies, row by row of the spare.
use Rattle.std.proofs.Common.{◌≡◌, ◌≢◌, ◌⊎◌, inl, inr, ℕ, ◌+◌, ◌*◌, ◌/◌, ◌<◌, Bool, true, false, List, get_or, Option, Some, None, refl, sym, ◌∙◌, ap, subst, arith}
use Rattle.std.proofs.lemmas.Bool.{cases_eq}
use Rattle.std.proofs.lemmas.Nat.{mul-add-lt}
use Rattle.envy_base.specs.declared.shape.Shape.{Shape}
use Rattle.envy_base.specs.declared.fields.Job.TheVariants.{Copy, Switch}
use Rattle.envy_base.specs.declared.fields.Place.{Place}
use Rattle.envy_base.specs.declared.fields.Place.TheVariants.{Absent, Row, Frame}
use Rattle.envy_base.specs.declared.fields.Slot.{Slot}
use Rattle.envy_base.specs.declared.fields.Slot.TheVariants.{Active}
use Rattle.envy_base.specs.declared.fields.Undo.{Undo}
use Rattle.envy_base.specs.declared.fields.Undo.TheVariants.{Clear, Shadow}
use Rattle.envy_map.specs.Fields.{Fields, Chart, with_fields, place, undo, slot}
use Rattle.envy_map.specs.Writes.{with_job, with_place, with_undo}
use Rattle.envy_soundness.specs.Frames.{FramesStay}
use Rattle.envy_soundness.specs.Jobs.{IsClear}
use Rattle.envy_soundness.specs.May.{IsCopied}
use Rattle.envy_soundness.specs.Naming.{IsNamed, with_named, AreParted}
use Rattle.envy_soundness.specs.Sound.{Sound, Slots, Places, Rows, Jobs, Copies, IsSound, Names, IsPlaced, IsSpare, owned_by}
use Rattle.envy_soundness.specs.Words.{kept_by}
use Rattle.envy_soundness.proofs.KeptLemmas.{kept_by-active, kept_by-free, kept_by-shadow}
use Rattle.envy_soundness.proofs.NamingLemmas.{Names-named, AreParted-named, fields-named}
use Rattle.envy_soundness.proofs.PlaceLaw.{PlaceCases, place-cases}
use Rattle.envy_soundness.proofs.References.{apart-spare, copy-segment}
use Rattle.envy_soundness.proofs.UndoLaw.{UndoCases, undo-cases}
use Rattle.envy_space.specs.Following.{Followed}
use Rattle.envy_space.specs.Pool.{Pool, PoolAgrees}
use Rattle.envy_space.proofs.FollowLemmas.{Followed-named}
use Rattle.envy_table.specs.Agreement.{AreCurrent}
use Rattle.envy_table.specs.Entries.{Entry}
use Rattle.envy_reloc.specs.declared.row_switch.Switched.{Switched}
use Rattle.envy_reloc.specs.Switching.{SwitchesRow, SwitchesPlace, SwitchesUndo, SwitchesRows, SwitchesAll}

-- a row that a page names, its place does or its undo, whose slot is active
pub Names-cases : (f : Fields) (p q : ℕ) → Names f p q → (place f p ≡ Some (Row q)) ⊎ ((t : ℕ) × (undo f p ≡ Some (Shadow t q)) × (slot f t ≡ Some Active))
Names-cases f p q (inl by_place) = inl by_place
Names-cases f p q (inr by_undo) = at (owned_by f.slots (undo f p)) refl
  where
    at : (o : Bool) → owned_by f.slots (undo f p) ≡ o → (place f p ≡ Some (Row q)) ⊎ ((t : ℕ) × (undo f p ≡ Some (Shadow t q)) × (slot f t ≡ Some Active))
    at true owned = inr (kept_by-shadow f.slots (undo f p) (place f p) q owned by_undo)
    at false free = inl (sym (kept_by-free f.slots (undo f p) (place f p) free) ∙ by_undo)

pub Names-undo : (f : Fields) (p t q : ℕ) → undo f p ≡ Some (Shadow t q) → slot f t ≡ Some Active → Names f p q
Names-undo f p t q shadow active = inr (ap (λ (u : Option Undo). kept_by f.slots u (place f p)) shadow ∙ kept_by-active f.slots (Shadow t q) t (place f p) refl active)

-- a copy isn't named where its origin is
pub copy-free : (sh : Shape) (f : Fields) (flash : List (List ℕ)) (e i p o : ℕ) → Sound sh f flash → IsCopied sh f e i → Names f p (get_or f.origins i 0) → Names f o (e * sh.rows + i) → ⊥
copy-free sh f flash e i p o sound copied origin copy = from copied.switching
  where
    from : (v : ℕ) × (f.job ≡ Some (Switch v)) × IsPlaced sh f.positions v → ⊥
    from (v, switch, placed) = Copies.once (Jobs.copies sound.job v e switch placed copied.spare) o p i copied.row copy origin

-- an origin is no row of the spare
pub origin-apart : (sh : Shape) (f : Fields) (flash : List (List ℕ)) (e i j : ℕ) → Sound sh f flash → IsCopied sh f e i → j < get_or f.fills e 0 → get_or f.origins j 0 ≢ e * sh.rows + i
origin-apart sh f flash e i j sound copied lt same = from copied.switching
  where
    from : (v : ℕ) × (f.job ≡ Some (Switch v)) × IsPlaced sh f.positions v → ⊥
    from (v, switch, placed) =
        let one : e ≡ v = sym (copy-segment sh f flash e i sound copied.row) ∙ ap (λ (x : ℕ). x / sh.rows) (sym same) ∙ Copies.rows (Jobs.copies sound.job v e switch placed copied.spare) j lt in
        apart-spare sh f.positions v placed (subst (λ (x : ℕ). IsSpare sh f.positions x) one copied.spare)

-- One row more: from f, which is what begin became, to g. No page of f names the row, so nothing changes.
next-none : (sh : Shape) (begin f : Fields) (e i : ℕ) → ((p : ℕ) → Names f p (get_or f.origins i 0) → ⊥) → SwitchesRows sh e i begin f → SwitchesRows sh e (i + 1) begin f
next-none sh begin f e i none was = record {
  fields = was.fields;
  by_place = λ p. in_place p (was.by_place p);
  by_undo = λ p. in_undo p (was.by_undo p);
}
  where
    origins : f.origins ≡ begin.origins
    origins = ap (λ (x : Fields). x.origins) was.fields

    slots : f.slots ≡ begin.slots
    slots = ap (λ (x : Fields). x.slots) was.fields

    row : (j : ℕ) → j ≡ i → get_or begin.origins j 0 ≡ get_or f.origins i 0
    row j same = ap (λ (n : ℕ). get_or begin.origins n 0) same ∙ ap (λ (xs : List ℕ). get_or xs i 0) (sym origins)

    in_place : (p : ℕ) → SwitchesPlace sh e i begin f p → SwitchesPlace sh e (i + 1) begin f p
    in_place p (inl (same, before)) = inl (same, λ j lt is. at j lt is (cases_eq j i))
      where
        at : (j : ℕ) → j < i + 1 → place begin p ≡ Some (Row (get_or begin.origins j 0)) → (j ≡ i) ⊎ (j ≡ i → ⊥) → ⊥
        at j lt is (inl last) = none p (inl (same ∙ is ∙ ap (λ (n : ℕ). Some (Row n)) (row j last)))
        at j lt is (inr other) = before j (omega arith) is
    in_place p (inr (j, lt, from, to)) = inr (j, (omega arith), from, to)

    in_undo : (p : ℕ) → SwitchesUndo sh e i begin f p → SwitchesUndo sh e (i + 1) begin f p
    in_undo p (inl (same, before)) = inl (same, λ j t lt is active. at j t lt is active (cases_eq j i))
      where
        at : (j t : ℕ) → j < i + 1 → undo begin p ≡ Some (Shadow t (get_or begin.origins j 0)) → slot begin t ≡ Some Active → (j ≡ i) ⊎ (j ≡ i → ⊥) → ⊥
        at j t lt is active (inl last) = none p (Names-undo f p t (get_or f.origins i 0) (same ∙ is ∙ ap (λ (n : ℕ). Some (Shadow t n)) (row j last)) (ap (λ (xs : List (Option Slot)). get_or xs t None) slots ∙ active))
        at j t lt is active (inr other) = before j t (omega arith) is active
    in_undo p (inr (j, t, lt, from, active, to)) = inr (j, t, (omega arith), from, active, to)

-- page o names the row, by its place or by its undo, and names the copy then
next-some : (sh : Shape) (begin f : Fields) (flash : List (List ℕ)) (e i o : ℕ) (u : Option ℕ) → Sound sh f flash → AreParted f.slots f.undos f.places → IsCopied sh f e i → o < sh.pages → IsNamed f o (get_or f.origins i 0) u → SwitchesRows sh e i begin f → SwitchesRows sh e (i + 1) begin (with_named o (e * sh.rows + i) u f)
next-some sh begin f flash e i o u sound parted copied lt named was = record {
  fields = fields-named f o (e * sh.rows + i) u ∙ ap (λ (x : Fields). record x { places = Fields.places (with_named o (e * sh.rows + i) u f); undos = Fields.undos (with_named o (e * sh.rows + i) u f) }) was.fields;
  by_place = λ p. in_place u named p (was.by_place p);
  by_undo = λ p. in_undo u named p (was.by_undo p);
}
  where
    origins : f.origins ≡ begin.origins
    origins = ap (λ (x : Fields). x.origins) was.fields

    slots : f.slots ≡ begin.slots
    slots = ap (λ (x : Fields). x.slots) was.fields

    row : (j : ℕ) → j ≡ i → get_or begin.origins j 0 ≡ get_or f.origins i 0
    row j same = ap (λ (n : ℕ). get_or begin.origins n 0) same ∙ ap (λ (xs : List ℕ). get_or xs i 0) (sym origins)

    row_is : get_or f.origins i 0 ≡ get_or begin.origins i 0
    row_is = ap (λ (xs : List ℕ). get_or xs i 0) origins

    keeps : Names f o (get_or f.origins i 0)
    keeps = Names-named f o (get_or f.origins i 0) u named

    -- only that page names the row
    one : (p : ℕ) → Names f p (get_or f.origins i 0) → p ≡ o
    one p names = Rows.apart sound.rows p o (get_or f.origins i 0) names keeps

    -- and the row is no copy
    no_copy : (j : ℕ) → j < i → get_or f.origins i 0 ≢ e * sh.rows + j
    no_copy j less = let low = copied.row in origin-apart sh f flash e j i sound (record { switching = copied.switching; spare = copied.spare; row = omega arith }) copied.row

    active_then : (t : ℕ) → slot begin t ≡ Some Active → slot f t ≡ Some Active
    active_then t active = ap (λ (xs : List (Option Slot)). get_or xs t None) slots ∙ active

    in_place : (w : Option ℕ) → IsNamed f o (get_or f.origins i 0) w → (p : ℕ) → SwitchesPlace sh e i begin f p → SwitchesPlace sh e (i + 1) begin (with_named o (e * sh.rows + i) w f) p
    in_place None here p before = by before (place-cases f o p (Some (Row (e * sh.rows + i))) (rw (Places.long sound.places) lt))
      where
        by : SwitchesPlace sh e i begin f p → PlaceCases f o (Some (Row (e * sh.rows + i))) p → SwitchesPlace sh e (i + 1) begin (with_place o (Some (Row (e * sh.rows + i))) f) p
        by (inl (same, none)) (inl (page, now)) = inr (i, (omega arith), sym same ∙ ap (λ (n : ℕ). place f n) page ∙ here ∙ ap (λ (n : ℕ). Some (Row n)) row_is, now)
        by (inr (j, less, from, to)) (inl (page, now)) = absurd (no_copy j less (let both : Some (Row (get_or f.origins i 0)) ≡ Some (Row (e * sh.rows + j)) = sym here ∙ ap (λ (n : ℕ). place f n) (sym page) ∙ to in cc))
        by (inl (same, none)) (inr (other, now)) = inl (now ∙ same, λ j less is. at j less is (cases_eq j i))
          where
            at : (j : ℕ) → j < i + 1 → place begin p ≡ Some (Row (get_or begin.origins j 0)) → (j ≡ i) ⊎ (j ≡ i → ⊥) → ⊥
            at j less is (inl last) = other (one p (inl (same ∙ is ∙ ap (λ (n : ℕ). Some (Row n)) (row j last))))
            at j less is (inr differ) = none j (omega arith) is
        by (inr (j, less, from, to)) (inr (other, now)) = inr (j, (omega arith), from, now ∙ to)
    in_place (Some t) here p (inl (same, none)) = inl (same, λ j less is. at j less is (cases_eq j i))
      where
        at : (j : ℕ) → j < i + 1 → place begin p ≡ Some (Row (get_or begin.origins j 0)) → (j ≡ i) ⊎ (j ≡ i → ⊥) → ⊥
        at j less is (inl last) =
            let now : place f p ≡ Some (Row (get_or f.origins i 0)) = same ∙ is ∙ ap (λ (n : ℕ). Some (Row n)) (row j last) in
            here.3 (ap (λ (n : ℕ). place f n) (sym (one p (inl now))) ∙ now)
        at j less is (inr differ) = none j (omega arith) is
    in_place (Some t) here p (inr (j, less, from, to)) = inr (j, (omega arith), from, to)

    in_undo : (w : Option ℕ) → IsNamed f o (get_or f.origins i 0) w → (p : ℕ) → SwitchesUndo sh e i begin f p → SwitchesUndo sh e (i + 1) begin (with_named o (e * sh.rows + i) w f) p
    in_undo None here p (inl (same, none)) = inl (same, λ j t less is active. at j t less is active (cases_eq j i))
      where
        at : (j t : ℕ) → j < i + 1 → undo begin p ≡ Some (Shadow t (get_or begin.origins j 0)) → slot begin t ≡ Some Active → (j ≡ i) ⊎ (j ≡ i → ⊥) → ⊥
        at j t less is active (inl last) =
            let now : undo f p ≡ Some (Shadow t (get_or f.origins i 0)) = same ∙ is ∙ ap (λ (n : ℕ). Some (Shadow t n)) (row j last) in
            let page = one p (Names-undo f p t (get_or f.origins i 0) now (active_then t active)) in
            parted p t (get_or f.origins i 0) now (active_then t active) (ap (λ (n : ℕ). place f n) page ∙ here)
        at j t less is active (inr differ) = none j t (omega arith) is active
    in_undo None here p (inr (j, t, less, from, active, to)) = inr (j, t, (omega arith), from, active, to)
    in_undo (Some s) here p before = by before (undo-cases f o p (Some (Shadow s (e * sh.rows + i))) (rw (Slots.undos_long sound.slots) lt))
      where
        by : SwitchesUndo sh e i begin f p → UndoCases f o (Some (Shadow s (e * sh.rows + i))) p → SwitchesUndo sh e (i + 1) begin (with_undo o (Some (Shadow s (e * sh.rows + i))) f) p
        by (inl (same, none)) (inl (page, now)) = inr (i, s, (omega arith), sym same ∙ ap (λ (n : ℕ). undo f n) page ∙ here.0 ∙ ap (λ (n : ℕ). Some (Shadow s n)) row_is, ap (λ (xs : List (Option Slot)). get_or xs s None) (sym slots) ∙ here.1, now)
        by (inr (j, t, less, from, active, to)) (inl (page, now)) = absurd (no_copy j less (let both : Some (Shadow s (get_or f.origins i 0)) ≡ Some (Shadow t (e * sh.rows + j)) = sym here.0 ∙ ap (λ (n : ℕ). undo f n) (sym page) ∙ to in cc))
        by (inl (same, none)) (inr (other, now)) = inl (now ∙ same, λ j t less is active. at j t less is active (cases_eq j i))
          where
            at : (j t : ℕ) → j < i + 1 → undo begin p ≡ Some (Shadow t (get_or begin.origins j 0)) → slot begin t ≡ Some Active → (j ≡ i) ⊎ (j ≡ i → ⊥) → ⊥
            at j t less is active (inl last) = other (one p (Names-undo f p t (get_or f.origins i 0) (same ∙ is ∙ ap (λ (n : ℕ). Some (Shadow t n)) (row j last)) (active_then t active)))
            at j t less is active (inr differ) = none j t (omega arith) is active
        by (inr (j, t, less, from, active, to)) (inr (other, now)) = inr (j, t, (omega arith), from, active, now ∙ to)

pub SwitchesRows-next : (sh : Shape) (begin f g : Fields) (flash : List (List ℕ)) (e i : ℕ) (s : Option Switched) → Sound sh f flash → AreParted f.slots f.undos f.places → IsCopied sh f e i → SwitchesRows sh e i begin f → SwitchesRow sh f e i s g → SwitchesRows sh e (i + 1) begin g
SwitchesRows-next sh begin f g flash e i None sound parted copied was (is, none) = subst (λ (x : Fields). SwitchesRows sh e (i + 1) begin x) (sym is) (next-none sh begin f e i none was)
SwitchesRows-next sh begin f g flash e i (Some s) sound parted copied was (row, page, named, is) =
    subst (λ (x : Fields). SwitchesRows sh e (i + 1) begin x) (sym is) (next-some sh begin f flash e i s.kept.page s.kept.undo sound parted copied page (subst (λ (n : ℕ). IsNamed f s.kept.page n s.kept.undo) row named) was)

-- once all rows are switched, no row of the segment is kept
pub IsClear-rows : (sh : Shape) (begin g : Fields) (flash : List (List ℕ)) (v e n : ℕ) → Copies sh begin.slots begin.undos begin.places begin.fills begin.backs begin.origins flash v e → IsPlaced sh begin.positions v → IsSpare sh begin.positions e → n ≡ get_or begin.fills e 0 → ((i : ℕ) → i < n → (e * sh.rows + i) / sh.rows ≡ e) → SwitchesRows sh e n begin g → IsClear sh g v
IsClear-rows sh begin g flash v e n copies placed spare all segment was p q names here = by (Names-cases g p q names)
  where
    slots : g.slots ≡ begin.slots
    slots = ap (λ (x : Fields). x.slots) was.fields

    not_spare : (i : ℕ) → i < n → q ≡ e * sh.rows + i → ⊥
    not_spare i lt is = apart-spare sh begin.positions v placed (subst (λ (x : ℕ). IsSpare sh begin.positions x) (sym (segment i lt) ∙ ap (λ (x : ℕ). x / sh.rows) (sym is) ∙ here) spare)

    by : (place g p ≡ Some (Row q)) ⊎ ((t : ℕ) × (undo g p ≡ Some (Shadow t q)) × (slot g t ≡ Some Active)) → ⊥
    by (inl is) = at (was.by_place p)
      where
        at : SwitchesPlace sh e n begin g p → ⊥
        at (inl (same, none)) = let found = copies.all p q (inl (sym same ∙ is)) here in let low = found.1 in none found.0 (omega (arith, all)) (sym same ∙ is ∙ ap (λ (x : ℕ). Some (Row x)) (sym found.2))
        at (inr (i, lt, from, to)) = not_spare i lt (let both : Some (Row q) ≡ Some (Row (e * sh.rows + i)) = sym is ∙ to in cc)
    by (inr (t, is, active)) = at (was.by_undo p)
      where
        was_active : slot begin t ≡ Some Active
        was_active = ap (λ (xs : List (Option Slot)). get_or xs t None) (sym slots) ∙ active

        at : SwitchesUndo sh e n begin g p → ⊥
        at (inl (same, none)) = let found = copies.all p q (Names-undo begin p t q (sym same ∙ is) was_active) here in let low = found.1 in none found.0 t (omega (arith, all)) (sym same ∙ is ∙ ap (λ (x : ℕ). Some (Shadow t x)) (sym found.2)) was_active
        at (inr (i, r, lt, from, open_then, to)) = not_spare i lt (let both : Some (Shadow t q) ≡ Some (Shadow r (e * sh.rows + i)) = sym is ∙ to in cc)

-- what follows one switched row
pub Followed-switched : (sh : Shape) (f g : Fields) (flash : List (List ℕ)) (e i r : ℕ) (s : Switched) (pool : Pool) → Sound sh f flash → Sound sh g flash → AreParted f.slots f.undos f.places → PoolAgrees sh f pool → IsCopied sh f e i → e < sh.segments → i < sh.rows → r ≡ e * sh.rows + i → SwitchesRow sh f e i (Some s) g → Followed sh g s.row r pool
Followed-switched sh f g flash e i r s pool sound then_sound parted agrees copied lt low is (row, page, named, written) =
    rw is (subst (λ (x : Fields). Followed sh x s.row (e * sh.rows + i) pool) (sym written)
    (Followed-named sh f flash s.kept.page s.row (e * sh.rows + i) s.kept.undo pool sound parted agrees named
    (λ names. copy-free sh f flash e i s.kept.page s.kept.page sound copied (subst (λ (x : ℕ). Names f s.kept.page x) row keeps) names)
    (let below = mul-add-lt e sh.rows i sh.segments lt low in omega (arith, below))
    (subst (λ (x : Fields). Sound sh x flash) written then_sound)))
  where
    keeps : Names f s.kept.page s.row
    keeps = Names-named f s.kept.page s.row s.kept.undo named

pub AreParted-switched : (sh : Shape) (f g : Fields) (flash : List (List ℕ)) (e i : ℕ) (s : Switched) → Sound sh f flash → AreParted f.slots f.undos f.places → IsCopied sh f e i → SwitchesRow sh f e i (Some s) g → AreParted g.slots g.undos g.places
AreParted-switched sh f g flash e i s sound parted copied (row, page, named, written) =
    subst (λ (x : Fields). AreParted x.slots x.undos x.places) (sym written)
    (AreParted-named sh f flash s.kept.page s.row (e * sh.rows + i) s.kept.undo sound parted page named
    (λ names. copy-free sh f flash e i s.kept.page s.kept.page sound copied (subst (λ (x : ℕ). Names f s.kept.page x) row (Names-named f s.kept.page s.row s.kept.undo named)) names))

pub AreCurrent-switched : (sh : Shape) (f g : Fields) (e i r pages : ℕ) (s : Switched) (entries then_entries : List Entry) → r ≡ e * sh.rows + i → SwitchesRow sh f e i (Some s) g → AreCurrent pages f.places entries → ((ps : ℕ) (h : Fields) → AreCurrent ps h.places entries → AreCurrent ps (Fields.places (with_named s.kept.page r s.kept.undo h)) then_entries) → AreCurrent pages g.places then_entries
AreCurrent-switched sh f g e i r pages s entries then_entries is (row, page, named, written) current follows =
    subst (λ (x : Fields). AreCurrent pages x.places then_entries) (sym written)
    (subst (λ (x : ℕ). AreCurrent pages (Fields.places (with_named s.kept.page x s.kept.undo f)) then_entries) is (follows pages f current))

-- row i of the spare is still a copy, while rows are switched
pub IsCopied-going : (old begin now : Chart) (v e n i : ℕ) → IsSound old → old.fields.job ≡ Some (Copy v) → IsSpare old.shape old.fields.positions e → begin ≡ with_fields old (with_job (Some (Switch v)) old.fields) → now.shape ≡ old.shape → SwitchesRows now.shape e n begin.fields now.fields → i < get_or old.fields.fills e 0 → IsCopied now.shape now.fields e i
IsCopied-going old begin now v e n i sound copying spare begins shape rows lt =
    subst (λ (sh : Shape). IsCopied sh now.fields e i) (sym shape) (record {
      switching = (v, ap (λ (x : Fields). x.job) going, subst (λ (xs : List ℕ). IsPlaced old.shape xs v) (sym positions) (Jobs.copying (Sound.job sound) v copying));
      spare = subst (λ (xs : List ℕ). IsSpare old.shape xs e) (sym positions) spare;
      row = let is : get_or now.fields.fills e 0 ≡ get_or old.fields.fills e 0 = ap (λ (x : Fields). get_or x.fills e 0) going in omega arith;
    })
  where
    going : now.fields ≡ record (with_job (Some (Switch v)) old.fields) { places = Fields.places now.fields; undos = Fields.undos now.fields }
    going = rows.fields ∙ ap (λ (x : Chart). record x.fields { places = Fields.places now.fields; undos = Fields.undos now.fields }) begins

    positions : now.fields.positions ≡ old.fields.positions
    positions = ap (λ (x : Fields). x.positions) going

-- the whole segment, from its job of before
pub SwitchesAll-rows : (sh : Shape) (f g : Fields) (flash : List (List ℕ)) (v e n : ℕ) → Copies sh f.slots f.undos f.places f.fills f.backs f.origins flash v e → IsPlaced sh f.positions v → IsSpare sh f.positions e → n ≡ get_or f.fills e 0 → ((i : ℕ) → i < n → (e * sh.rows + i) / sh.rows ≡ e) → SwitchesRows sh e n (with_job (Some (Switch v)) f) g → SwitchesAll sh v e f g
SwitchesAll-rows sh f g flash v e n copies placed spare all segment was = record {
  fields = was.fields;
  place_switched = λ p q is here. to_copy p q is here (was.by_place p);
  place_stays = λ p others. stays p others (was.by_place p);
  undo_switched = λ p t q is active here. undo_to_copy p t q is active here (was.by_undo p);
  undo_stays = λ p others. undo_as_was p others (was.by_undo p);
  clear = IsClear-rows sh (with_job (Some (Switch v)) f) g flash v e n copies placed spare all segment was;
}
  where
    to_copy : (p q : ℕ) → place f p ≡ Some (Row q) → q / sh.rows ≡ v → SwitchesPlace sh e n (with_job (Some (Switch v)) f) g p → (r : ℕ) × ((i : ℕ) × (i < get_or f.fills e 0) × (get_or f.origins i 0 ≡ q) × (r ≡ e * sh.rows + i)) × (place g p ≡ Some (Row r))
    to_copy p q is here (inl (same, none)) = let found = copies.all p q (inl is) here in let low = found.1 in absurd (none found.0 (omega (arith, all)) (is ∙ ap (λ (x : ℕ). Some (Row x)) (sym found.2)))
    to_copy p q is here (inr (i, lt, from, to)) = (e * sh.rows + i, (i, (omega (arith, all, lt)), (let both : Some (Row (get_or f.origins i 0)) ≡ Some (Row q) = sym from ∙ is in cc), refl), to)

    stays : (p : ℕ) → ((q : ℕ) → place f p ≡ Some (Row q) → q / sh.rows ≢ v) → SwitchesPlace sh e n (with_job (Some (Switch v)) f) g p → place g p ≡ place f p
    stays p others (inl (same, none)) = same
    stays p others (inr (i, lt, from, to)) = absurd (others (get_or f.origins i 0) from (copies.rows i (omega (arith, all, lt))))

    undo_to_copy : (p t q : ℕ) → undo f p ≡ Some (Shadow t q) → slot f t ≡ Some Active → q / sh.rows ≡ v → SwitchesUndo sh e n (with_job (Some (Switch v)) f) g p → (r : ℕ) × ((i : ℕ) × (i < get_or f.fills e 0) × (get_or f.origins i 0 ≡ q) × (r ≡ e * sh.rows + i)) × (undo g p ≡ Some (Shadow t r))
    undo_to_copy p t q is active here (inl (same, none)) = let found = copies.all p q (Names-undo f p t q is active) here in let low = found.1 in absurd (none found.0 t (omega (arith, all)) (is ∙ ap (λ (x : ℕ). Some (Shadow t x)) (sym found.2)) active)
    undo_to_copy p t q is active here (inr (i, s, lt, from, open_then, to)) =
        let both : Some (Shadow s (get_or f.origins i 0)) ≡ Some (Shadow t q) = sym from ∙ is in
        let one : s ≡ t = cc in
        (e * sh.rows + i, (i, (omega (arith, all, lt)), (cc), refl), to ∙ ap (λ (x : ℕ). Some (Shadow x (e * sh.rows + i))) one)

    undo_as_was : (p : ℕ) → ((t q : ℕ) → undo f p ≡ Some (Shadow t q) → slot f t ≡ Some Active → q / sh.rows ≢ v) → SwitchesUndo sh e n (with_job (Some (Switch v)) f) g p → undo g p ≡ undo f p
    undo_as_was p others (inl (same, none)) = same
    undo_as_was p others (inr (i, t, lt, from, active, to)) = absurd (others t (get_or f.origins i 0) from active (copies.rows i (omega (arith, all, lt))))

pub SwitchesAll-made : (old begin new : Chart) (v e n : ℕ) → IsSound old → Copies old.shape old.fields.slots old.fields.undos old.fields.places old.fields.fills old.fields.backs old.fields.origins old.flash v e → old.fields.job ≡ Some (Copy v) → IsSpare old.shape old.fields.positions e → begin ≡ with_fields old (with_job (Some (Switch v)) old.fields) → new.shape ≡ old.shape → SwitchesRows old.shape e n begin.fields new.fields → get_or old.fields.fills e 0 ≡ n → SwitchesAll old.shape v e old.fields new.fields
SwitchesAll-made old begin new v e n sound copies copying spare begins shape rows filled =
    SwitchesAll-rows old.shape old.fields new.fields old.flash v e n copies (Jobs.copying (Sound.job sound) v copying) spare (sym filled)
    (λ i lt. copy-segment old.shape old.fields old.flash e i sound (omega (arith, filled, lt)))
    (subst (λ (x : Chart). SwitchesRows old.shape e n x.fields new.fields) begins rows)

-- each frame stays
pub FramesStay-switched : (sh : Shape) (v e : ℕ) (f g : Fields) → SwitchesAll sh v e f g → FramesStay f.places g.places
FramesStay-switched sh v e f g all p k = ((λ at. before at (cases (place f p) refl)), (λ at. after at (cases (place f p) refl)))
  where
    cases : (x : Option Place) → place f p ≡ x → (place g p ≡ place f p) ⊎ ((q r : ℕ) × (place f p ≡ Some (Row q)) × (place g p ≡ Some (Row r)))
    cases (Some (Row q)) is = by (cases_eq (q / sh.rows) v)
      where
        by : (q / sh.rows ≡ v) ⊎ (q / sh.rows ≡ v → ⊥) → (place g p ≡ place f p) ⊎ ((q r : ℕ) × (place f p ≡ Some (Row q)) × (place g p ≡ Some (Row r)))
        by (inl here) = let to = all.place_switched p q is here in inr (q, to.0, is, to.2)
        by (inr other) = inl (all.place_stays p (λ r at same. other (let both : Some (Row q) ≡ Some (Row r) = sym is ∙ at in let one : q ≡ r = cc in ap (λ (x : ℕ). x / sh.rows) one ∙ same)))
    cases None is = inl (all.place_stays p (λ r at. absurd (let both : None ≡ Some (Row r) = sym is ∙ at in cc)))
    cases (Some Absent) is = inl (all.place_stays p (λ r at. absurd (let both : Some Absent ≡ Some (Row r) = sym is ∙ at in cc)))
    cases (Some (Frame o)) is = inl (all.place_stays p (λ r at. absurd (let both : Some (Frame o) ≡ Some (Row r) = sym is ∙ at in cc)))

    before : place g p ≡ Some (Frame k) → (place g p ≡ place f p) ⊎ ((q r : ℕ) × (place f p ≡ Some (Row q)) × (place g p ≡ Some (Row r))) → place f p ≡ Some (Frame k)
    before at (inl same) = sym same ∙ at
    before at (inr (q, r, from, to)) = absurd (let clash : Some (Row r) ≡ Some (Frame k) = sym to ∙ at in cc)

    after : place f p ≡ Some (Frame k) → (place g p ≡ place f p) ⊎ ((q r : ℕ) × (place f p ≡ Some (Row q)) × (place g p ≡ Some (Row r))) → place g p ≡ Some (Frame k)
    after at (inl same) = same ∙ at
    after at (inr (q, r, from, to)) = absurd (let clash : Some (Row q) ≡ Some (Frame k) = sym from ∙ at in cc)

-- where no undo names a row, no undo changes
pub undos-switched : (sh : Shape) (f g : Fields) (e i : ℕ) (s : Option Switched) → ((p : ℕ) → p < sh.pages → undo f p ≡ Some Clear) → SwitchesRow sh f e i s g → g.undos ≡ f.undos
undos-switched sh f g e i None clear (is, none) = ap (λ (x : Fields). x.undos) is
undos-switched sh f g e i (Some s) clear (row, page, named, is) = ap (λ (x : Fields). x.undos) is ∙ at s.kept.undo named
  where
    at : (u : Option ℕ) → IsNamed f s.kept.page s.row u → Fields.undos (with_named s.kept.page (e * sh.rows + i) u f) ≡ f.undos
    at None named = refl
    at (Some t) (shadow, active, low, other) = absurd (let clash : Some Clear ≡ Some (Shadow t s.row) = sym (clear s.kept.page page) ∙ shadow in cc)

-- row i of the spare is a copy, from a board on which the segment is already being switched
pub IsCopied-kept : (old now : Chart) (v e n i : ℕ) → IsSound old → old.fields.job ≡ Some (Switch v) → IsPlaced old.shape old.fields.positions v → IsSpare old.shape old.fields.positions e → now.shape ≡ old.shape → SwitchesRows now.shape e n old.fields now.fields → i < get_or old.fields.fills e 0 → IsCopied now.shape now.fields e i
IsCopied-kept old now v e n i sound switch placed spare shape rows lt =
    subst (λ (sh : Shape). IsCopied sh now.fields e i) (sym shape) (record {
      switching = (v, ap (λ (x : Fields). x.job) rows.fields ∙ switch, subst (λ (xs : List ℕ). IsPlaced old.shape xs v) (sym positions) placed);
      spare = subst (λ (xs : List ℕ). IsSpare old.shape xs e) (sym positions) spare;
      row = let is : get_or now.fields.fills e 0 ≡ get_or old.fields.fills e 0 = ap (λ (x : Fields). get_or x.fills e 0) rows.fields in omega arith;
    })
  where
    positions : now.fields.positions ≡ old.fields.positions
    positions = ap (λ (x : Fields). x.positions) rows.fields

-- none has been switched yet
pub SwitchesRows-none : (sh : Shape) (e : ℕ) (f : Fields) → SwitchesRows sh e 0 f f
SwitchesRows-none sh e f = record {
  fields = refl;
  by_place = λ p. inl (refl, λ i lt. absurd (omega arith));
  by_undo = λ p. inl (refl, λ i t lt. absurd (omega arith));
}
