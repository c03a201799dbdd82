-- The first put of a slot to a page that is in no frame: its undo names what it leaves, and it comes into a frame.
use Rattle.std.proofs.Common.{◌≡◌, ◌⊎◌, inl, inr, Bool, true, false, ℕ, ◌+◌, ◌/◌, ◌<◌, List, length, get_or, set, Option, None, Some, refl, sym, ◌∙◌, ap, subst, arith}
use Rattle.std.specs.Prelude.{if◌then◌else◌, ◌==◌, ◌&&◌}
use Rattle.std.proofs.lemmas.Bool.{cases_eq}
use Rattle.std.proofs.lemmas.List.{get_or-set_same, get_or-set_other}
use Rattle.envy_base.specs.Shape.{IsShape}
use Rattle.envy_base.specs.declared.fields.Place.{Place}
use Rattle.envy_base.specs.declared.fields.Place.TheVariants.{Absent, Row, Frame}
use Rattle.envy_base.specs.declared.fields.Slot.{Slot}
use Rattle.envy_base.specs.declared.fields.Slot.TheVariants.{Active}
use Rattle.envy_base.specs.declared.fields.Undo.{Undo}
use Rattle.envy_base.specs.declared.fields.Undo.TheVariants.{Blank, Shadow}
use Rattle.envy_base.specs.declared.shape.Shape.{Shape}
use Rattle.envy_map.specs.Codes.{IsUndo}
use Rattle.envy_map.specs.Fields.{Fields, Chart, with_fields, place, undo}
use Rattle.envy_map.specs.Writes.{with_place, with_undo}
use Rattle.envy_frames.specs.Agreement.{IsElsewhere}
use Rattle.envy_soundness.specs.May.{MayUndo}
use Rattle.envy_soundness.specs.Naming.{AreParted}
use Rattle.envy_soundness.specs.PageRows.{page_kept_in}
use Rattle.envy_soundness.specs.RowKinds.{is_shadow_in}
use Rattle.envy_soundness.specs.Sound.{Sound, Slots, Places, IsSound, Names, owned_by, slot_named}
use Rattle.envy_meaning.specs.Transactions.{Owns}
use Rattle.envy_soundness.specs.Words.{kept, kept_by, word_at}
use Rattle.envy_soundness.proofs.KeptCounts.{page_kept_in-free}
use Rattle.envy_soundness.proofs.KeptLemmas.{kept_by-free, kept_by-active}
use Rattle.envy_meaning.proofs.Owners.{unowned}
use Rattle.envy_space.specs.Pool.{PoolAgrees}
use Rattle.envy_space.proofs.NotingLemmas.{PoolAgrees-same}
use Rattle.envy_table.specs.Agreement.{AreCurrent}
use Rattle.envy_txn.specs.Owners.{Ownership}
use Rattle.envy_engine.specs.Agreement.{Agrees, PartsAgree}
use Rattle.envy_engine.specs.Putting.{MayGive, undo_for}
use Rattle.envy_engine.specs.Storing.{Near}
use Rattle.envy_engine.specs.declared.parts.Parts.{Parts}
use Rattle.envy_engine.proofs.JobLemmas.{IsPlanOf-fewer}
use Rattle.envy_engine.proofs.NearLemmas.{room-near as room}

free : (c : Chart) (o : Ownership) (t p : ℕ) → MayGive t p c o → owned_by c.fields.slots (undo c.fields p) ≡ false
free c o t p may = unowned c.fields.slots (undo c.fields p) (sym (may.owned p) ∙ may.free)

-- a restart reads a page that nobody owns at its place
kept-here : (c : Chart) (o : Ownership) (t p : ℕ) (from : Place) → MayGive t p c o → place c.fields p ≡ Some from → kept c.fields p ≡ Some from
kept-here c o t p from may here = kept_by-free c.fields.slots (undo c.fields p) (place c.fields p) (free c o t p may) ∙ here

pub MayUndo-left : (c : Chart) (o : Ownership) (t p : ℕ) (from : Place) (u : Undo) → MayGive t p c o → place c.fields p ≡ Some from → undo_for t from ≡ Some u → MayUndo c.shape c.fields c.flash p u
MayUndo-left c o t p Absent u may here is =
    let e : ◌≡◌ {A = Undo} (Blank t) u = cc in
    subst (MayUndo c.shape c.fields c.flash p) e (may.opened, λ j lt. ap (λ (x : Option Place). word_at c.fields.frames c.flash x j) (sym (kept-here c o t p Absent may here)))
MayUndo-left c o t p (Row q) u may here is =
    let e : ◌≡◌ {A = Undo} (Shadow t q) u = cc in
    subst (MayUndo c.shape c.fields c.flash p) e (may.opened, inl (inl here), λ j lt. ap (λ (x : Option Place). word_at c.fields.frames c.flash x j) (sym (kept-here c o t p (Row q) may here)))
MayUndo-left c o t p (Frame k) u may here is = absurd (let no : None ≡ Some u = is in cc)

pub IsUndo-left : (c : Chart) (o : Ownership) (t p : ℕ) (from : Place) (u : Undo) → IsShape c.shape → IsSound c → MayGive t p c o → place c.fields p ≡ Some from → undo_for t from ≡ Some u → IsUndo u
IsUndo-left c o t p Absent u shape sound may here is = let e : ◌≡◌ {A = Undo} (Blank t) u = cc in subst IsUndo e may.low
IsUndo-left c o t p (Row q) u shape sound may here is =
    let e : ◌≡◌ {A = Undo} (Shadow t q) u = cc in
    let range = Places.rows (Sound.places sound) p q here in
    let few = shape.few in
    subst IsUndo e (may.low, omega arith)
IsUndo-left c o t p (Frame k) u shape sound may here is = absurd (let no : None ≡ Some u = is in cc)

pub slot-left : (t : ℕ) (from : Place) (u : Undo) → undo_for t from ≡ Some u → slot_named (Some u) ≡ Some t
slot-left t Absent u is = let e : ◌≡◌ {A = Undo} (Blank t) u = cc in ap (λ (x : Undo). slot_named (Some x)) (sym e)
slot-left t (Row q) u is = let e : ◌≡◌ {A = Undo} (Shadow t q) u = cc in ap (λ (x : Undo). slot_named (Some x)) (sym e)
slot-left t (Frame k) u is = absurd (let no : None ≡ Some u = is in cc)

pub Owns-left : (c new : Chart) (t p : ℕ) (u : Undo) → p < length c.fields.undos → slot_named (Some u) ≡ Some t → new ≡ with_fields c (with_undo p (Some u) c.fields) → Owns t p c new
Owns-left c new t p u lt named is = subst (Owns t p c) (sym is) (record {
  shape = refl;
  magic = refl;
  version = refl;
  slots = refl;
  own = ap slot_named (get_or-set_same c.fields.undos p (Some u) None lt) ∙ named;
  others = λ r other. ap slot_named (get_or-set_other c.fields.undos p r (Some u) None other);
})

zero_more : (n : ℕ) → 0 + n ≡ n
zero_more n = omega arith

whole : (b : Bool) → (b && true) ≡ b
whole true = refl
whole false = refl

-- the row that a page leaves is kept by its undo, so that it names as many rows as before
many : (sh : Shape) (slots : List (Option Slot)) (u : Option Undo) (t k : ℕ) (from : Place) (s : ℕ) → owned_by slots u ≡ false → get_or slots t None ≡ Some Active → IsElsewhere (Some from) → page_kept_in sh slots (undo_for t from) (Some (Frame k)) s ≡ page_kept_in sh slots u (Some from) s
many sh slots u t k Absent s free active elsewhere =
    ap (λ (y : Option Place). 0 + (if is_shadow_in sh.rows s (Some (Frame k)) y then 1 else 0)) (kept_by-active slots (Blank t) t (Some (Frame k)) refl active)
    ∙ sym (page_kept_in-free sh slots u (Some Absent) s free)
many sh slots u t k (Row q) s free active elsewhere =
    ap (λ (y : Option Place). 0 + (if is_shadow_in sh.rows s (Some (Frame k)) y then 1 else 0)) (kept_by-active slots (Shadow t q) t (Some (Frame k)) refl active)
    ∙ ap (λ (b : Bool). 0 + (if b then 1 else 0)) (whole (q / sh.rows == s))
    ∙ zero_more (if q / sh.rows == s then 1 else 0)
    ∙ sym (page_kept_in-free sh slots u (Some (Row q)) s free)
many sh slots u t k (Frame j) s free active elsewhere = absurd (elsewhere j refl)

room-undos : (c : Chart) (x : Parts) (p k : ℕ) (from : Place) → Near c x p k from → p < length c.fields.undos
room-undos c x p k from n = rw (Slots.undos_long (Sound.slots n.sound)) n.page

-- the map with the page in the frame and the undo that names what it left
abbrev shaded : ℕ → ℕ → ℕ → Place → Fields → Fields
shaded t p k from f = with_place p (Some (Frame k)) (with_undo p (undo_for t from) f)

place-shaded : (c : Chart) (x : Parts) (t p k : ℕ) (from : Place) → Near c x p k from → place (shaded t p k from c.fields) p ≡ Some (Frame k)
place-shaded c x t p k from n = get_or-set_same c.fields.places p (Some (Frame k)) None (room c x p k from n)

undo-shaded : (c : Chart) (x : Parts) (t p k : ℕ) (from : Place) → Near c x p k from → undo (shaded t p k from c.fields) p ≡ undo_for t from
undo-shaded c x t p k from n = get_or-set_same c.fields.undos p (undo_for t from) None (room-undos c x p k from n)

pool-shaded : (c : Chart) (x : Parts) (o : Ownership) (t p k : ℕ) (from : Place) → Near c x p k from → MayGive t p c o → PoolAgrees c.shape (shaded t p k from c.fields) x.space
pool-shaded c x o t p k from n may = PoolAgrees-same c.shape c.fields (shaded t p k from c.fields) p x.space
    (record {
      agrees = n.pool;
      page = n.page;
      slots = refl;
      fills = refl;
      positions = refl;
      places = λ r other. get_or-set_other c.fields.places p r (Some (Frame k)) None other;
      undos = λ r other. get_or-set_other c.fields.undos p r (undo_for t from) None other;
    })
    (λ s.
    ap (λ (u : Option Undo). page_kept_in c.shape c.fields.slots u (place (shaded t p k from c.fields) p) s) (undo-shaded c x t p k from n)
    ∙ ap (λ (y : Option Place). page_kept_in c.shape c.fields.slots (undo_for t from) y s) (place-shaded c x t p k from n)
    ∙ many c.shape c.fields.slots (undo c.fields p) t k from s (free c o t p may) may.opened.1 n.elsewhere
    ∙ ap (λ (y : Option Place). page_kept_in c.shape c.fields.slots (undo c.fields p) y s) (sym n.here))

-- no page names a row that it didn't name before
names-shaded : (c : Chart) (x : Parts) (o : Ownership) (t p k r q : ℕ) (from : Place) → Near c x p k from → MayGive t p c o → Names (shaded t p k from c.fields) r q → Names c.fields r q
names-shaded c x o t p k r q from n may names = at (cases_eq r p) names
  where
    own : (f : Place) → place c.fields p ≡ Some f → kept_by c.fields.slots (undo_for t f) (Some (Frame k)) ≡ Some (Row q) → Names c.fields p q
    own Absent here is = let e : Some Absent ≡ Some (Row q) = sym (kept_by-active c.fields.slots (Blank t) t (Some (Frame k)) refl may.opened.1) ∙ is in cc
    own (Row y) here is =
        let e : Some (Row y) ≡ Some (Row q) = sym (kept_by-active c.fields.slots (Shadow t y) t (Some (Frame k)) refl may.opened.1) ∙ is in
        inl (here ∙ e)
    own (Frame j) here is = let e : Some (Frame k) ≡ Some (Row q) = is in cc

    at : (r ≡ p) ⊎ (r ≡ p → ⊥) → Names (shaded t p k from c.fields) r q → Names c.fields r q
    at (inl same) (inl here) = let e : Some (Frame k) ≡ Some (Row q) = sym (place-shaded c x t p k from n) ∙ ap (λ (y : ℕ). place (shaded t p k from c.fields) y) (sym same) ∙ here in cc
    at (inl same) (inr is) =
        subst (λ (y : ℕ). Names c.fields y q) (sym same) (own from n.here
        (sym (ap (λ (u : Option Undo). kept_by c.fields.slots u (Some (Frame k))) (undo-shaded c x t p k from n))
        ∙ sym (ap (λ (y : Option Place). kept_by c.fields.slots (undo (shaded t p k from c.fields) p) y) (place-shaded c x t p k from n))
        ∙ ap (λ (y : ℕ). kept (shaded t p k from c.fields) y) (sym same) ∙ is))
    at (inr other) (inl here) = inl (sym (get_or-set_other c.fields.places p r (Some (Frame k)) None other) ∙ here)
    at (inr other) (inr is) =
        inr (sym (ap (λ (u : Option Undo). kept_by c.fields.slots u (place c.fields r)) (get_or-set_other c.fields.undos p r (undo_for t from) None other))
        ∙ sym (ap (λ (y : Option Place). kept_by c.fields.slots (undo (shaded t p k from c.fields) r) y) (get_or-set_other c.fields.places p r (Some (Frame k)) None other)) ∙ is)

parted-shaded : (c : Chart) (x : Parts) (t p k : ℕ) (from : Place) → Near c x p k from → AreParted c.fields.slots (set c.fields.undos p (undo_for t from)) (set c.fields.places p (Some (Frame k)))
parted-shaded c x t p k from n r u q shadow active is = at (cases_eq r p)
  where
    at : (r ≡ p) ⊎ (r ≡ p → ⊥) → ⊥
    at (inl same) = let e : Some (Frame k) ≡ Some (Row q) = sym (place-shaded c x t p k from n) ∙ ap (λ (y : ℕ). get_or (set c.fields.places p (Some (Frame k))) y None) (sym same) ∙ is in cc
    at (inr other) = n.two r u q (sym (get_or-set_other c.fields.undos p r (undo_for t from) None other) ∙ shadow) active (sym (get_or-set_other c.fields.places p r (Some (Frame k)) None other) ∙ is)

pub Agrees-shaded : (c new : Chart) (x y : Parts) (o : Ownership) (t p k : ℕ) (from : Place) → Near c x p k from → MayGive t p c o → new ≡ with_fields c (with_place p (Some (Frame k)) (with_undo p (undo_for t from) c.fields)) → AreCurrent c.shape.pages (set c.fields.places p (Some (Frame k))) y.cache.entries → y.space ≡ x.space → y.frames ≡ x.frames → y.reloc ≡ x.reloc → PartsAgree new y
Agrees-shaded c new x y o t p k from n may is current space frames task =
    let made : Agrees c.shape (shaded t p k from c.fields) c.flash y = record {
      pool = rw space (pool-shaded c x o t p k from n may);
      held = rw frames n.held;
      current = current;
      job = rw task (IsPlanOf-fewer c.shape c.fields c.flash x.reloc c.fields.slots (set c.fields.places p (Some (Frame k))) (set c.fields.undos p (undo_for t from)) (λ r q names. names-shaded c x o t p k r q from n may names) n.job);
      two = parted-shaded c x t p k from n;
    } in
    subst (λ (z : Chart). PartsAgree z y) (sym is) made
