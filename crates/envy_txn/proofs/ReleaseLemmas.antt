-- The undo of a page is cleared whose slot has committed.
use Rattle.std.proofs.Common.{◌≡◌, ◌≢◌, Bool, true, false, ℕ, ◌+◌, ◌*◌, ◌/◌, ◌<◌, length, get_or, set, Option, None, Some, refl, sym, ◌∙◌, ap, subst, arith}
use Rattle.std.specs.Prelude.{if◌then◌else◌, ◌==◌, ◌&&◌}
use Rattle.std.proofs.lemmas.Bool.{eq-eqb, ne_eqb}
use Rattle.std.proofs.lemmas.List.{get_or-set_same, get_or-set_other}
use Rattle.envy_base.specs.declared.fields.Place.{Place}
use Rattle.envy_base.specs.declared.fields.Place.TheVariants.{Absent, Row, Frame}
use Rattle.envy_base.specs.declared.fields.Slot.{Slot}
use Rattle.envy_base.specs.declared.fields.Slot.TheVariants.{Active}
use Rattle.envy_base.specs.declared.fields.Undo.{Undo}
use Rattle.envy_base.specs.declared.fields.Undo.TheVariants.{Clear, Blank, Shadow}
use Rattle.envy_base.specs.declared.shape.Shape.{Shape}
use Rattle.envy_map.specs.Fields.{Fields, Chart, with_fields, place, undo}
use Rattle.envy_map.specs.Writes.{with_slot, with_undo}
use Rattle.envy_soundness.specs.PageRows.{page_kept_in}
use Rattle.envy_soundness.specs.RowKinds.{is_in, is_row, is_shadow_in}
use Rattle.envy_soundness.specs.Sound.{Slots, Sound, slot_named}
use Rattle.envy_soundness.specs.Words.{if_active}
use Rattle.envy_space.specs.Noting.{ChangesPage, NamesOneMore, NamesAsMany, lies_in}
use Rattle.envy_space.specs.Pool.{Pool, PoolAgrees, IsPoolOf}
use Rattle.envy_space.proofs.NotingLemmas.{PoolAgrees-dead, PoolAgrees-same}
use Rattle.envy_txn.specs.Turns.{Releasing, IsDroppable, dropped_pool}

-- a page of the slot
pub record Releases (c : Chart) (pool : Pool) (p t : ℕ) : Type 0 where
  pub releasing : Releasing c pool t
  pub page : p < c.shape.pages
  pub names : slot_named (undo c.fields p) ≡ Some t

-- the map as if the slot were active, before and after
abbrev before : Chart → ℕ → Fields
before c t = with_slot t (Some Active) c.fields

abbrev after : Chart → ℕ → ℕ → Fields
after c p t = with_slot t (Some Active) (with_undo p (Some Clear) c.fields)

room : (c : Chart) (pool : Pool) (p t : ℕ) → Releases c pool p t → p < length c.fields.undos
room c pool p t r = rw (Slots.undos_long (Sound.slots (Releasing.sound r.releasing))) r.page

active : (c : Chart) (pool : Pool) (p t : ℕ) → Releases c pool p t → get_or (set c.fields.slots t (Some Active)) t None ≡ Some Active
active c pool p t r = get_or-set_same c.fields.slots t (Some Active) None (rw (Slots.long (Sound.slots (Releasing.sound r.releasing))) (Releasing.low r.releasing))

changes : (c : Chart) (pool : Pool) (p t : ℕ) → Releases c pool p t → ChangesPage c.shape (before c t) (after c p t) p pool
changes c pool p t r = record {
  agrees = Releasing.agrees r.releasing;
  page = r.page;
  slots = refl;
  fills = refl;
  positions = refl;
  places = λ x other. refl;
  undos = λ x other. get_or-set_other c.fields.undos p x (Some Clear) None other;
}

-- no row is a shadow of itself
pub own-shadow : (rows s : ℕ) (now : Option Place) → is_shadow_in rows s now now ≡ false
own-shadow rows s None = refl
own-shadow rows s (Some Absent) = refl
own-shadow rows s (Some (Frame k)) = refl
own-shadow rows s (Some (Row q)) = rw (eq-eqb q q refl) (ends (q / rows == s))
  where
    ends : (b : Bool) → (b && false) ≡ false
    ends true = refl
    ends false = refl

pub other-shadow : (rows s q : ℕ) (now : Option Place) → now ≢ Some (Row q) → is_shadow_in rows s now (Some (Row q)) ≡ (q / rows == s)
other-shadow rows s q now other = rw (at now other) (whole (q / rows == s))
  where
    at : (y : Option Place) → y ≢ Some (Row q) → is_row q y ≡ false
    at None never = refl
    at (Some Absent) never = refl
    at (Some (Frame k)) never = refl
    at (Some (Row r)) never = ne_eqb r q (λ e. never (ap (λ (n : ℕ). Some (Row n)) e))

    whole : (b : Bool) → (b && true) ≡ b
    whole true = refl
    whole false = refl

-- the page names the shadow no more
names-dropped : (c : Chart) (pool : Pool) (p t q : ℕ) → Releases c pool p t → undo c.fields p ≡ Some (Shadow t q) → NamesOneMore c.shape (after c p t) (before c t) p q
names-dropped c pool p t q r is = record {
  range = Slots.rows (Sound.slots (Releasing.sound r.releasing)) p t q is;
  more = λ s.
      let now = place c.fields p in
      let apart : now ≢ Some (Row q) = Releasing.parted r.releasing p t q is (active c pool p t r) in
      let was : page_kept_in c.shape (before c t).slots (undo c.fields p) now s ≡ (if is_in c.shape.rows s now then 1 else 0) + lies_in c.shape q s =
      ap (λ (u : Option Undo). page_kept_in c.shape (before c t).slots u now s) is
      ∙ ap (λ (x : Option Slot). (if is_in c.shape.rows s now then 1 else 0) + (if is_shadow_in c.shape.rows s now (if_active x (Some (Row q)) now) then 1 else 0)) (active c pool p t r)
      ∙ ap (λ (b : Bool). (if is_in c.shape.rows s now then 1 else 0) + (if b then 1 else 0)) (other-shadow c.shape.rows s q now apart) in
      let is_now : page_kept_in c.shape (before c t).slots (undo (after c p t) p) now s ≡ (if is_in c.shape.rows s now then 1 else 0) + 0 =
      ap (λ (u : Option Undo). page_kept_in c.shape (before c t).slots u now s) (get_or-set_same c.fields.undos p (Some Clear) None (room c pool p t r))
      ∙ ap (λ (b : Bool). (if is_in c.shape.rows s now then 1 else 0) + (if b then 1 else 0)) (own-shadow c.shape.rows s now) in
      omega (arith, was, is_now);
}

names-blank : (c : Chart) (pool : Pool) (p t : ℕ) → Releases c pool p t → undo c.fields p ≡ Some (Blank t) → NamesAsMany c.shape (before c t) (after c p t) p
names-blank c pool p t r is s =
    let now = place c.fields p in
    let was : page_kept_in c.shape (before c t).slots (undo c.fields p) now s ≡ (if is_in c.shape.rows s now then 1 else 0) + 0 =
    ap (λ (u : Option Undo). page_kept_in c.shape (before c t).slots u now s) is
    ∙ ap (λ (x : Option Slot). (if is_in c.shape.rows s now then 1 else 0) + (if is_shadow_in c.shape.rows s now (if_active x (Some Absent) now) then 1 else 0)) (active c pool p t r) in
    let is_now : page_kept_in c.shape (before c t).slots (undo (after c p t) p) now s ≡ (if is_in c.shape.rows s now then 1 else 0) + 0 =
    ap (λ (u : Option Undo). page_kept_in c.shape (before c t).slots u now s) (get_or-set_same c.fields.undos p (Some Clear) None (room c pool p t r))
    ∙ ap (λ (b : Bool). (if is_in c.shape.rows s now then 1 else 0) + (if b then 1 else 0)) (own-shadow c.shape.rows s now) in
    omega (arith, was, is_now)

pub droppable : (c : Chart) (pool : Pool) (p t : ℕ) (u : Undo) → Releases c pool p t → undo c.fields p ≡ Some u → IsDroppable pool u
droppable c pool p t Clear r is = tt
droppable c pool p t (Blank x) r is = tt
droppable c pool p t (Shadow x q) r is =
    let same : x ≡ t = let e : Some x ≡ Some t = sym (ap slot_named is) ∙ r.names in cc in
    let there : undo c.fields p ≡ Some (Shadow t q) = is ∙ ap (λ (n : ℕ). Some (Shadow n q)) same in
    let some = PoolAgrees-dead c.shape (before c t) (after c p t) p q pool (changes c pool p t r) (names-dropped c pool p t q r there) in
    let shape = IsPoolOf.shape (Releasing.agrees r.releasing) in
    (subst (λ (sh : Shape). q < sh.segments * sh.rows) (sym shape) (Slots.rows (Sound.slots (Releasing.sound r.releasing)) p t q there), subst (λ (sh : Shape). 0 < get_or pool.kept (q / sh.rows) 0) (sym shape) some.0)

pub PoolAgrees-released : (c new : Chart) (pool : Pool) (p t : ℕ) (u : Undo) → Releases c pool p t → undo c.fields p ≡ Some u → new ≡ with_fields c (with_undo p (Some Clear) c.fields) → PoolAgrees new.shape (with_slot t (Some Active) new.fields) (dropped_pool u pool)
PoolAgrees-released c new pool p t u r is new_is = subst (λ (z : Chart). PoolAgrees z.shape (with_slot t (Some Active) z.fields) (dropped_pool u pool)) (sym new_is) (at u is)
  where
    at : (x : Undo) → undo c.fields p ≡ Some x → PoolAgrees c.shape (after c p t) (dropped_pool x pool)
    at Clear e = absurd (let clash : None ≡ Some t = sym (ap slot_named e) ∙ r.names in cc)
    at (Blank y) e = let same : y ≡ t = let f : Some y ≡ Some t = sym (ap slot_named e) ∙ r.names in cc in PoolAgrees-same c.shape (before c t) (after c p t) p pool (changes c pool p t r) (names-blank c pool p t r (e ∙ ap (λ (n : ℕ). Some (Blank n)) same))
    at (Shadow y q) e = let same : y ≡ t = let f : Some y ≡ Some t = sym (ap slot_named e) ∙ r.names in cc in (PoolAgrees-dead c.shape (before c t) (after c p t) p q pool (changes c pool p t r) (names-dropped c pool p t q r (e ∙ ap (λ (n : ℕ). Some (Shadow n q)) same))).1
