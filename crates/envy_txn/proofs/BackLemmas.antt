-- A page of an open slot goes back to where a restart reads it: the map, the pool and the references.
use Rattle.std.proofs.Common.{◌≡◌, ◌≢◌, ◌⊎◌, inl, inr, Bool, true, ℕ, ◌+◌, ◌*◌, ◌/◌, ◌<◌, List, length, get_or, set, Option, None, Some, refl, sym, ◌∙◌, ap, subst, arith}
use Rattle.std.specs.Prelude.{if◌then◌else◌, ◌==◌}
use Rattle.std.proofs.lemmas.Bool.{cases_eq}
use Rattle.std.proofs.lemmas.List.{get_or-set_same, get_or-set_other, ext_get_or, length-set}
use Rattle.envy_base.specs.declared.fields.Place.{Place}
use Rattle.envy_base.specs.declared.fields.Place.TheVariants.{Absent, Row, Frame}
use Rattle.envy_base.specs.declared.fields.Slot.{Slot}
use Rattle.envy_base.specs.declared.fields.Slot.TheVariants.{Active}
use Rattle.envy_base.specs.declared.fields.Undo.{Undo}
use Rattle.envy_base.specs.declared.fields.Undo.TheVariants.{Clear, Blank, Shadow}
use Rattle.envy_base.specs.declared.shape.Shape.{Shape}
use Rattle.envy_map.specs.Fields.{Fields, Chart, place, undo, slot}
use Rattle.envy_map.specs.Writes.{with_place, with_undo}
use Rattle.envy_soundness.specs.May.{named_by}
use Rattle.envy_soundness.specs.Naming.{AreParted}
use Rattle.envy_soundness.specs.PageRows.{page_kept_in}
use Rattle.envy_soundness.specs.RowKinds.{is_shadow_in}
use Rattle.envy_soundness.specs.Sound.{Sound, IsSound, Places, Slots, slot_named, owned_by}
use Rattle.envy_soundness.specs.Words.{kept, kept_by}
use Rattle.envy_soundness.proofs.KeptLemmas.{kept_by-active}
use Rattle.envy_space.specs.Pool.{Pool, PoolAgrees, IsPoolOf}
use Rattle.envy_space.specs.Noting.{Leaving}
use Rattle.envy_space.proofs.NotingLemmas.{PoolAgrees-same}
use Rattle.envy_space.proofs.PlaceLemmas.{PoolAgrees-left, PoolAgrees-absent}
use Rattle.envy_txn.specs.Turns.{left_pool, IsLeavable}
use Rattle.envy_txn.proofs.ReleaseLemmas.{own-shadow, other-shadow}

-- page p of slot t, where its undo is u, which names the place back, and it is at the place now
pub record Backs (c : Chart) (p t : ℕ) (u : Undo) (now back : Place) : Type 0 where
  pub sound : IsSound c
  pub active : slot c.fields t ≡ Some Active
  pub page : p < c.shape.pages
  pub here : place c.fields p ≡ Some now
  pub owns : undo c.fields p ≡ Some u
  pub named : slot_named (Some u) ≡ Some t
  pub names : named_by u ≡ Some back

abbrev pub after : Chart → ℕ → Place → Fields
after c p back = with_undo p (Some Clear) (with_place p (Some back) c.fields)

pub room-places : (c : Chart) (p t : ℕ) (u : Undo) (now back : Place) → Backs c p t u now back → p < length c.fields.places
room-places c p t u now back b = rw (Places.long (Sound.places b.sound)) b.page

pub room-undos : (c : Chart) (p t : ℕ) (u : Undo) (now back : Place) → Backs c p t u now back → p < length c.fields.undos
room-undos c p t u now back b = rw (Slots.undos_long (Sound.slots b.sound)) b.page

-- in a frame, the page keeps what its undo names, and it stands there then
back-many : (sh : Shape) (slots : List (Option Slot)) (u : Undo) (t k s : ℕ) → slot_named (Some u) ≡ Some t → get_or slots t None ≡ Some Active → page_kept_in sh slots (Some Clear) (named_by u) s ≡ page_kept_in sh slots (Some u) (Some (Frame k)) s
back-many sh slots Clear t k s named active = absurd (let no : None ≡ Some t = named in cc)
back-many sh slots (Blank y) t k s named active =
    let kept = kept_by-active slots (Blank y) t (Some (Frame k)) named active in
    sym (ap (λ (x : Option Place). 0 + (if is_shadow_in sh.rows s (Some (Frame k)) x then 1 else 0)) kept)
back-many sh slots (Shadow y q) t k s named active =
    let kept = kept_by-active slots (Shadow y q) t (Some (Frame k)) named active in
    ap (λ (b : Bool). (if q / sh.rows == s then 1 else 0) + (if b then 1 else 0)) (own-shadow sh.rows s (Some (Row q)))
    ∙ swap (if q / sh.rows == s then 1 else 0)
    ∙ ap (λ (b : Bool). 0 + (if b then 1 else 0)) (sym (other-shadow sh.rows s q (Some (Frame k)) (λ e. cc)))
    ∙ sym (ap (λ (x : Option Place). 0 + (if is_shadow_in sh.rows s (Some (Frame k)) x then 1 else 0)) kept)
  where
    swap : (n : ℕ) → n + 0 ≡ 0 + n
    swap n = omega arith

-- the pool once the page was let go of its place, as if it stood in frame k
pool-back : (c : Chart) (p t k : ℕ) (u : Undo) (now back : Place) (pool : Pool) → Backs c p t u now back → PoolAgrees c.shape (with_place p (Some (Frame k)) c.fields) pool → PoolAgrees c.shape (after c p back) pool
pool-back c p t k u now back pool b agrees =
    PoolAgrees-same c.shape (with_place p (Some (Frame k)) c.fields) (after c p back) p pool
    (record {
      agrees = agrees;
      page = b.page;
      slots = refl;
      fills = refl;
      positions = refl;
      places = λ r other. get_or-set_other c.fields.places p r (Some back) None other ∙ sym (get_or-set_other c.fields.places p r (Some (Frame k)) None other);
      undos = λ r other. get_or-set_other c.fields.undos p r (Some Clear) None other;
    })
    (λ s.
    ap (λ (y : Option Undo). page_kept_in c.shape c.fields.slots y (place (after c p back) p) s) (get_or-set_same c.fields.undos p (Some Clear) None (room-undos c p t u now back b))
    ∙ ap (λ (y : Option Place). page_kept_in c.shape c.fields.slots (Some Clear) y s) (get_or-set_same c.fields.places p (Some back) None (room-places c p t u now back b) ∙ sym b.names)
    ∙ back-many c.shape c.fields.slots u t k s b.named b.active
    ∙ ap (λ (y : Option Undo). page_kept_in c.shape c.fields.slots y (Some (Frame k)) s) (sym b.owns)
    ∙ ap (λ (y : Option Place). page_kept_in c.shape c.fields.slots (undo c.fields p) y s) (sym (get_or-set_same c.fields.places p (Some (Frame k)) None (room-places c p t u now back b))))

set-self : (places : List (Option Place)) (p : ℕ) (y : Option Place) → get_or places p None ≡ y → p < length places → (r : ℕ) → get_or (set places p y) r None ≡ get_or places r None
set-self places p y is lt r = at (cases_eq r p)
  where
    at : (r ≡ p) ⊎ (r ≡ p → ⊥) → get_or (set places p y) r None ≡ get_or places r None
    at (inl same) = ap (λ (n : ℕ). get_or (set places p y) n None) same ∙ get_or-set_same places p y None lt ∙ sym is ∙ ap (λ (n : ℕ). get_or places n None) (sym same)
    at (inr other) = get_or-set_other places p r y None other

set-get : (places : List (Option Place)) (p : ℕ) (y : Option Place) → get_or places p None ≡ y → p < length places → set places p y ≡ places
set-get places p y is lt = ext_get_or None (set places p y) places (length-set places p y) (λ r low. set-self places p y is lt r)

-- the kept row of the undo is another than the place's
apart-back : (c : Chart) (p t q : ℕ) (u : Undo) (back : Place) → Backs c p t u (Row q) back → AreParted c.fields.slots c.fields.undos c.fields.places → owned_by c.fields.slots (undo c.fields p) ≡ true → kept_by c.fields.slots (undo c.fields p) (place c.fields p) ≢ Some (Row q)
apart-back c p t q u back b parted owned is = at u b.owns b.named b.names
  where
    at : (v : Undo) → undo c.fields p ≡ Some v → slot_named (Some v) ≡ Some t → named_by v ≡ Some back → ⊥
    at Clear owns named n = let no : None ≡ Some t = named in cc
    at (Blank y) owns named n =
        let e : Some Absent ≡ Some (Row q) = sym (ap (λ (z : Option Undo). kept_by c.fields.slots z (place c.fields p)) owns ∙ kept_by-active c.fields.slots (Blank y) t (place c.fields p) named b.active) ∙ is in
        cc
    at (Shadow y r) owns named n =
        let e : Some (Row r) ≡ Some (Row q) = sym (ap (λ (z : Option Undo). kept_by c.fields.slots z (place c.fields p)) owns ∙ kept_by-active c.fields.slots (Shadow y r) t (place c.fields p) named b.active) ∙ is in
        let row : r ≡ q = cc in
        let same : y ≡ t = let f : Some y ≡ Some t = named in cc in
        parted p y q (owns ∙ ap (λ (n : ℕ). Some (Shadow y n)) row) (ap (λ (n : ℕ). slot c.fields n) same ∙ b.active) b.here

leaving-back : (c : Chart) (p t q : ℕ) (u : Undo) (back : Place) (pool : Pool) → Backs c p t u (Row q) back → AreParted c.fields.slots c.fields.undos c.fields.places → PoolAgrees c.shape c.fields pool → Leaving c.shape c.fields pool p q
leaving-back c p t q u back pool b parted agrees = record {
  agrees = agrees;
  page = b.page;
  room = room-places c p t u (Row q) back b;
  range = Places.rows (Sound.places b.sound) p q b.here;
  here = b.here;
  apart = apart-back c p t q u back b parted;
}

pub pool-left : (c : Chart) (p t : ℕ) (u : Undo) (now back : Place) (pool : Pool) → Backs c p t u now back → AreParted c.fields.slots c.fields.undos c.fields.places → PoolAgrees c.shape c.fields pool → PoolAgrees c.shape (after c p back) (left_pool now pool)
pool-left c p t u Absent back pool b parted agrees = pool-back c p t 0 u Absent back pool b (PoolAgrees-absent c.shape c.fields pool p 0 agrees b.page (room-places c p t u Absent back b) b.here)
pool-left c p t u (Frame k) back pool b parted agrees =
    let same : set c.fields.places p (Some (Frame k)) ≡ c.fields.places = set-get c.fields.places p (Some (Frame k)) b.here (room-places c p t u (Frame k) back b) in
    pool-back c p t k u (Frame k) back pool b (subst (λ (ps : List (Option Place)). PoolAgrees c.shape (record c.fields { places = ps }) pool) (sym same) agrees)
pool-left c p t u (Row q) back pool b parted agrees =
    pool-back c p t 0 u (Row q) back (left_pool (Row q) pool) b (PoolAgrees-left c.shape c.fields pool p q 0 (leaving-back c p t q u back pool b parted agrees)).1

pub leavable : (c : Chart) (p t : ℕ) (u : Undo) (now back : Place) (pool : Pool) → Backs c p t u now back → AreParted c.fields.slots c.fields.undos c.fields.places → PoolAgrees c.shape c.fields pool → IsLeavable pool now
leavable c p t u Absent back pool b parted agrees = tt
leavable c p t u (Frame k) back pool b parted agrees = tt
leavable c p t u (Row q) back pool b parted agrees =
    let shape = IsPoolOf.shape agrees in
    let some = (PoolAgrees-left c.shape c.fields pool p q 0 (leaving-back c p t q u back pool b parted agrees)).0 in
    (subst (λ (sh : Shape). q < sh.segments * sh.rows) (sym shape) (Places.rows (Sound.places b.sound) p q b.here), subst (λ (sh : Shape). 0 < get_or pool.kept (q / sh.rows) 0) (sym shape) some)

pub parted-back : (c : Chart) (p t : ℕ) (u : Undo) (now back : Place) → Backs c p t u now back → AreParted c.fields.slots c.fields.undos c.fields.places → AreParted c.fields.slots (set c.fields.undos p (Some Clear)) (set c.fields.places p (Some back))
parted-back c p t u now back b parted o s q shadow active at = by (cases_eq o p) shadow at
  where
    by : (o ≡ p) ⊎ (o ≡ p → ⊥) → get_or (set c.fields.undos p (Some Clear)) o None ≡ Some (Shadow s q) → get_or (set c.fields.places p (Some back)) o None ≡ Some (Row q) → ⊥
    by (inl same) shadow at = let no : Some Clear ≡ Some (Shadow s q) = sym (get_or-set_same c.fields.undos p (Some Clear) None (room-undos c p t u now back b)) ∙ ap (λ (n : ℕ). undo (after c p back) n) (sym same) ∙ shadow in cc
    by (inr other) shadow at = parted o s q (sym (get_or-set_other c.fields.undos p o (Some Clear) None other) ∙ shadow) active (sym (get_or-set_other c.fields.places p o (Some back) None other) ∙ at)
