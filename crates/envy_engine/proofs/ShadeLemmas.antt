-- A page that stands in a frame gets a shadow in a row that holds its words.
use Rattle.std.proofs.Common.{◌≡◌, ◌≢◌, ◌⊎◌, inl, inr, Bool, true, false, ℕ, ◌+◌, ◌*◌, ◌/◌, ◌<◌, [], length, get_or, set, Option, None, Some, refl, sym, ◌∙◌, ap, subst, arith}
use Rattle.std.specs.Prelude.{if◌then◌else◌, ◌==◌, ◌&&◌}
use Rattle.std.proofs.lemmas.Bool.{cases_eq}
use Rattle.std.proofs.lemmas.List.{get_or-set_same, get_or-set_other}
use Rattle.envy_base.specs.declared.fields.Job.TheVariants.{Copy, Switch}
use Rattle.envy_base.specs.declared.fields.Place.{Place}
use Rattle.envy_base.specs.declared.fields.Place.TheVariants.{Row, Frame}
use Rattle.envy_base.specs.declared.fields.Undo.{Undo}
use Rattle.envy_base.specs.declared.fields.Undo.TheVariants.{Shadow}
use Rattle.envy_map.specs.Fields.{Chart, with_fields, place, undo}
use Rattle.envy_map.specs.Writes.{with_undo}
use Rattle.envy_soundness.specs.May.{IsOpen, MayUndo}
use Rattle.envy_soundness.specs.PageRows.{page_kept_in}
use Rattle.envy_soundness.specs.RowKinds.{is_shadow_in}
use Rattle.envy_soundness.specs.Sound.{Sound, IsSound, Slots, Names, IsSpare, owned_by, slot_named}
use Rattle.envy_soundness.specs.Words.{kept_by, word_at}
use Rattle.envy_soundness.proofs.KeptLemmas.{kept_by-free, kept_by-active}
use Rattle.envy_space.specs.Noting.{ChangesPage, NamesOneMore, lies_in}
use Rattle.envy_space.specs.Pool.{Pool, PoolAgrees, noted_kept}
use Rattle.envy_space.proofs.NotingLemmas.{PoolAgrees-kept, room-kept}
use Rattle.envy_engine.specs.Agreement.{Agrees, PartsAgree}
use Rattle.envy_meaning.proofs.Owners.{unowned}
use Rattle.envy_txn.specs.Owners.{Ownership}
use Rattle.envy_engine.specs.Putting.{MayGive}
use Rattle.envy_engine.specs.Flushing.{Granted}
use Rattle.envy_soundness.specs.Naming.{AreParted}
use Rattle.envy_reloc.specs.Plan.{IsPlanOf, HasCopy}
use Rattle.envy_meaning.specs.Transactions.{Owns}
use Rattle.envy_engine.specs.declared.parts.Parts.{Parts}

-- what the page and the row are before
pub record Shades (c : Chart) (p k q t : ℕ) : Type 0 where
  pub sound : Sound c.shape c.fields c.flash
  pub page : p < c.shape.pages
  pub here : place c.fields p ≡ Some (Frame k)
  pub granted : Granted c.shape c.fields p q
  pub copy : (j : ℕ) → j < 32 → get_or (get_or c.flash q []) j 0 ≡ get_or c.fields.frames (32 * k + j) 0
  pub opened : IsOpen c.fields t
  pub free : owned_by c.fields.slots (undo c.fields p) ≡ false

pub Shades-given : (c : Chart) (p k q t : ℕ) (o : Ownership) → IsSound c → MayGive t p c o → place c.fields p ≡ Some (Frame k) → Granted c.shape c.fields p q → ((j : ℕ) → j < 32 → get_or (get_or c.flash q []) j 0 ≡ get_or c.fields.frames (32 * k + j) 0) → Shades c p k q t
Shades-given c p k q t o sound may here granted copy = record {
  sound = sound;
  page = may.page;
  here = here;
  granted = granted;
  copy = copy;
  opened = may.opened;
  free = unowned c.fields.slots (undo c.fields p) (sym (may.owned p) ∙ may.free);
}

room : (c : Chart) (p k q t : ℕ) → Shades c p k q t → p < length c.fields.undos
room c p k q t s = rw (Slots.undos_long (Sound.slots s.sound)) s.page

pub MayUndo-shade : (c : Chart) (p k q t : ℕ) → Shades c p k q t → MayUndo c.shape c.fields c.flash p (Shadow t q)
MayUndo-shade c p k q t s =
    let g = s.granted in (
      s.opened,
      inr (record { range = g.range; filled = g.filled; claimed = g.claimed; alone = λ r names. absurd (g.unnamed r names); home = g.placed; unswitched = λ v switch same. g.free.1 (switch ∙ ap (λ (n : ℕ). Some (Switch n)) (sym same)) }),
      λ j lt. s.copy j lt ∙ ap (λ (x : Option Place). word_at c.fields.frames c.flash x j) (sym (kept_by-free c.fields.slots (undo c.fields p) (place c.fields p) s.free ∙ s.here)),
    )

changes-shade : (c : Chart) (p k q t : ℕ) (pool : Pool) → Shades c p k q t → PoolAgrees c.shape c.fields pool → ChangesPage c.shape c.fields (with_undo p (Some (Shadow t q)) c.fields) p pool
changes-shade c p k q t pool s agrees = record {
  agrees = agrees;
  page = s.page;
  slots = refl;
  fills = refl;
  positions = refl;
  places = λ r other. refl;
  undos = λ r other. get_or-set_other c.fields.undos p r (Some (Shadow t q)) None other;
}

whole : (b : Bool) → (b && true) ≡ b
whole true = refl
whole false = refl

zero_more : (n : ℕ) → 0 + n ≡ n
zero_more n = omega arith

names-shade : (c : Chart) (p k q t : ℕ) → Shades c p k q t → NamesOneMore c.shape c.fields (with_undo p (Some (Shadow t q)) c.fields) p q
names-shade c p k q t s = record {
  range = Granted.range s.granted;
  more = λ x.
      let now : page_kept_in c.shape c.fields.slots (Some (Shadow t q)) (Some (Frame k)) x ≡ lies_in c.shape q x =
      ap (λ (y : Option Place). 0 + (if is_shadow_in c.shape.rows x (Some (Frame k)) y then 1 else 0)) (kept_by-active c.fields.slots (Shadow t q) t (Some (Frame k)) refl s.opened.1) ∙ ap (λ (b : Bool). 0 + (if b then 1 else 0)) (whole (q / c.shape.rows == x)) ∙ zero_more (lies_in c.shape q x) in
      let was : page_kept_in c.shape c.fields.slots (undo c.fields p) (Some (Frame k)) x ≡ 0 =
      ap (λ (y : Option Place). 0 + (if is_shadow_in c.shape.rows x (Some (Frame k)) y then 1 else 0)) (kept_by-free c.fields.slots (undo c.fields p) (Some (Frame k)) s.free) in
      ap (λ (u : Option Undo). page_kept_in c.shape c.fields.slots u (place c.fields p) x) (get_or-set_same c.fields.undos p (Some (Shadow t q)) None (room c p k q t s))
      ∙ ap (λ (y : Option Place). page_kept_in c.shape c.fields.slots (Some (Shadow t q)) y x) s.here
      ∙ now
      ∙ sym (zero_more (lies_in c.shape q x))
      ∙ ap (λ (n : ℕ). n + lies_in c.shape q x) (sym was)
      ∙ ap (λ (y : Option Place). page_kept_in c.shape c.fields.slots (undo c.fields p) y x + lies_in c.shape q x) (sym s.here);
}

pub PoolAgrees-shade : (c : Chart) (p k q t : ℕ) (pool : Pool) → Shades c p k q t → PoolAgrees c.shape c.fields pool → PoolAgrees c.shape (with_undo p (Some (Shadow t q)) c.fields) (noted_kept q pool)
PoolAgrees-shade c p k q t pool s agrees = PoolAgrees-kept c.shape c.fields (with_undo p (Some (Shadow t q)) c.fields) p q pool (changes-shade c p k q t pool s agrees) (names-shade c p k q t s)

pub room-shade : (c : Chart) (p k q t : ℕ) (pool : Pool) → Shades c p k q t → PoolAgrees c.shape c.fields pool → Sound c.shape (with_undo p (Some (Shadow t q)) c.fields) c.flash → get_or pool.kept (q / c.shape.rows) 0 < get_or pool.fills (q / c.shape.rows) 0
room-shade c p k q t pool s agrees sound = room-kept c.shape c.fields (with_undo p (Some (Shadow t q)) c.fields) c.flash p q pool (changes-shade c p k q t pool s agrees) (names-shade c p k q t s) sound

-- a reference of the new map is one of the old, or the new one
names-cases : (c : Chart) (p k q t r x : ℕ) → Shades c p k q t → Names (with_undo p (Some (Shadow t q)) c.fields) r x → Names c.fields r x ⊎ (x ≡ q)
names-cases c p k q t r x s (inl here) = inl (inl here)
names-cases c p k q t r x s (inr kept) = at (cases_eq r p)
  where
    at : (r ≡ p) ⊎ (r ≡ p → ⊥) → Names c.fields r x ⊎ (x ≡ q)
    at (inl same) =
        let is : undo (with_undo p (Some (Shadow t q)) c.fields) r ≡ Some (Shadow t q) = ap (λ (y : ℕ). get_or (set c.fields.undos p (Some (Shadow t q))) y None) same ∙ get_or-set_same c.fields.undos p (Some (Shadow t q)) None (room c p k q t s) in
        let row : Some (Row q) ≡ Some (Row x) = sym (ap (λ (u : Option Undo). kept_by c.fields.slots u (place c.fields r)) is ∙ kept_by-active c.fields.slots (Shadow t q) t (place c.fields r) refl s.opened.1) ∙ kept in
        inr (let e : x ≡ q = cc in e)
    at (inr other) = inl (inr (ap (λ (u : Option Undo). kept_by c.fields.slots u (place c.fields r)) (sym (get_or-set_other c.fields.undos p r (Some (Shadow t q)) None other)) ∙ kept))

pub Agrees-shade : (c new : Chart) (x y : Parts) (p k q t : ℕ) → Shades c p k q t → PartsAgree c x → new ≡ with_fields c (with_undo p (Some (Shadow t q)) c.fields) → y.space ≡ noted_kept q x.space → y.frames ≡ x.frames → y.cache ≡ x.cache → y.reloc ≡ x.reloc → PartsAgree new y
Agrees-shade c new x y p k q t s a is space frames cache task =
    let made : Agrees c.shape (with_undo p (Some (Shadow t q)) c.fields) c.flash y = rw (space, frames, cache, task) (record {
      pool = PoolAgrees-shade c p k q t x.space s a.pool;
      held = a.held;
      current = a.current;
      job = job;
      two = two;
    }) in
    subst (λ (z : Chart). PartsAgree z y) (sym is) made
  where
    job : IsPlanOf c.shape (with_undo p (Some (Shadow t q)) c.fields) c.flash x.reloc
    job = let b = Agrees.job a in record {
      prepared = b.prepared;
      marked = record {
        kept = λ v e r z copy spare names own less. marks v e r z copy spare own less (names-cases c p k q t r z s names);
        copied = b.marked.copied;
      };
      switched = record { placed = b.switched.placed; clear = λ v r z switch names. clear v r z switch (names-cases c p k q t r z s names) };
    }
      where
        marks : (v e r z : ℕ) → c.fields.job ≡ Some (Copy v) → IsSpare c.shape c.fields.positions e → z / c.shape.rows ≡ v → z < x.reloc.mark → Names c.fields r z ⊎ (z ≡ q) → HasCopy c.fields.origins (get_or c.fields.fills e 0) z
        marks v e r z copy spare own less (inl old) = (Agrees.job a).marked.kept v e r z copy spare old own less
        marks v e r z copy spare own less (inr same) = absurd ((Granted.free s.granted).0 (copy ∙ ap (λ (n : ℕ). Some (Copy n)) (sym own ∙ ap (λ (n : ℕ). n / c.shape.rows) same)))

        clear : (v r z : ℕ) → c.fields.job ≡ Some (Switch v) → Names c.fields r z ⊎ (z ≡ q) → z / c.shape.rows ≢ v
        clear v r z switch (inl old) = (Agrees.job a).switched.clear v r z switch old
        clear v r z switch (inr same) = λ own. (Granted.free s.granted).1 (switch ∙ ap (λ (n : ℕ). Some (Switch n)) (sym own ∙ ap (λ (n : ℕ). n / c.shape.rows) same))

    two : AreParted c.fields.slots (set c.fields.undos p (Some (Shadow t q))) c.fields.places
    two r u z shadow active row = at (cases_eq r p)
      where
        at : (r ≡ p) ⊎ (r ≡ p → ⊥) → ⊥
        at (inl same) = let frame : Some (Frame k) ≡ Some (Row z) = sym s.here ∙ ap (λ (y : ℕ). place c.fields y) (sym same) ∙ row in cc
        at (inr other) = Agrees.two a r u z (sym (get_or-set_other c.fields.undos p r (Some (Shadow t q)) None other) ∙ shadow) active row

pub Owns-shade : (c new : Chart) (p k q t : ℕ) → Shades c p k q t → new ≡ with_fields c (with_undo p (Some (Shadow t q)) c.fields) → Owns t p c new
Owns-shade c new p k q t s is = subst (Owns t p c) (sym is) (record {
  shape = refl;
  magic = refl;
  version = refl;
  slots = refl;
  own = ap slot_named (get_or-set_same c.fields.undos p (Some (Shadow t q)) None (room c p k q t s));
  others = λ r other. ap slot_named (get_or-set_other c.fields.undos p r (Some (Shadow t q)) None other);
})
