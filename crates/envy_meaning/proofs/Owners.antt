-- Which open transaction owns a page, and how many pages are owned.
use Rattle.std.proofs.Common.{◌≡◌, ℕ, ◌<◌, Bool, true, false, cond, List, length, get_or, Option, None, Some, refl, sym, ◌∙◌, ap, arith}
use Rattle.std.specs.Prelude.{count_by, sum_by, is_some}
use Rattle.std.specs.List.{range_with_len}
use Rattle.envy_array.specs.Array.{Array, owner, owned, pages}
use Rattle.envy_base.specs.declared.fields.Slot.{Slot}
use Rattle.envy_base.specs.declared.fields.Slot.TheVariants.{Active}
use Rattle.envy_base.specs.declared.fields.Undo.{Undo}
use Rattle.envy_base.specs.declared.fields.Undo.TheVariants.{Clear, Blank, Shadow}
use Rattle.envy_base.specs.declared.shape.Shape.{Shape}
use Rattle.envy_map.specs.Fields.{Chart, slot, undo}
use Rattle.envy_soundness.specs.Same.{Framed}
use Rattle.envy_soundness.specs.Sound.{Sound, IsSound, Slots, is_active, owned_by, slot_named}
use Rattle.envy_meaning.specs.Stands.{Holds}
use Rattle.envy_meaning.specs.Transactions.{Owns, owner_in}
use Rattle.envy_soundness.proofs.KeptLemmas.{owned_by-active, owned_by-none}
use Rattle.envy_soundness.proofs.RangeSums.{range-same, sum_by-indexed}
use Rattle.envy_meaning.proofs.Standing.{free-holds, owned-holds}
use Rattle.envy_soundness.proofs.WordLists.{length-live}

-- whether a transaction owns a page is told by the slot that its undo names
abbrev named_active : List (Option Slot) → Option ℕ → Bool
named_active slots None = false
named_active slots (Some t) = is_active (get_or slots t None)

owned_by-named : (slots : List (Option Slot)) (u : Option Undo) → owned_by slots u ≡ named_active slots (slot_named u)
owned_by-named slots None = refl
owned_by-named slots (Some Clear) = refl
owned_by-named slots (Some (Blank t)) = refl
owned_by-named slots (Some (Shadow t q)) = refl

pub owned_by-framed : (c new : Chart) (p : ℕ) → Framed c new → owned_by new.fields.slots (undo new.fields p) ≡ owned_by c.fields.slots (undo c.fields p)
owned_by-framed c new p framed =
    owned_by-named new.fields.slots (undo new.fields p)
    ∙ ap (λ (s : List (Option Slot)). named_active s (slot_named (undo new.fields p))) framed.slots
    ∙ ap (named_active c.fields.slots) (framed.owners p)
    ∙ sym (owned_by-named c.fields.slots (undo c.fields p))

pub owner_in-framed : (c new : Chart) (p : ℕ) → Framed c new → owner_in new.fields.slots (undo new.fields p) ≡ owner_in c.fields.slots (undo c.fields p)
owner_in-framed c new p framed = rw (owned_by-framed c new p framed, framed.owners p) refl

pub owner_in-true : (slots : List (Option Slot)) (u : Option Undo) → owned_by slots u ≡ true → owner_in slots u ≡ slot_named u
owner_in-true slots u own = rw own refl

pub owner_in-false : (slots : List (Option Slot)) (u : Option Undo) → owned_by slots u ≡ false → owner_in slots u ≡ None
owner_in-false slots u free = rw free refl

-- no transaction owns the page
pub unowned : (slots : List (Option Slot)) (u : Option Undo) → owner_in slots u ≡ None → owned_by slots u ≡ false
unowned slots u none = at (owned_by slots u) refl
  where
    at : (b : Bool) → owned_by slots u ≡ b → owned_by slots u ≡ false
    at false e = e
    at true e = let no : owned_by slots u ≡ false = owned_by-none slots u (sym (owner_in-true slots u e) ∙ none) in no

-- a page that a slot owns is owned where the slot is active
pub owned_by-owns : (t p : ℕ) (c new : Chart) → Owns t p c new → slot c.fields t ≡ Some Active → owned_by new.fields.slots (undo new.fields p) ≡ true
owned_by-owns t p c new o active = owned_by-active new.fields.slots (undo new.fields p) t o.own (ap (λ (s : List (Option Slot)). get_or s t None) o.slots ∙ active)

-- the owner by the map is the owner by the array
pub owner_in-holds : (c : Chart) (m : Array) (p : ℕ) → Holds c m → p < c.shape.pages → owner_in c.fields.slots (undo c.fields p) ≡ owner m p
owner_in-holds c m p h lt = at (owner m p) refl
  where
    at : (o : Option ℕ) → owner m p ≡ o → owner_in c.fields.slots (undo c.fields p) ≡ owner m p
    at None e = owner_in-false c.fields.slots (undo c.fields p) (free-holds c m p h lt e) ∙ sym e
    at (Some t) e = owner_in-true c.fields.slots (undo c.fields p) (owned-holds c m p t h lt e) ∙ h.owners p lt

owned-is : (c : Chart) (m : Array) (p : ℕ) → Holds c m → p < c.shape.pages → owned_by c.fields.slots (undo c.fields p) ≡ is_some (owner m p)
owned-is c m p h lt = at (owner m p) refl
  where
    at : (o : Option ℕ) → owner m p ≡ o → owned_by c.fields.slots (undo c.fields p) ≡ is_some (owner m p)
    at None e = free-holds c m p h lt e ∙ ap is_some (sym e)
    at (Some t) e = owned-holds c m p t h lt e ∙ ap is_some (sym e)

-- the pages with an active undo, page by page
pub owned-pages : (c : Chart) → IsSound c → count_by (owned_by c.fields.slots) c.fields.undos ≡ sum_by (λ p. cond (owned_by c.fields.slots (undo c.fields p)) 1 0) (range_with_len 0 c.shape.pages)
owned-pages c sound =
    sum_by-indexed (λ (u : Option Undo). cond (owned_by c.fields.slots u) 1 0) None c.fields.undos
    ∙ ap (λ (n : ℕ). sum_by (λ p. cond (owned_by c.fields.slots (undo c.fields p)) 1 0) (range_with_len 0 n)) (Slots.undos_long (Sound.slots sound))

-- they are as many where no page changes its owner
pub owned-framed : (c new : Chart) → IsSound c → IsSound new → Framed c new → count_by (owned_by new.fields.slots) new.fields.undos ≡ count_by (owned_by c.fields.slots) c.fields.undos
owned-framed c new sound then_sound framed =
    owned-pages new then_sound
    ∙ ap (λ (sh : Shape). sum_by (λ p. cond (owned_by new.fields.slots (undo new.fields p)) 1 0) (range_with_len 0 sh.pages)) framed.shape
    ∙ range-same (λ p. cond (owned_by new.fields.slots (undo new.fields p)) 1 0) (λ p. cond (owned_by c.fields.slots (undo c.fields p)) 1 0) c.shape.pages (λ p lt. ap (λ (b : Bool). cond b 1 0) (owned_by-framed c new p framed))
    ∙ sym (owned-pages c sound)

-- and as many as the array says
pub owned-counted : (c : Chart) (m : Array) → Holds c m → count_by (owned_by c.fields.slots) c.fields.undos ≡ owned m
owned-counted c m h =
    owned-pages c h.sound
    ∙ range-same (λ p. cond (owned_by c.fields.slots (undo c.fields p)) 1 0) (λ p. cond (is_some (owner m p)) 1 0) c.shape.pages (λ p lt. ap (λ (b : Bool). cond b 1 0) (owned-is c m p h lt))
    ∙ ap (λ (n : ℕ). sum_by (λ p. cond (is_some (owner m p)) 1 0) (range_with_len 0 n)) size
  where
    size : c.shape.pages ≡ pages m
    size = let long = ap length (sym h.live) ∙ length-live c in omega arith
