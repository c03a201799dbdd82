-- The pages of a slot that has committed, one pair after another.
use Rattle.std.proofs.Common.{◌≡◌, ◌≢◌, ◌⊎◌, inl, inr, true, false, ℕ, ◌<◌, List, [], ◌∷◌, ◌++◌, length, get_or, set, Option, None, Some, refl, sym, ◌∙◌, ap, subst}
use Rattle.std.specs.Prelude.{IsTrue}
use Rattle.std.specs.List.{AllPairs}
use Rattle.std.proofs.lemmas.Bool.{cases_eq}
use Rattle.std.proofs.lemmas.List.{get_or-set_same, get_or-set_other}
use Rattle.envy_base.specs.declared.fields.Place.TheVariants.{Row}
use Rattle.envy_base.specs.declared.fields.Slot.TheVariants.{Active}
use Rattle.envy_base.specs.declared.fields.Undo.{Undo}
use Rattle.envy_base.specs.declared.fields.Undo.TheVariants.{Clear, Shadow}
use Rattle.envy_map.specs.Fields.{Chart, with_fields, undo, slot}
use Rattle.envy_map.specs.Writes.{with_slot, with_undo}
use Rattle.envy_soundness.specs.May.{IsUnused}
use Rattle.envy_soundness.specs.Naming.{AreParted}
use Rattle.envy_soundness.specs.Same.{SameWords}
use Rattle.envy_soundness.specs.Sound.{Sound, IsSound, Slots, slot_named}
use Rattle.envy_soundness.proofs.KeptCounts.{kept_in-slot}
use Rattle.envy_space.specs.Pool.{Pool, PoolAgrees}
use Rattle.envy_txn.specs.declared.pair.Pair.{Pair}
use Rattle.envy_txn.specs.Ending.{Releases}
use Rattle.envy_txn.specs.Owners.{AreApart, AreOwned, others_of}
use Rattle.envy_txn.specs.Turns.{Releasing, ReleasedIn, is_among}
use Rattle.envy_txn.proofs.TurnLemmas.{among-other, among-here, named-among, unnamed-among, AreOwned-left, unused-left}

pub Releasing-after : (c new : Chart) (pool then_pool : Pool) (p t : ℕ) → Releasing c pool t → p < c.shape.pages → IsTrue new.on → SameWords 0 0 c new → new ≡ with_fields c (with_undo p (Some Clear) c.fields) → PoolAgrees new.shape (with_slot t (Some Active) new.fields) then_pool → Releasing new then_pool t
Releasing-after c new pool then_pool p t r lt on same is agrees = record {
  on = on;
  sound = same.sound;
  low = r.low;
  committed = ap (λ (z : Chart). get_or z.fields.slots t None) is ∙ r.committed;
  agrees = agrees;
  parted = subst (λ (z : Chart). AreParted (set z.fields.slots t (Some Active)) z.fields.undos z.fields.places) (sym is) (λ o s q shadow active at. parted o s q (cases_eq o p) shadow active at);
}
  where
    parted : (o s q : ℕ) → (o ≡ p) ⊎ (o ≡ p → ⊥) → get_or (set c.fields.undos p (Some Clear)) o None ≡ Some (Shadow s q) → get_or (set c.fields.slots t (Some Active)) s None ≡ Some Active → get_or c.fields.places o None ≡ Some (Row q) → ⊥
    parted o s q (inl eq) shadow active at = let no : Some Clear ≡ Some (Shadow s q) = sym (get_or-set_same c.fields.undos p (Some Clear) None (rw (Slots.undos_long (Sound.slots r.sound)) lt)) ∙ ap (λ (n : ℕ). get_or (set c.fields.undos p (Some Clear)) n None) (sym eq) ∙ shadow in cc
    parted o s q (inr other) shadow active at = r.parted o s q (sym (get_or-set_other c.fields.undos p o (Some Clear) None other) ∙ shadow) active at

pub ReleasedIn-more : (ps : List Pair) (e : Pair) (t : ℕ) (c d new : Chart) → e.slot ≡ t → e.page < length d.fields.undos → new ≡ with_fields d (with_undo e.page (Some Clear) d.fields) → ReleasedIn ps t c d → ReleasedIn (ps ++ e ∷ []) t c new
ReleasedIn-more ps e t c d new slot low is r = record {
  own = λ p among. own p among (cases_eq p e.page);
  others = λ p among. others p among (cases_eq p e.page);
  rest = subst (λ (us : List (Option Undo)). new ≡ with_fields c (record c.fields { undos = us })) (sym undos) (is ∙ ap (λ (z : Chart). with_fields z (with_undo e.page (Some Clear) z.fields)) r.rest);
}
  where
    undos : new.fields.undos ≡ set d.fields.undos e.page (Some Clear)
    undos = ap (λ (z : Chart). z.fields.undos) is

    undo_here : undo new.fields e.page ≡ Some Clear
    undo_here = ap (λ (us : List (Option Undo)). get_or us e.page None) undos ∙ get_or-set_same d.fields.undos e.page (Some Clear) None low

    undo_other : (p : ℕ) → p ≢ e.page → undo new.fields p ≡ undo d.fields p
    undo_other p other = ap (λ (us : List (Option Undo)). get_or us p None) undos ∙ get_or-set_other d.fields.undos e.page p (Some Clear) None other

    own : (p : ℕ) → is_among (ps ++ e ∷ []) t p ≡ true → (p ≡ e.page) ⊎ (p ≡ e.page → ⊥) → undo new.fields p ≡ Some Clear
    own p among (inl same) = ap (undo new.fields) same ∙ undo_here
    own p among (inr other) = undo_other p other ∙ r.own p (sym (among-other ps e t p (λ eq. other (sym eq))) ∙ among)

    others : (p : ℕ) → is_among (ps ++ e ∷ []) t p ≡ false → (p ≡ e.page) ⊎ (p ≡ e.page → ⊥) → undo new.fields p ≡ undo c.fields p
    others p among (inl same) = absurd (let no : true ≡ false = sym (among-here ps e t p slot (sym same)) ∙ among in cc)
    others p among (inr other) = undo_other p other ∙ r.others p (sym (among-other ps e t p (λ eq. other (sym eq))) ∙ among)

active-as_if : (c : Chart) (t : ℕ) → IsSound c → t < 64 → get_or (set c.fields.slots t (Some Active)) t None ≡ Some Active
active-as_if c t sound low = get_or-set_same c.fields.slots t (Some Active) None (rw (Slots.long (Sound.slots sound)) low)

-- all pairs have had their turn
pub Releases-all : (c d : Chart) (pairs : List Pair) (t : ℕ) → IsSound c → t < 64 → AllPairs AreApart pairs → AreOwned (set c.fields.slots t (Some Active)) c.fields.undos pairs → ReleasedIn pairs t c d → Releases t c d
Releases-all c d pairs t sound low apart owned r = record {
  own = λ p named. r.own p (named-among (set c.fields.slots t (Some Active)) c.fields.undos pairs t p owned (active-as_if c t sound low) named);
  others = λ p free. r.others p (unnamed-among (set c.fields.slots t (Some Active)) c.fields.undos pairs t p apart owned free);
  rest = r.rest;
}

pub unused-released : (c d : Chart) (t : ℕ) → Releases t c d → IsUnused d.fields t
unused-released c d t r = unused-left c.fields.undos d.fields.undos t r.own r.others

pub AreOwned-released : (c d : Chart) (pairs : List Pair) (t : ℕ) → AllPairs AreApart pairs → AreOwned (set c.fields.slots t (Some Active)) c.fields.undos pairs → Releases t c d → AreOwned d.fields.slots d.fields.undos (others_of t pairs)
AreOwned-released c d pairs t apart owned r =
    AreOwned-left (set c.fields.slots t (Some Active)) d.fields.slots c.fields.undos d.fields.undos pairs t apart
    (λ s other. ap (λ (z : Chart). get_or z.fields.slots s None) r.rest ∙ sym (get_or-set_other c.fields.slots t s (Some Active) None other)) r.own r.others owned

-- as if the slot were active, and in fact
pub PoolAgrees-unused : (c : Chart) (pool : Pool) (t : ℕ) → IsUnused c.fields t → PoolAgrees c.shape (with_slot t (Some Active) c.fields) pool → PoolAgrees c.shape c.fields pool
PoolAgrees-unused c pool t unused a = record {
  shape = a.shape;
  fills = a.fills;
  positions = a.positions;
  long = a.long;
  kept = λ s lt. a.kept s lt ∙ kept_in-slot c.shape c.fields.slots c.fields.undos c.fields.places t s (Some Active) unused;
}

pub AreParted-unused : (c : Chart) (t : ℕ) → IsUnused c.fields t → AreParted (set c.fields.slots t (Some Active)) c.fields.undos c.fields.places → AreParted c.fields.slots c.fields.undos c.fields.places
AreParted-unused c t unused parted p s q shadow active at =
    parted p s q shadow (get_or-set_other c.fields.slots t s (Some Active) None (λ same. unused p (ap slot_named shadow ∙ ap (λ (n : ℕ). Some n) same)) ∙ active) at

pub ReleasedIn-none : (t : ℕ) (c : Chart) → ReleasedIn [] t c c
ReleasedIn-none t c = record { own = λ p is. absurd (let no : false ≡ true = is in cc); others = λ p is. refl; rest = refl }
