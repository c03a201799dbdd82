-- A put of a transaction, as the array sees it.
use Rattle.std.proofs.Common.{◌≡◌, ◌≢◌, ◌⊎◌, inl, inr, ℕ, false, ◌+◌, ◌<◌, ◌≤◌, List, length, get_or, set, Option, None, Some, refl, sym, ◌∙◌, ap, arith}
use Rattle.std.proofs.lemmas.Bool.{cases_eq}
use Rattle.std.proofs.lemmas.List.{get_or-set_same, get_or-set_other}
use Rattle.envy_base.specs.Shape.{version_of}
use Rattle.envy_array.specs.Array.{Array, Saved, IsArray, page_of, owner, owned, slot_of, saving, put}
use Rattle.envy_array.specs.Step.{Put, Done, MayOwn}
use Rattle.envy_base.specs.declared.fields.Slot.{Slot}
use Rattle.envy_array.proofs.Keeping.{IsArray-put}
use Rattle.envy_array.proofs.Owning.{owner-put_here, owner-put_there, owner-None, owner-Some, slot-within}
use Rattle.envy_array.proofs.Undoing.{undone-put, has-unowned, has-elsewhere}
use Rattle.envy_map.specs.Fields.{Chart, undo}
use Rattle.envy_soundness.specs.Same.{Framed, Same, Stays, SameWords, SameDurable, Shadowed}
use Rattle.envy_soundness.specs.Sound.{slot_named}
use Rattle.envy_meaning.specs.Stands.{Holds, Stands, Steps, IsLost, slot_word}
use Rattle.envy_meaning.specs.Transactions.{Owns, PutDone}
use Rattle.envy_soundness.proofs.Composition.{Counted-trans, Counted-more, SameWords-trans, SameWords-same, Wears-trans}
use Rattle.envy_meaning.proofs.Standing.{IsLost-durable}

-- after steps in which no page changed its owner
pub Owns-after : (t p : ℕ) (c d new : Chart) → Framed c d → Owns t p d new → Owns t p c new
Owns-after t p c d new f o = record {
  shape = o.shape ∙ f.shape;
  magic = o.magic ∙ f.magic;
  version = o.version ∙ f.version;
  slots = o.slots ∙ f.slots;
  own = o.own;
  others = λ r other. o.others r other ∙ f.owners r;
}

-- and before them
pub Owns-framed : (t p : ℕ) (c d new : Chart) → Owns t p c d → Framed d new → Owns t p c new
Owns-framed t p c d new o f = record {
  shape = f.shape ∙ o.shape;
  magic = f.magic ∙ o.magic;
  version = f.version ∙ o.version;
  slots = f.slots ∙ o.slots;
  own = f.owners p ∙ o.own;
  others = λ r other. f.owners r ∙ o.others r other;
}

-- steps that leave the array, the undo that gives the page to the slot, and the word
pub PutDone-shadowed : (i l k j t p : ℕ) (old mid next new : Chart) (a w : ℕ) → Same i l old mid → SameWords k j mid next → Owns t p mid next → Shadowed 0 0 next new a w → PutDone (i + k) (l + j) t p old new a w
PutDone-shadowed i l k j t p old mid next new a w s ws owns d =
    let words = SameWords-trans i l k j old mid next (SameWords-same i l old mid s) ws in
    record {
      on = d.on;
      owns = Owns-framed t p old next new (Owns-after t p old mid next (Stays.framed (Same.stays s)) owns) d.framed;
      sound = d.sound;
      live = d.live ∙ ap (λ (xs : List ℕ). set xs a w) words.live;
      durable = d.durable ∙ words.durable;
      counted = Counted-more (i + k + 0) (l + j + 0) (i + k) (l + j) old new (omega arith) (omega arith) (Counted-trans (i + k) (l + j) 0 0 old next new words.counted d.counted);
      worn = Wears-trans 0 0 old next new words.shape d.counted words.worn d.worn;
    }

pub PutDone-more : (i l k j t p : ℕ) (old new : Chart) (a w : ℕ) → i ≤ k → l ≤ j → PutDone i l t p old new a w → PutDone k j t p old new a w
PutDone-more i l k j t p old new a w le less d = record { on = d.on; owns = d.owns; sound = d.sound; live = d.live; durable = d.durable; counted = Counted-more i l k j old new le less d.counted; worn = d.worn }

-- the words of slots stay
put-word : (m : Array) (t a w u : ℕ) (saved : Saved) → slot_of m t ≡ Some saved → (u ≡ t) ⊎ (u ≡ t → ⊥) → slot_word (slot_of (put m t saved a w) u) ≡ slot_word (slot_of m u)
put-word m t a w u saved is (inl same) =
    ap slot_word (ap (λ (x : ℕ). get_or (set m.slots t (Some (saving a (get_or m.words a 0) saved))) x None) same ∙ get_or-set_same m.slots t (Some (saving a (get_or m.words a 0) saved)) None (slot-within m t saved is))
    ∙ sym (ap slot_word (ap (slot_of m) same ∙ is))
put-word m t a w u saved is (inr other) = ap slot_word (get_or-set_other m.slots t u (Some (saving a (get_or m.words a 0) saved)) None other)

-- the first put to a page
pub Holds-put : (k j t : ℕ) (c new : Chart) (m : Array) (a w : ℕ) (saved : Saved) → Holds c m → a < length m.words → slot_of m t ≡ Some saved → owner m (page_of a) ≡ None → owned m ≢ m.shadows → PutDone k j t (page_of a) c new a w → Holds new (put m t saved a w)
Holds-put k j t c new m a w saved h lt is free room done =
    let owns = done.owns in
    record {
      magic = owns.magic ∙ h.magic;
      version = owns.version ∙ h.version ∙ ap version_of (sym owns.shape);
      sound = done.sound;
      array = IsArray-put m t a w saved lt may is h.array;
      shadows = rw owns.shape h.shadows;
      live = done.live ∙ ap (λ (ws : List ℕ). set ws a w) h.live;
      durable = done.durable ∙ h.durable ∙ sym (undone-put m t a w saved is (λ u other. has-unowned a (slot_of m u) (owner-None m (page_of a) free u)));
      slots = λ u lu. ap (λ (s : List (Option Slot)). get_or s u None) owns.slots ∙ h.slots u lu ∙ ap (λ (s : Slot). Some s) (sym (put-word m t a w u saved is (cases_eq u t)));
      owners = λ p lp. at p (rw (← owns.shape) lp) (cases_eq p (page_of a));
    }
  where
    may : MayOwn m t (page_of a)
    may = inr (free, room)

    at : (p : ℕ) → p < c.shape.pages → (p ≡ page_of a) ⊎ (p ≡ page_of a → ⊥) → slot_named (undo new.fields p) ≡ owner (put m t saved a w) p
    at p lp (inl same) = ap (λ (x : ℕ). slot_named (undo new.fields x)) same ∙ Owns.own (PutDone.owns done) ∙ sym (owner-put_here m t a w saved is may (IsArray.apart (Holds.array h))) ∙ ap (owner (put m t saved a w)) (sym same)
    at p lp (inr other) = Owns.others (PutDone.owns done) p other ∙ Holds.owners h p lp ∙ sym (owner-put_there m t p a w saved is other)

-- a further put to a page that the slot owns
pub Holds-put_again : (k j t : ℕ) (c new : Chart) (m : Array) (a w : ℕ) (saved : Saved) → Holds c m → a < length m.words → slot_of m t ≡ Some saved → owner m (page_of a) ≡ Some t → Shadowed k j c new a w → Holds new (put m t saved a w)
Holds-put_again k j t c new m a w saved h lt is own done =
    let framed = done.framed in
    record {
      magic = framed.magic ∙ h.magic;
      version = framed.version ∙ h.version ∙ ap version_of (sym framed.shape);
      sound = done.sound;
      array = IsArray-put m t a w saved lt (inl own) is h.array;
      shadows = rw framed.shape h.shadows;
      live = done.live ∙ ap (λ (ws : List ℕ). set ws a w) h.live;
      durable = done.durable ∙ h.durable ∙ sym (undone-put m t a w saved is (λ u other. has-elsewhere m t u a (IsArray.apart h.array) (owner-Some m (page_of a) t own).1 other));
      slots = λ u lu. rw framed.slots (h.slots u lu) ∙ ap (λ (s : Slot). Some s) (sym (put-word m t a w u saved is (cases_eq u t)));
      owners = λ p lp. framed.owners p ∙ h.owners p (rw (← framed.shape) lp) ∙ sym (at p (cases_eq p (page_of a)));
    }
  where
    at : (p : ℕ) → (p ≡ page_of a) ⊎ (p ≡ page_of a → ⊥) → owner (put m t saved a w) p ≡ owner m p
    at p (inl same) = ap (owner (put m t saved a w)) same ∙ owner-put_here m t a w saved is (inl own) (IsArray.apart (Holds.array h)) ∙ sym (ap (owner m) same ∙ own)
    at p (inr other) = owner-put_there m t p a w saved is other

-- as steps of the array
pub Steps-put : (k j t : ℕ) (c new : Chart) (m : Array) (a w : ℕ) (saved : Saved) → Stands c m → a < length m.words → slot_of m t ≡ Some saved → owner m (page_of a) ≡ None → owned m ≢ m.shadows → PutDone k j t (page_of a) c new a w → Steps m (Put t a w) Done new
Steps-put k j t c new m a w saved s lt is free room done = (put m t saved a w, (lt, inr (free, room), saved, is, refl), record { on = done.on; holds = Holds-put k j t c new m a w saved s.holds lt is free room done })

pub Steps-put_again : (k j t : ℕ) (c new : Chart) (m : Array) (a w : ℕ) (saved : Saved) → Stands c m → a < length m.words → slot_of m t ≡ Some saved → owner m (page_of a) ≡ Some t → Shadowed k j c new a w → Steps m (Put t a w) Done new
Steps-put_again k j t c new m a w saved s lt is own done = (put m t saved a w, (lt, inl own, saved, is, refl), record { on = done.on; holds = Holds-put_again k j t c new m a w saved s.holds lt is own done })

-- power failed in a put, which a restart takes back
pub IsLost-put : (k j t : ℕ) (c new : Chart) (m : Array) (a w : ℕ) (saved : Saved) → Stands c m → a < length m.words → slot_of m t ≡ Some saved → MayOwn m t (page_of a) → SameDurable k j c new → new.on ≡ false → IsLost m (Put t a w) new
IsLost-put k j t c new m a w saved s lt is may same off = IsLost-durable k j c new m (Put t a w) (put m t saved a w) s (Done, (lt, may, saved, is, refl), refl) same off
