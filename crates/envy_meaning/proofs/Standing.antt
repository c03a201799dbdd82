-- What a board stands for after a step, and what a failure of power leaves.
use Rattle.std.proofs.Common.{◌≡◌, ◌⊎◌, inl, inr, ℕ, ◌*◌, ◌/◌, ◌<◌, List, length, set, None, Some, refl, sym, ◌∙◌, ap, arith}
use Rattle.std.specs.Prelude.{IsTrue, true, false, Option}
use Rattle.std.proofs.lemmas.List.Quantifiers.{position-Some}
use Rattle.envy_base.specs.Shape.{version_of}
use Rattle.envy_array.specs.Array.{Array, Saved, IsArray, owner, owns, slot_of, stored, restarted}
use Rattle.envy_array.specs.Step.{Command, Store, Done, Accepts, Lost}
use Rattle.envy_base.specs.declared.fields.Slot.TheVariants.{Active}
use Rattle.envy_array.proofs.Keeping.{IsArray-stored}
use Rattle.envy_array.proofs.Undoing.{undone-stored}
use Rattle.envy_map.specs.Fields.{Chart, undo}
use Rattle.envy_soundness.specs.Sound.{owned_by}
use Rattle.envy_soundness.specs.Words.{durable}
use Rattle.envy_soundness.specs.Same.{Stays, Same, SameWords, SameDurable, Stored, Interrupted, Dropped}
use Rattle.envy_meaning.specs.Stands.{Holds, Stands, IsLost, slot_word}
use Rattle.envy_soundness.proofs.Composition.{SameDurable-same, SameDurable-words, SameDurable-dropped}
use Rattle.envy_soundness.proofs.KeptLemmas.{owned_by-none, owned_by-active}
use Rattle.envy_soundness.proofs.WordLists.{length-live}

pub Holds-stays : (k j : ℕ) (c new : Chart) (m : Array) → Holds c m → Stays k j c new → Holds new m
Holds-stays k j c new m h s =
    let framed = s.framed in
    record {
      magic = framed.magic ∙ h.magic;
      version = framed.version ∙ h.version ∙ ap version_of (sym framed.shape);
      sound = s.sound;
      array = h.array;
      shadows = rw framed.shape h.shadows;
      live = s.live ∙ h.live;
      durable = s.durable ∙ h.durable;
      slots = λ t lt. rw framed.slots (h.slots t lt);
      owners = λ p lt. framed.owners p ∙ h.owners p (rw (← framed.shape) lt);
    }

pub Holds-same : (k j : ℕ) (c new : Chart) (m : Array) → Holds c m → Same k j c new → Holds new m
Holds-same k j c new m h s = Holds-stays k j c new m h s.stays

pub Stands-same : (k j : ℕ) (c new : Chart) (m : Array) → Stands c m → Same k j c new → IsTrue new.on → Stands new m
Stands-same k j c new m s same on = record { on = on; holds = Holds-same k j c new m s.holds same }

-- the words of the array are those of whole pages
pub length-stands : (c : Chart) (m : Array) → Stands c m → length m.words ≡ 32 * c.shape.pages
length-stands c m s = ap length (sym (Holds.live s.holds)) ∙ length-live c

pub Holds-stored : (k j : ℕ) (c new : Chart) (m : Array) (a w : ℕ) → Holds c m → owner m (a / 32) ≡ None → Stored k j c new a w → Holds new (stored m a w)
Holds-stored k j c new m a w h free done =
    let framed = done.framed in
    record {
      magic = framed.magic ∙ h.magic;
      version = framed.version ∙ h.version ∙ ap version_of (sym framed.shape);
      sound = done.sound;
      array = IsArray-stored m a w h.array;
      shadows = rw framed.shape h.shadows;
      live = done.live ∙ ap (λ (ws : List ℕ). set ws a w) h.live;
      durable = done.durable ∙ ap (λ (ws : List ℕ). set ws a w) h.durable ∙ sym (undone-stored m a w free);
      slots = λ t lt. rw framed.slots (h.slots t lt);
      owners = λ p lt. framed.owners p ∙ h.owners p (rw (← framed.shape) lt);
    }

pub Stands-stored : (k j : ℕ) (c new : Chart) (m : Array) (a w : ℕ) → Stands c m → owner m (a / 32) ≡ None → Stored k j c new a w → Stands new (stored m a w)
Stands-stored k j c new m a w s free done = record { on = done.on; holds = Holds-stored k j c new m a w s.holds free done }

-- whether a transaction owns a page
pub free-holds : (c : Chart) (m : Array) (p : ℕ) → Holds c m → p < c.shape.pages → owner m p ≡ None → owned_by c.fields.slots (undo c.fields p) ≡ false
free-holds c m p h lt none = owned_by-none c.fields.slots (undo c.fields p) (h.owners p lt ∙ none)

pub owned-holds : (c : Chart) (m : Array) (p t : ℕ) → Holds c m → p < c.shape.pages → owner m p ≡ Some t → owned_by c.fields.slots (undo c.fields p) ≡ true
owned-holds c m p t h lt own =
    let found = position-Some (owns p) m.slots t None own in
    let low : t < 64 = let size = IsArray.slots h.array in let inside = found.0 in omega arith in
    owned_by-active c.fields.slots (undo c.fields p) t (h.owners p lt ∙ own) (h.slots t low ∙ at (slot_of m t) found.1)
  where
    at : (s : Option Saved) → owns p s ≡ true → Some (slot_word s) ≡ Some Active
    at None e = cc
    at (Some saved) e = refl

-- power is off, and a restart would leave what it would have left before: the command was not done
pub IsLost-durable : (k j : ℕ) (c new : Chart) (m : Array) (command : Command) (n : Array) → Stands c m → Accepts m command n → SameDurable k j c new → new.on ≡ false → IsLost m command new
IsLost-durable k j c new m command n s accepts same off =
    let h = s.holds in
    record {
      off = off;
      magic = same.magic ∙ h.magic;
      version = same.version ∙ h.version ∙ ap version_of (sym same.shape);
      sound = same.sound;
      words = (restarted m, (n, accepts, inl refl), same.durable ∙ h.durable);
    }

pub IsLost-same : (k j : ℕ) (c new : Chart) (m : Array) (command : Command) (n : Array) → Stands c m → Accepts m command n → Same k j c new → new.on ≡ false → IsLost m command new
IsLost-same k j c new m command n s accepts same off = IsLost-durable k j c new m command n s accepts (SameDurable-same k j c new same) off

pub IsLost-words : (k j : ℕ) (c new : Chart) (m : Array) (command : Command) (n : Array) → Stands c m → Accepts m command n → SameWords k j c new → new.on ≡ false → IsLost m command new
IsLost-words k j c new m command n s accepts same off = IsLost-durable k j c new m command n s accepts (SameDurable-words k j c new same) off

pub IsLost-dropped : (k j : ℕ) (c new : Chart) (m : Array) (command : Command) (n : Array) → Stands c m → Accepts m command n → Dropped k j c new → IsLost m command new
IsLost-dropped k j c new m command n s accepts same = IsLost-durable k j c new m command n s accepts (SameDurable-dropped k j c new same) same.off

-- power failed in a store, which was done or not
pub IsLost-interrupted : (k j : ℕ) (c new : Chart) (m : Array) (a w : ℕ) → Stands c m → a < length m.words → owner m (a / 32) ≡ None → Interrupted k j c new a w → IsLost m (Store a w) new
IsLost-interrupted k j c new m a w s lt free cut =
    let h = s.holds in
    let framed = cut.framed in
    record {
      off = cut.off;
      magic = framed.magic ∙ h.magic;
      version = framed.version ∙ h.version ∙ ap version_of (sym framed.shape);
      sound = cut.sound;
      words = either cut.durable;
    }
  where
    accepts : Accepts m (Store a w) (stored m a w)
    accepts = (Done, (lt, free, refl), refl)

    either : (durable new ≡ durable c) ⊎ (durable new ≡ set (durable c) a w) → (n : Array) × Lost m (Store a w) n × (durable new ≡ n.words)
    either (inl e) = (restarted m, (stored m a w, accepts, inl refl), e ∙ Holds.durable s.holds)
    either (inr e) = (restarted (stored m a w), (stored m a w, accepts, inr refl), e ∙ ap (λ (ws : List ℕ). set ws a w) (Holds.durable s.holds) ∙ sym (undone-stored m a w free))
