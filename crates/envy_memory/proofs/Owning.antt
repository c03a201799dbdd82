-- What the owner pairs say of a board that stands for an array, and what holds of a memory after a store or put.
use Rattle.std.proofs.Common.{◌≡◌, false, ℕ, ◌+◌, ◌*◌, ◌/◌, ◌%◌, ◌<◌, ◌≤◌, List, length, get_or, Option, None, refl, sym, ◌∙◌, ap, subst, arith}
use Rattle.std.specs.Prelude.{IsTrue, Err}
use Rattle.envy_array.specs.Array.{Array, owner, stored}
use Rattle.envy_array.specs.Step.{Store, Done, Accepts}
use Rattle.envy_base.specs.Shape.{version_of}
use Rattle.envy_base.specs.declared.board.Trouble.{Trouble}
use Rattle.envy_base.specs.declared.board.Trouble.TheVariants.{Off as TroubleOff, Bad as TroubleBad}
use Rattle.envy_base.specs.declared.fields.Slot.{Slot}
use Rattle.envy_base.specs.declared.shape.Shape.{Shape}
use Rattle.envy_map.specs.Fields.{Chart, undo}
use Rattle.envy_soundness.specs.Same.{Framed, Stored, Interrupted}
use Rattle.envy_soundness.specs.Sound.{owned_by}
use Rattle.envy_meaning.specs.Stands.{Stands, Steps}
use Rattle.envy_soundness.proofs.Composition.{Counted-more}
use Rattle.envy_meaning.proofs.Owners.{owner_in-framed, owner_in-holds, unowned}
use Rattle.envy_meaning.proofs.Standing.{Stands-stored, Stands-same, IsLost-interrupted}
use Rattle.envy_txn.specs.Owners.{Ownership, AreOwned, owner_of}
use Rattle.envy_engine.specs.Agreement.{Steady}
use Rattle.envy_engine.specs.Storing.{Wrote, Leaves}
use Rattle.envy_engine.specs.declared.parts.Parts.{Parts}
use Rattle.envy_memory.specs.Calls.{Stores, Works}
use Rattle.envy_memory.specs.Faults.{store_fault}
use Rattle.envy_memory.specs.Picture.{IsMemory}
use Rattle.envy_memory.proofs.Standing.{inside}

-- the array's owner is the pairs'
pub owner-pairs : (c : Chart) (m : Array) (o : Ownership) (p : ℕ) → Stands c m → AreOwned c.fields.slots c.fields.undos o.pairs → p < c.shape.pages → owner m p ≡ owner_of o.pairs p
owner-pairs c m o p s owned lt = sym (owner_in-holds c m p (Stands.holds s) lt) ∙ sym (owned p)

pub free-pairs : (c : Chart) (o : Ownership) (p : ℕ) → AreOwned c.fields.slots c.fields.undos o.pairs → owner_of o.pairs p ≡ None → owned_by c.fields.slots (undo c.fields p) ≡ false
free-pairs c o p owned none = unowned c.fields.slots (undo c.fields p) (sym (owned p) ∙ none)

pub AreOwned-framed : (c new : Chart) (o : Ownership) → Framed c new → AreOwned c.fields.slots c.fields.undos o.pairs → AreOwned new.fields.slots new.fields.undos o.pairs
AreOwned-framed c new o framed owned p = owned p ∙ sym (owner_in-framed c new p framed)

-- a memory after a store, at each exit
pub IsMemory-left : (k j limit mark : ℕ) (c new : Chart) (x y : Parts) (o : Ownership) → IsTrue c.on → IsMemory c x o limit mark → Leaves k j c new → Steady new y → IsMemory new y o limit mark
IsMemory-left k j limit mark c new x y o on m l steady =
    let framed = l.framed in
    record {
      magic = framed.magic ∙ m.magic;
      version = framed.version ∙ m.version ∙ ap version_of (sym framed.shape);
      sound = l.sound;
      fits = steady.fits;
      shadows = m.shadows ∙ ap (λ (sh : Shape). sh.shadows) (sym framed.shape);
      some = m.some;
      some_limit = m.some_limit;
      agrees = steady.agrees;
      owned = λ then_on. AreOwned-framed c new o framed (m.owned on);
      settled = λ then_on t is. m.settled on t (ap (λ (ss : List (Option Slot)). get_or ss t None) (sym framed.slots) ∙ is);
    }

pub Works-left : (k j m n : ℕ) (c new : Chart) → k ≤ m → j ≤ n → IsTrue c.on → Leaves k j c new → Works m n c new
Works-left k j m n c new le less on l = record {
  shape = Framed.shape l.framed;
  counted = Counted-more k j m n c new le less l.counted;
  worn = l.worn;
  idle = λ off. absurd (let clash : IsTrue false = subst IsTrue off on in cc);
}

pub same_address : (a : ℕ) → 32 * (a / 32) + a % 32 ≡ a
same_address a = omega arith

accepts-store : (m : Array) (a w : ℕ) → a < length m.words → owner m (a / 32) ≡ None → Accepts m (Store a w) (stored m a w)
accepts-store m a w lt free = (Done, (lt, free, refl), refl)

pub Stores-done : (k j : ℕ) (c new : Chart) (m : Array) (o : Ownership) (a w : ℕ) → Stands c m → AreOwned c.fields.slots c.fields.undos o.pairs → owner_of o.pairs (a / 32) ≡ None → a / 32 < c.shape.pages → Stored k j c new (32 * (a / 32) + a % 32) w → Steps m (Store a w) Done new
Stores-done k j c new m o a w s owned none lt done =
    let free = owner-pairs c m o (a / 32) s owned lt ∙ none in
    (stored m a w, (inside c m a s lt, free, refl), Stands-stored k j c new m a w s free (subst (λ (x : ℕ). Stored k j c new x w) (same_address a) done))

pub Stores-ended : (k j : ℕ) (c new : Chart) (m : Array) (o : Ownership) (a w : ℕ) (e : Trouble) → Stands c m → AreOwned c.fields.slots c.fields.undos o.pairs → owner_of o.pairs (a / 32) ≡ None → a / 32 < c.shape.pages → Wrote k j c (32 * (a / 32) + a % 32) w (Err e) new → Stores m a w (Err (store_fault e)) new
Stores-ended k j c new m o a w TroubleOff s owned none lt cut =
    let free = owner-pairs c m o (a / 32) s owned lt ∙ none in
    IsLost-interrupted k j c new m a w s (inside c m a s lt) free (subst (λ (x : ℕ). Interrupted k j c new x w) (same_address a) cut)
Stores-ended k j c new m o a w TroubleBad s owned none lt (same, on) =
    let free = owner-pairs c m o (a / 32) s owned lt ∙ none in
    (stored m a w, accepts-store m a w (inside c m a s lt) free, Stands-same k j c new m s same on)
