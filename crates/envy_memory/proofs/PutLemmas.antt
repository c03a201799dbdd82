-- What a put does to the array that a board stands for, and what holds of a memory after it.
use Rattle.std.proofs.Common.{◌≡◌, ◌≢◌, ◌⊎◌, inl, inr, Bool, true, false, ℕ, ◌+◌, ◌*◌, ◌/◌, ◌%◌, ◌<◌, ◌≤◌, List, length, get_or, Option, None, Some, refl, sym, ◌∙◌, ap, subst, arith}
use Rattle.std.specs.Prelude.{IsTrue, Result, Ok, Err, ◌↔◌}
use Rattle.std.proofs.lemmas.Bool.{cases_lt}
use Rattle.envy_array.specs.Array.{Array, Saved, owner, owned, slot_of, put}
use Rattle.envy_array.specs.Step.{Put, Done}
use Rattle.envy_base.specs.Shape.{version_of}
use Rattle.envy_base.specs.declared.board.Trouble.{Trouble}
use Rattle.envy_base.specs.declared.board.Trouble.TheVariants.{Off as TroubleOff, Bad as TroubleBad}
use Rattle.envy_base.specs.declared.fields.Slot.{Slot}
use Rattle.envy_base.specs.declared.fields.Slot.TheVariants.{Active}
use Rattle.envy_base.specs.declared.shape.Shape.{Shape}
use Rattle.envy_map.specs.Fields.{Chart, slot, undo}
use Rattle.envy_soundness.specs.Same.{Framed, Same, SameDurable, Shadowed, Counted, Wears, Stays}
use Rattle.envy_soundness.specs.Sound.{owned_by}
use Rattle.envy_meaning.specs.Stands.{Stands, Steps}
use Rattle.envy_meaning.specs.Transactions.{PutDone, Owns}
use Rattle.envy_soundness.proofs.Composition.{Counted-more}
use Rattle.envy_meaning.proofs.Ending.{open-active}
use Rattle.envy_meaning.proofs.Owners.{owned-counted, owner_in-false}
use Rattle.envy_meaning.proofs.Putting.{Steps-put, Steps-put_again, IsLost-put}
use Rattle.envy_meaning.proofs.Standing.{Stands-same, IsLost-dropped}
use Rattle.envy_txn.specs.Owners.{Ownership, IsOwnership, AreOwned, owner_of}
use Rattle.envy_txn.proofs.OwnerLemmas.{pairs-counted}
use Rattle.envy_engine.specs.Agreement.{Steady}
use Rattle.envy_engine.specs.Putting.{PutFirst, OwnersAgree}
use Rattle.envy_engine.specs.Storing.{Shaded}
use Rattle.envy_engine.specs.declared.parts.Parts.{Parts}
use Rattle.envy_memory.specs.Calls.{Puts, Works}
use Rattle.envy_memory.specs.Faults.{put_fault}
use Rattle.envy_memory.specs.Picture.{IsMemory}
use Rattle.envy_memory.proofs.Owning.{owner-pairs, same_address}
use Rattle.envy_memory.proofs.Standing.{inside}

-- as many pages are owned as there are pairs
pub counted-pairs : (c : Chart) (m : Array) (o : Ownership) → Stands c m → IsOwnership o → AreOwned c.fields.slots c.fields.undos o.pairs → length o.pairs ≡ owned m
counted-pairs c m o s whole agree = pairs-counted c.fields.slots c.fields.undos o.pairs (IsOwnership.apart whole) agree ∙ owned-counted c m (Stands.holds s)

-- what a put meets: the slot is open and the page in range
pub record Meets (t a : ℕ) (c : Chart) (m : Array) (o : Ownership) : Type 0 where
  pub stands : Stands c m
  pub owned : AreOwned c.fields.slots c.fields.undos o.pairs
  pub low : t < 64
  pub active : slot c.fields t ≡ Some Active
  pub page : a / 32 < c.shape.pages

saved-of : (t a : ℕ) (c : Chart) (m : Array) (o : Ownership) → Meets t a c m o → (saved : Saved) × (slot_of m t ≡ Some saved)
saved-of t a c m o x = open-active c m t (Stands.holds x.stands) x.low x.active

-- no room is left
pub full-of : (n l : ℕ) (b : Bool) → (IsTrue b ↔ (n < l)) → b ≡ false → n ≤ l → n ≡ l
full-of n l b iff is le = at (cases_lt n l)
  where
    at : (n < l) ⊎ (l ≤ n) → n ≡ l
    at (inl lt) = absurd (let no : false ≡ true = sym is ∙ iff.1 lt in cc)
    at (inr ge) = omega arith

-- the slot is open in the array
pub is-open : (t a : ℕ) (c : Chart) (m : Array) (o : Ownership) → Meets t a c m o → slot_of m t ≢ None
is-open t a c m o x none = let saved = saved-of t a c m o x in let no : Some saved.0 ≡ None = sym saved.1 ∙ none in cc

-- an undo of an active slot owns the page where the pairs name its owner
pub owned-free : (c : Chart) (m : Array) (o : Ownership) (p t : ℕ) → AreOwned c.fields.slots c.fields.undos o.pairs → owner_of o.pairs p ≡ Some t → owned_by c.fields.slots (undo c.fields p) ≡ true
owned-free c m o p t agree own = at (owned_by c.fields.slots (undo c.fields p)) refl
  where
    at : (b : Bool) → owned_by c.fields.slots (undo c.fields p) ≡ b → owned_by c.fields.slots (undo c.fields p) ≡ true
    at true is = is
    at false is = absurd (let no : Some t ≡ None = sym own ∙ agree p ∙ owner_in-false c.fields.slots (undo c.fields p) is in cc)

-- and room for one more page that nobody owns
pub record MeetsFree (t a : ℕ) (c : Chart) (m : Array) (o : Ownership) : Type 0 where
  pub meets : Meets t a c m o
  pub whole : IsOwnership o
  pub none : owner_of o.pairs (a / 32) ≡ None
  pub shadows : o.limit ≡ c.shape.shadows
  pub room : length o.pairs < o.limit

free-page : (t a : ℕ) (c : Chart) (m : Array) (o : Ownership) → MeetsFree t a c m o → owner m (a / 32) ≡ None
free-page t a c m o x = let y = x.meets in owner-pairs c m o (a / 32) y.stands y.owned y.page ∙ x.none

has-room : (t a : ℕ) (c : Chart) (m : Array) (o : Ownership) → MeetsFree t a c m o → owned m ≢ m.shadows
has-room t a c m o x full =
    let y = x.meets in
    let n = counted-pairs c m o y.stands x.whole y.owned in
    let s = Stands.holds y.stands in
    let all = s.shadows in
    let limit = x.shadows in
    let room = x.room in
    omega arith

pub Puts-done : (k j t : ℕ) (c new : Chart) (m : Array) (o : Ownership) (a w : ℕ) → MeetsFree t a c m o → PutDone k j t (a / 32) c new (32 * (a / 32) + a % 32) w → Steps m (Put t a w) Done new
Puts-done k j t c new m o a w x done =
    let y = x.meets in
    let saved = saved-of t a c m o y in
    Steps-put k j t c new m a w saved.0 y.stands (inside c m a y.stands y.page) saved.1 (free-page t a c m o x) (has-room t a c m o x) (subst (λ (b : ℕ). PutDone k j t (a / 32) c new b w) (same_address a) done)

pub Puts-ended : (k j t : ℕ) (c new : Chart) (m : Array) (o : Ownership) (a w : ℕ) (e : Trouble) → MeetsFree t a c m o → PutFirst k j t (a / 32) c (32 * (a / 32) + a % 32) w (Err e) new → Puts m t a w (Err (put_fault e)) new
Puts-ended k j t c new m o a w TroubleOff x (same, off) =
    let y = x.meets in
    let saved = saved-of t a c m o y in
    IsLost-put k j t c new m a w saved.0 y.stands (inside c m a y.stands y.page) saved.1 (inr (free-page t a c m o x, has-room t a c m o x)) same off
Puts-ended k j t c new m o a w TroubleBad x (same, on) =
    let y = x.meets in
    let saved = saved-of t a c m o y in
    (put m t saved.0 a w, (Done, (inside c m a y.stands y.page, inr (free-page t a c m o x, has-room t a c m o x), saved.0, saved.1, refl), refl), Stands-same k j c new m y.stands same on)

own-page : (t a : ℕ) (c : Chart) (m : Array) (o : Ownership) → Meets t a c m o → owner_of o.pairs (a / 32) ≡ Some t → owner m (a / 32) ≡ Some t
own-page t a c m o y own = owner-pairs c m o (a / 32) y.stands y.owned y.page ∙ own

pub Puts-again : (k j t : ℕ) (c new : Chart) (m : Array) (o : Ownership) (a w : ℕ) → Meets t a c m o → owner_of o.pairs (a / 32) ≡ Some t → Shadowed k j c new (32 * (a / 32) + a % 32) w → Steps m (Put t a w) Done new
Puts-again k j t c new m o a w y own done =
    let saved = saved-of t a c m o y in
    Steps-put_again k j t c new m a w saved.0 y.stands (inside c m a y.stands y.page) saved.1 (own-page t a c m o y own) (subst (λ (b : ℕ). Shadowed k j c new b w) (same_address a) done)

pub Puts-again_ended : (k j t : ℕ) (c new : Chart) (m : Array) (o : Ownership) (a w : ℕ) (e : Trouble) → Meets t a c m o → owner_of o.pairs (a / 32) ≡ Some t → Shaded k j c (32 * (a / 32) + a % 32) w (Err e) new → Puts m t a w (Err (put_fault e)) new
Puts-again_ended k j t c new m o a w TroubleOff y own dropped =
    let saved = saved-of t a c m o y in
    IsLost-dropped k j c new m (Put t a w) (put m t saved.0 a w) y.stands (Done, (inside c m a y.stands y.page, inl (own-page t a c m o y own), saved.0, saved.1, refl), refl) dropped
Puts-again_ended k j t c new m o a w TroubleBad y own (same, on) =
    let saved = saved-of t a c m o y in
    (put m t saved.0 a w, (Done, (inside c m a y.stands y.page, inl (own-page t a c m o y own), saved.0, saved.1, refl), refl), Stands-same k j c new m y.stands same on)

-- ---- at each exit of a first put

pub Counted-first : (k j t p : ℕ) (c new : Chart) (a w : ℕ) (r : Result Unit Trouble) → PutFirst k j t p c a w r new → Counted k j c new
Counted-first k j t p c new a w (Ok done) put = put.counted
Counted-first k j t p c new a w (Err TroubleOff) put = put.0.counted
Counted-first k j t p c new a w (Err TroubleBad) put = Stays.counted (Same.stays put.0)

Wears-first : (k j t p : ℕ) (c new : Chart) (a w : ℕ) (r : Result Unit Trouble) → PutFirst k j t p c a w r new → Wears c new
Wears-first k j t p c new a w (Ok done) put = put.worn
Wears-first k j t p c new a w (Err TroubleOff) put = put.0.worn
Wears-first k j t p c new a w (Err TroubleBad) put = Same.worn put.0

shape-first : (k j t p : ℕ) (c new : Chart) (a w : ℕ) (r : Result Unit Trouble) → PutFirst k j t p c a w r new → new.shape ≡ c.shape
shape-first k j t p c new a w (Ok done) put = Owns.shape (PutDone.owns put)
shape-first k j t p c new a w (Err TroubleOff) put = SameDurable.shape put.0
shape-first k j t p c new a w (Err TroubleBad) put = Framed.shape (Stays.framed (Same.stays put.0))

pub Works-first : (k j m n t p : ℕ) (c new : Chart) (a w : ℕ) (r : Result Unit Trouble) → k ≤ m → j ≤ n → IsTrue c.on → PutFirst k j t p c a w r new → Works m n c new
Works-first k j m n t p c new a w r le less on put = record {
  shape = shape-first k j t p c new a w r put;
  counted = Counted-more k j m n c new le less (Counted-first k j t p c new a w r put);
  worn = Wears-first k j t p c new a w r put;
  idle = λ off. absurd (let clash : IsTrue false = subst IsTrue off on in cc);
}

pub IsMemory-first : (k j limit mark t p : ℕ) (c new : Chart) (x y : Parts) (o q : Ownership) (a w : ℕ) (r : Result Unit Trouble) → IsTrue c.on → IsMemory c x o limit mark → PutFirst k j t p c a w r new → Steady new y → OwnersAgree new q → q.limit ≡ o.limit → IsMemory new y q limit mark
IsMemory-first k j limit mark t p c new x y o q a w (Ok done) on m put steady agree same =
    let owns = PutDone.owns put in
    record {
      magic = owns.magic ∙ m.magic;
      version = owns.version ∙ m.version ∙ ap version_of (sym owns.shape);
      sound = PutDone.sound put;
      fits = steady.fits;
      shadows = same ∙ m.shadows ∙ ap (λ (sh : Shape). sh.shadows) (sym owns.shape);
      some = m.some;
      some_limit = m.some_limit;
      agrees = steady.agrees;
      owned = agree;
      settled = λ then_on u is. m.settled on u (ap (λ (ss : List (Option Slot)). get_or ss u None) (sym owns.slots) ∙ is);
    }
IsMemory-first k j limit mark t p c new x y o q a w (Err TroubleOff) on m put steady agree same =
    let s = put.0 in
    record {
      magic = s.magic ∙ m.magic;
      version = s.version ∙ m.version ∙ ap version_of (sym s.shape);
      sound = s.sound;
      fits = steady.fits;
      shadows = same ∙ m.shadows ∙ ap (λ (sh : Shape). sh.shadows) (sym s.shape);
      some = m.some;
      some_limit = m.some_limit;
      agrees = steady.agrees;
      owned = agree;
      settled = λ then_on. absurd (let clash : IsTrue false = subst IsTrue put.1 then_on in cc);
    }
IsMemory-first k j limit mark t p c new x y o q a w (Err TroubleBad) on m put steady agree same =
    let s = Same.stays put.0 in
    let f = s.framed in
    record {
      magic = f.magic ∙ m.magic;
      version = f.version ∙ m.version ∙ ap version_of (sym f.shape);
      sound = s.sound;
      fits = steady.fits;
      shadows = same ∙ m.shadows ∙ ap (λ (sh : Shape). sh.shadows) (sym f.shape);
      some = m.some;
      some_limit = m.some_limit;
      agrees = steady.agrees;
      owned = agree;
      settled = λ then_on u is. m.settled on u (ap (λ (ss : List (Option Slot)). get_or ss u None) (sym f.slots) ∙ is);
    }
