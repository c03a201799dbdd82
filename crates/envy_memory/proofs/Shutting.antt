-- Slots that are closed stay so.
use Rattle.std.proofs.Common.{◌≡◌, ◌⊎◌, inl, inr, ℕ, ◌+◌, ◌<◌, ◌≤◌, false, max, min, List, get_or, set, Option, None, Some, Ok, Err, sym, ◌∙◌, ap, subst, arith}
use Rattle.std.specs.Prelude.{IsTrue, Result}
use Rattle.std.proofs.lemmas.Bool.{cases_eq, cases_lt}
use Rattle.std.proofs.lemmas.List.{get_or-set_other, get_or-set_same}
use Rattle.envy_base.specs.declared.board.Off.{Off}
use Rattle.envy_base.specs.declared.board.Trouble.{Trouble}
use Rattle.envy_base.specs.declared.board.Trouble.TheVariants.{Off as TroubleOff, Bad as TroubleBad}
use Rattle.envy_base.specs.declared.fields.Slot.{Slot}
use Rattle.envy_base.specs.declared.fields.Slot.TheVariants.{Active, Vacant}
use Rattle.envy_map.specs.Fields.{Chart, slot}
use Rattle.envy_soundness.specs.Same.{Framed, Same}
use Rattle.envy_soundness.specs.Sound.{IsSound, Slots, Sound}
use Rattle.envy_reloc.specs.Phases.{SameOnce}
use Rattle.envy_meaning.specs.Transactions.{Closes, PutDone}
use Rattle.envy_engine.specs.Putting.{PutFirst}
use Rattle.envy_memory.specs.Opened.{HasOpenAmong, HasOpenFrom}

-- where the slots are the same
pub shut-as : (k : ℕ) (c new : Chart) → new.fields.slots ≡ c.fields.slots → HasOpenFrom k c false → HasOpenFrom k new false
shut-as k c new slots shut t le lt is = shut t le lt (ap (λ (ss : List (Option Slot)). get_or ss t None) (sym slots) ∙ is)

-- from no slot on
pub shut-none : (c : Chart) → HasOpenFrom 64 c false
shut-none c t le lt is = absurd (omega arith)

-- after a first put
pub shut-first : (k m j t p : ℕ) (c new : Chart) (a w : ℕ) (r : Result Unit Trouble) → PutFirst m j t p c a w r new → HasOpenFrom k c false → IsTrue new.on → HasOpenFrom k new false
shut-first k m j t p c new a w (Ok done) put shut on = let owns = PutDone.owns put in shut-as k c new owns.slots shut
shut-first k m j t p c new a w (Err TroubleOff) put shut on = absurd (let clash : IsTrue false = subst IsTrue put.1 on in cc)
shut-first k m j t p c new a w (Err TroubleBad) put shut on =
    let s = Same.stays put.0 in
    let f = s.framed in
    shut-as k c new f.slots shut

-- after a step of a tick
pub shut-ticked : (k : ℕ) (c new : Chart) → SameOnce c new → HasOpenFrom k c false → HasOpenFrom k new false
shut-ticked k c new (inl same) shut = let f = Same.stays same in let g = f.framed in shut-as k c new g.slots shut
shut-ticked k c new (inr same) shut = let f = Same.stays same in let g = f.framed in shut-as k c new g.slots shut

-- a slot that was set
slot-set : (t u : ℕ) (v x : Slot) (c new : Chart) → IsSound c → t < 64 → new.fields.slots ≡ set c.fields.slots t (Some v) → slot new.fields u ≡ Some x → ((u ≡ t) × (Some v ≡ Some x)) ⊎ (slot c.fields u ≡ Some x)
slot-set t u v x c new sound low slots after = at (cases_eq u t)
  where
    there : get_or (set c.fields.slots t (Some v)) u None ≡ Some x
    there = ap (λ (xs : List (Option Slot)). get_or xs u None) (sym slots) ∙ after

    at : (u ≡ t) ⊎ (u ≡ t → ⊥) → ((u ≡ t) × (Some v ≡ Some x)) ⊎ (slot c.fields u ≡ Some x)
    at (inl same) =
        let here = get_or-set_same c.fields.slots t (Some v) None (rw (Slots.long (Sound.slots sound)) low) in
        inl (same, sym here ∙ ap (λ (i : ℕ). get_or (set c.fields.slots t (Some v)) i None) (sym same) ∙ there)
    at (inr apart) = inr (sym (get_or-set_other c.fields.slots t u (Some v) None apart) ∙ there)

-- where a slot was closed
pub closes-shut : (k t : ℕ) (c new : Chart) → IsSound c → t < 64 → Closes t c new → HasOpenFrom k c false → HasOpenFrom k new false
closes-shut k t c new sound low closes shut u le lt is = at (slot-set t u Vacant Active c new sound low closes.slots is)
  where
    at : ((u ≡ t) × (Some Vacant ≡ Some Active)) ⊎ (slot c.fields u ≡ Some Active) → ⊥
    at (inl (same, e)) = let no : Some Vacant ≡ Some Active = e in cc
    at (inr was) = shut u le lt was

-- where one was opened, of those below another one
pub opens-shut : (k more t : ℕ) (c new : Chart) → IsSound c → t < 64 → new.fields.slots ≡ set c.fields.slots t (Some Active) → k ≤ more → t < more → HasOpenFrom k c false → HasOpenFrom more new false
opens-shut k more t c new sound low slots less below shut u le lt is = at (slot-set t u Active Active c new sound low slots is)
  where
    at : ((u ≡ t) × (Some Active ≡ Some Active)) ⊎ (slot c.fields u ≡ Some Active) → ⊥
    at (inl (same, e)) = omega (arith, same, le, below)
    at (inr was) = shut u (omega (arith, less, le)) lt was

-- none is open among some, and none from their end on
pub shut-both : (first k : ℕ) (c : Chart) → HasOpenAmong first (min k 64) c false → HasOpenFrom k c false → HasOpenFrom first c false
shut-both first k c near far t le lt is = at (cases_lt t k)
  where
    at : (t < k) ⊎ (k ≤ t) → ⊥
    at (inl below) = near t le (omega arith) is
    at (inr beyond) = far t beyond lt is

-- and so none from the lesser of the two on
pub shut-more : (first k : ℕ) (c : Chart) → HasOpenFrom first c false → HasOpenFrom k c false → HasOpenFrom (min k first) c false
shut-more first k c near far t le lt is = at (cases_lt t k)
  where
    at : (t < k) ⊎ (k ≤ t) → ⊥
    at (inl below) = near t (omega arith) lt is
    at (inr beyond) = far t beyond lt is
