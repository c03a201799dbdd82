-- What a first put says at the exits of its calls.
use Rattle.std.proofs.Common.{◌≡◌, ◌∙◌, ℕ, ◌+◌, ◌*◌, ◌-◌, ◌<◌, ◌≤◌, false, Result, Ok, Err, IsErrAnd, List, get_or, Some, None, Option, refl, sym, ap, subst, arith}
use Rattle.std.specs.Prelude.{Any}
use Rattle.envy_base.specs.declared.board.Trouble.{Trouble}
use Rattle.envy_base.specs.declared.board.Trouble.TheVariants.{Off as TroubleOff, Bad}
use Rattle.envy_base.specs.declared.fields.Place.{Place}
use Rattle.envy_base.specs.declared.fields.Place.TheVariants.{Frame}
use Rattle.envy_base.specs.Shape.{IsShape, positions_of}
use Rattle.envy_base.specs.declared.shape.Shape.{Shape}
use Rattle.envy_frames.specs.declared.held.Held.{Held}
use Rattle.envy_frames.specs.Agreement.{AreHeld, IsHeld}
use Rattle.envy_frames.specs.Order.{Order}
use Rattle.envy_map.specs.Fields.{Chart}
use Rattle.envy_soundness.specs.Power.{power_after}
use Rattle.envy_soundness.specs.Same.{Same, SameWords, SameDurable, Stays}
use Rattle.envy_soundness.proofs.Composition.{Same-more, SameDurable-same, SameDurable-words, SameDurable-trans, SameDurable-more}
use Rattle.envy_txn.specs.Owners.{Ownership}
use Rattle.envy_base.specs.Counting.{up}
use Rattle.envy_engine.specs.Putting.{MayGive, PutFirst, Shadows, KeepsOwners}
use Rattle.envy_engine.specs.Storing.{Wrote, Shaded}
use Rattle.envy_engine.specs.declared.parts.Parts.{Parts}
use Rattle.envy_engine.proofs.PutLemmas.{MayGive-framed}
use Rattle.envy_engine.proofs.StoreLemmas.{Interrupted-same, Dropped-same}

-- the frame in which a page stands is held
pub held-frame : (sh : Shape) (places : List (Option Place)) (held : List Held) (p k : ℕ) → AreHeld sh places held → get_or places p None ≡ Some (Frame k) → Any (λ h. h.frame ≡ k) held
held-frame sh places held p k a here = at (a.named p k here)
  where
    at : Any (λ h. (h.page ≡ p) × (h.frame ≡ k)) held → Any (λ h. h.frame ≡ k) held
    at (i, h, lt, is, both) = (i, h, lt, is, both.1)

-- and its home is a position
pub held-home : (sh : Shape) (places : List (Option Place)) (held : List Held) (k home : ℕ) → AreHeld sh places held → Any (λ h. (h.frame ≡ k) × (h.home ≡ home)) held → home < positions_of sh
held-home sh places held k home a (i, h, lt, is, both) =
    subst (λ (n : ℕ). n < positions_of sh) both.1 (IsHeld.home (subst (IsHeld sh places) is (a.each i h lt)))

-- a first put ended before it changed a word
pub PutFirst-ended : (A : Type 0) (i l k j t p : ℕ) (old new : Chart) (a w : ℕ) (r : Result Unit Trouble) (fault : Trouble) → i ≤ k → l ≤ j → Same i l old new → new.on ≡ power_after {A = A} (Err fault) → IsErrAnd r (λ e. e ≡ fault) → PutFirst k j t p old a w r new
PutFirst-ended A i l k j t p old new a w (Ok done) fault le less same power is = absurd is
PutFirst-ended A i l k j t p old new a w (Err TroubleOff) fault le less same power is = (SameDurable-same k j old new (Same-more i l k j old new le less same), power ∙ sym (ap (λ (e : Trouble). power_after {A = A} (Err e)) is))
PutFirst-ended A i l k j t p old new a w (Err Bad) fault le less same power is = (Same-more i l k j old new le less same, power ∙ sym (ap (λ (e : Trouble). power_after {A = A} (Err e)) is))

-- the owners stay where the array does
pub KeepsOwners-same : (k j t p : ℕ) (old new : Chart) (o : Ownership) → MayGive t p old o → Same k j old new → KeepsOwners new o o
KeepsOwners-same k j t p old new o may same = record { limit = refl; agree = λ on. MayGive.owned (MayGive-framed t p old new o (Stays.framed (Same.stays same)) may) }

-- power failed in it
pub PutFirst-lost : (k j t p : ℕ) (old mid new : Chart) (a w : ℕ) (r : Result Unit Trouble) → Same k j old mid → SameDurable 0 0 mid new → new.on ≡ false → IsErrAnd r (λ e. e ≡ TroubleOff) → PutFirst k j t p old a w r new
PutFirst-lost k j t p old mid new a w (Ok done) same lost off is = absurd is
PutFirst-lost k j t p old mid new a w (Err TroubleOff) same lost off is = (SameDurable-more (k + 0) (j + 0) k j old new (omega arith) (omega arith) (SameDurable-trans k j 0 0 old mid new (SameDurable-same k j old mid same) lost), off)
PutFirst-lost k j t p old mid new a w (Err Bad) same lost off is = absurd (let no : Bad ≡ TroubleOff = is in cc)

-- a shadow wasn't programmed
pub Shadows-ended : (A : Type 0) (k j t p : ℕ) (old new : Chart) (r : Result Unit Trouble) (fault : Trouble) → Same k j old new → new.on ≡ power_after {A = A} (Err fault) → IsErrAnd r (λ e. e ≡ fault) → Shadows k j t p old r new
Shadows-ended A k j t p old new (Ok done) fault same power is = absurd is
Shadows-ended A k j t p old new (Err TroubleOff) fault same power is = (SameDurable-same k j old new same, power ∙ sym (ap (λ (e : Trouble). power_after {A = A} (Err e)) is))
Shadows-ended A k j t p old new (Err Bad) fault same power is = (same, power ∙ sym (ap (λ (e : Trouble). power_after {A = A} (Err e)) is))

-- power failed once it was
pub Shadows-lost : (k j t p : ℕ) (old mid new : Chart) (r : Result Unit Trouble) → Same k j old mid → SameWords 0 0 mid new → new.on ≡ false → IsErrAnd r (λ e. e ≡ TroubleOff) → Shadows k j t p old r new
Shadows-lost k j t p old mid new (Ok done) same lost off is = absurd is
Shadows-lost k j t p old mid new (Err TroubleOff) same lost off is = (SameDurable-more (k + 0) (j + 0) k j old new (omega arith) (omega arith) (SameDurable-trans k j 0 0 old mid new (SameDurable-same k j old mid same) (SameDurable-words 0 0 mid new lost)), off)
Shadows-lost k j t p old mid new (Err Bad) same lost off is = absurd (let no : Bad ≡ TroubleOff = is in cc)

-- a store ended before it changed a word
pub Wrote-ended : (A : Type 0) (k j : ℕ) (old new : Chart) (a w : ℕ) (r : Result Unit Trouble) (fault : Trouble) → Same k j old new → new.on ≡ power_after {A = A} (Err fault) → IsErrAnd r (λ e. e ≡ fault) → Wrote k j old a w r new
Wrote-ended A k j old new a w (Ok done) fault same power is = absurd is
Wrote-ended A k j old new a w (Err TroubleOff) fault same power is = Interrupted-same k j old new a w (power ∙ sym (ap (λ (e : Trouble). power_after {A = A} (Err e)) is)) same
Wrote-ended A k j old new a w (Err Bad) fault same power is = (same, power ∙ sym (ap (λ (e : Trouble). power_after {A = A} (Err e)) is))

pub Shaded-ended : (A : Type 0) (k j : ℕ) (old new : Chart) (a w : ℕ) (r : Result Unit Trouble) (fault : Trouble) → Same k j old new → new.on ≡ power_after {A = A} (Err fault) → IsErrAnd r (λ e. e ≡ fault) → Shaded k j old a w r new
Shaded-ended A k j old new a w (Ok done) fault same power is = absurd is
Shaded-ended A k j old new a w (Err TroubleOff) fault same power is = Dropped-same k j old new (power ∙ sym (ap (λ (e : Trouble). power_after {A = A} (Err e)) is)) same
Shaded-ended A k j old new a w (Err Bad) fault same power is = (same, power ∙ sym (ap (λ (e : Trouble). power_after {A = A} (Err e)) is))

-- a row was programmed, and then its page was given to a slot
pub parts-shaded : (x y z : Parts) → y ≡ record x { flushes = up x.flushes } → z ≡ record y { space = z.space } → z ≡ record x { space = z.space; flushes = up x.flushes }
parts-shaded x y z first second = second ∙ ap (λ (v : Parts). record v { space = z.space }) first

-- a frame was filled, and then its page came in
pub parts-filled : (x y z : Parts) → y ≡ record x { frames = y.frames } → z ≡ record y { cache = z.cache } → z ≡ record x { frames = z.frames; cache = z.cache }
parts-filled x y z first second =
    second
    ∙ ap (λ (v : Parts). record v { cache = z.cache }) first
    ∙ ap (λ (o : Order). record x { frames = o; cache = z.cache }) (sym (ap (λ (v : Parts). v.frames) second))

-- the row of a shadow has a code
pub row-code : (sh : Shape) (q : ℕ) → IsShape sh → q < sh.segments * sh.rows → q < 16777216
row-code sh q shape range = let few = shape.few in omega arith
