-- The first put of a slot to a page.
use Rattle.std.proofs.Common.{◌≡◌, true, false, ℕ, ◌+◌, ◌<◌, ◌≤◌, List, get_or, set, Option, None, sym, ◌∙◌, ap, subst, arith}
use Rattle.std.specs.Prelude.{IsTrue, Result, Ok, Err}
use Rattle.envy_base.specs.declared.board.Off.{Off}
use Rattle.envy_base.specs.declared.board.Trouble.{Trouble}
use Rattle.envy_base.specs.declared.board.Trouble.TheVariants.{Off as TroubleOff, Bad}
use Rattle.envy_base.specs.declared.fields.Slot.{Slot}
use Rattle.envy_map.specs.Fields.{Fields, Chart}
use Rattle.envy_map.specs.Writes.{Writes, with_frame_word}
use Rattle.envy_soundness.specs.Same.{Stays, Framed, Same, SameWords, SameDurable, Dropped}
use Rattle.envy_soundness.specs.Sound.{slots_of}
use Rattle.envy_soundness.proofs.Composition.{exits, at-each, Same-trans, Same-more, SameDurable-trans, SameDurable-more, SameDurable-same, SameDurable-words, SameDurable-dropped, Counted-trans, Counted-more, Wears-trans}
use Rattle.envy_meaning.specs.Transactions.{PutDone}
use Rattle.envy_meaning.proofs.Putting.{Owns-after}
use Rattle.envy_meaning.proofs.Owners.{owner_in-framed}
use Rattle.envy_txn.specs.Owners.{Ownership}
use Rattle.envy_engine.proofs.JobLemmas.{IsPlanOf-words}
use Rattle.envy_engine.specs.Agreement.{Steady}
use Rattle.envy_engine.specs.Putting.{MayGive, PutFirst, Shadows}
use Rattle.envy_engine.specs.declared.parts.Parts.{Parts}

pub Shadows-shape : (k j t p : ℕ) (old : Chart) (r : Result Unit Trouble) (new : Chart) → Shadows k j t p old r new → new.shape ≡ old.shape
Shadows-shape k j t p old (Ok done) new (same, owns, on) = SameWords.shape same
Shadows-shape k j t p old (Err TroubleOff) new (same, off) = SameDurable.shape same
Shadows-shape k j t p old (Err Bad) new (same, on) = Framed.shape (Stays.framed (Same.stays same))

-- the page couldn't be shadowed
pub PutFirst-shadow : (i l k j t p : ℕ) (old mid new : Chart) (a w : ℕ) (fault : Trouble) → i + 1 ≤ k → l ≤ j → Same i l old mid → Shadows 1 0 t p mid (Err fault) new → PutFirst k j t p old a w (Err fault) new
PutFirst-shadow i l k j t p old mid new a w TroubleOff le less s (same, off) = (SameDurable-more (i + 1) (l + 0) k j old new le (omega arith) (SameDurable-trans i l 1 0 old mid new (SameDurable-same i l old mid s) same), off)
PutFirst-shadow i l k j t p old mid new a w Bad le less s (same, on) = (Same-more (i + 1) (l + 0) k j old new le (omega arith) (Same-trans i l 1 0 old mid new s same), on)

-- power failed in the put of the word
pub PutFirst-dropped : (i l k j : ℕ) (old mid next new : Chart) → i + 1 ≤ k → l ≤ j → Same i l old mid → SameWords 1 0 mid next → Dropped 0 0 next new → SameDurable k j old new × (new.on ≡ false)
PutFirst-dropped i l k j old mid next new le less s w d = (
  SameDurable-more (i + 1 + 0) (l + 0 + 0) k j old new (omega arith) (omega arith)
      (SameDurable-trans (i + 1) (l + 0) 0 0 old next new (SameDurable-trans i l 1 0 old mid next (SameDurable-same i l old mid s) (SameDurable-words 1 0 mid next w)) (SameDurable-dropped 0 0 next new d)),
  Dropped.off d,
)

-- a word of a frame is nothing that the parts say
pub Steady-word : (c new : Chart) (x : Parts) (k i w : ℕ) (r : Result Unit Off) → IsTrue c.on → Steady c x → Writes (with_frame_word k i w) c r new → Steady new x
Steady-word c new x k i w r on s writes =
    at-each r (Steady new x) (exits c new (with_frame_word k i w) r (λ (z : Chart). Steady z x) (λ (z : Chart). Steady z x)
    (λ on. record { fits = s.fits; agrees = λ is. let a = s.agrees is in record { pool = a.pool; held = a.held; current = a.current; job = IsPlanOf-words c.shape c.fields c.flash x.reloc (Fields.frames (with_frame_word k i w c.fields)) a.job; two = a.two } })
    (λ off. s)
    (λ on. record { fits = s.fits; agrees = λ is. absurd (let no : false ≡ true = is in cc) })
    (λ on. record { fits = s.fits; agrees = λ is. absurd (let no : false ≡ true = is in cc) })
    writes)

-- steps in which no page changed its owner leave a slot free to come to own a page
pub MayGive-framed : (t p : ℕ) (c d : Chart) (o : Ownership) → Framed c d → MayGive t p c o → MayGive t p d o
MayGive-framed t p c d o framed m = record {
  page = rw (framed.shape) m.page;
  low = m.low;
  opened = (subst (λ (v : ℕ). t < slots_of v) (sym framed.version) m.opened.0, ap (λ (xs : List (Option Slot)). get_or xs t None) framed.slots ∙ m.opened.1);
  owned = λ q. m.owned q ∙ sym (owner_in-framed c d q framed);
  limit = rw (framed.shape) m.limit;
  room = m.room;
  free = m.free;
}

-- a first put after steps that leave the array
pub PutDone-after : (i l k j t p : ℕ) (old mid new : Chart) (a w : ℕ) → i ≤ k → l ≤ j → Same i l old mid → PutDone 0 0 t p mid new a w → PutDone k j t p old new a w
PutDone-after i l k j t p old mid new a w le less s d =
    let y = s.stays in
    record {
      on = d.on;
      owns = Owns-after t p old mid new y.framed d.owns;
      sound = d.sound;
      live = d.live ∙ ap (λ (xs : List ℕ). set xs a w) y.live;
      durable = d.durable ∙ y.durable;
      counted = Counted-more (i + 0) (l + 0) k j old new (omega arith) (omega arith) (Counted-trans i l 0 0 old mid new y.counted d.counted);
      worn = Wears-trans 0 0 old mid new (Framed.shape y.framed) d.counted s.worn d.worn;
    }
