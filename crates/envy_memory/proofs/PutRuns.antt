-- Runs of words that are put: the words that go straight into a page's frame.
use Rattle.std.proofs.Common.{◌≡◌, ◌⊎◌, inl, inr, Bool, true, false, ℕ, ◌+◌, ◌*◌, ◌/◌, ◌%◌, ◌<◌, ◌≤◌, List, get_or, Option, None, Some, refl, sym, ◌∙◌, ap, subst, arith, [], ◌∷◌, ◌++◌}
use Rattle.std.specs.Prelude.{IsTrue, Result, Ok, Err, ◌↔◌, if◌then◌else◌}
use Rattle.std.proofs.lemmas.Bool.{cases_lt, eq-eqb}
use Rattle.envy_array.specs.Array.{Array}
use Rattle.envy_base.specs.declared.board.Trouble.TheVariants.{Off as TroubleOff, Bad}
use Rattle.envy_base.specs.declared.fields.Place.{Place}
use Rattle.envy_base.specs.declared.fields.Place.TheVariants.{Frame}
use Rattle.envy_base.specs.declared.fields.Slot.{Slot}
use Rattle.envy_base.specs.declared.fields.Slot.TheVariants.{Vacant, Active, Committed}
use Rattle.envy_base.specs.declared.fields.Undo.{Undo}
use Rattle.envy_base.specs.declared.fields.Undo.TheVariants.{Clear, Blank, Shadow}
use Rattle.envy_map.specs.Fields.{Chart, undo, place, with_fields}
use Rattle.envy_map.specs.Writes.{with_frame_word}
use Rattle.envy_soundness.specs.Same.{Framed, Shadowed, Dropped, Counted, Wears}
use Rattle.envy_soundness.specs.Sound.{Sound, Slots, is_active, owned_by, slot_named}
use Rattle.envy_meaning.specs.Stands.{Stands}
use Rattle.envy_soundness.proofs.Composition.{cause}
use Rattle.envy_meaning.proofs.Owners.{owner_in-false}
use Rattle.envy_memory.proofs.Slots.{slot-within}
use Rattle.envy_txn.specs.Owners.{Ownership, owner_of, owner_in}
use Rattle.envy_engine.specs.Storing.{StaysFramed, Fetches, Brings}
use Rattle.envy_engine.specs.Putting.{ShadesFramed, ShadesElsewhere}
use Rattle.envy_base.specs.declared.shape.Shape.{Shape}
use Rattle.envy_memory.specs.Below.{IsPast}
use Rattle.envy_memory.specs.Calls.{Works}
use Rattle.envy_memory.specs.Effects.{PutEffect}
use Rattle.envy_memory.specs.Picture.{Picture, IsMemory}
use Rattle.envy_memory.specs.PutRuns.{PutsBy, PutsMore, PutsWord}
use Rattle.envy_memory.specs.Runs.{StandsFor}
use Rattle.envy_memory.specs.declared.faults.PutFault.{PutFault}
use Rattle.envy_memory.specs.declared.faults.PutFault.TheVariants.{Off, Range}
use Rattle.envy_memory.proofs.Facts.{on-from}
use Rattle.envy_memory.proofs.PutAnswers.{Answer, done-off, done-cut, done-complete, dark}
use Rattle.envy_memory.proofs.PutLemmas.{Meets, Puts-again, Puts-again_ended}
use Rattle.envy_memory.proofs.TickLemmas.{never-ended}
use Rattle.envy_txn.proofs.OwnerLemmas.{owner_of-push}

active-at : (slots : List (Option Slot)) (s t : ℕ) (x : Option Slot) → get_or slots s None ≡ x → (if is_active x then Some s else None) ≡ Some t → (s ≡ t) × (get_or slots s None ≡ Some Active)
active-at slots s t None is e = absurd (let no : ◌≡◌ {A = Option ℕ} None (Some t) = e in cc)
active-at slots s t (Some Vacant) is e = absurd (let no : ◌≡◌ {A = Option ℕ} None (Some t) = e in cc)
active-at slots s t (Some Committed) is e = absurd (let no : ◌≡◌ {A = Option ℕ} None (Some t) = e in cc)
active-at slots s t (Some Active) is e = (let same : Some s ≡ Some t = e in cc, is)

-- the slot that owns a page is open
opened-in : (slots : List (Option Slot)) (u : Option Undo) (t : ℕ) → owner_in slots u ≡ Some t → (slot_named u ≡ Some t) × (get_or slots t None ≡ Some Active)
opened-in slots None t e = absurd (let no : ◌≡◌ {A = Option ℕ} None (Some t) = e in cc)
opened-in slots (Some Clear) t e = absurd (let no : ◌≡◌ {A = Option ℕ} None (Some t) = e in cc)
opened-in slots (Some (Blank s)) t e = let p = active-at slots s t (get_or slots s None) refl e in (ap Some p.0, subst (λ (n : ℕ). get_or slots n None ≡ Some Active) p.0 p.1)
opened-in slots (Some (Shadow s q)) t e = let p = active-at slots s t (get_or slots s None) refl e in (ap Some p.0, subst (λ (n : ℕ). get_or slots n None ≡ Some Active) p.0 p.1)

-- the undo of a page that a slot owns is that of an open transaction
owned-true : (slots : List (Option Slot)) (u : Option Undo) (t : ℕ) → owner_in slots u ≡ Some t → owned_by slots u ≡ true
owned-true slots u t own = at (owned_by slots u) refl
  where
    at : (b : Bool) → owned_by slots u ≡ b → owned_by slots u ≡ true
    at true is = is
    at false is = absurd (let no : None ≡ Some t = sym (owner_in-false slots u is) ∙ own in cc)

pub owned-of : (t page frame : ℕ) (p : Picture) → IsMemory p.chart p.parts p.owned p.limit p.mark → StandsFor (Some t) page frame p → owned_by p.chart.fields.slots (undo p.chart.fields page) ≡ true
owned-of t page frame p memory s = owned-true p.chart.fields.slots (undo p.chart.fields page) t (sym (memory.owned s.on page) ∙ s.owned)

-- what a put to a page that its slot owns meets
meets-owned : (t a frame : ℕ) (p : Picture) (m : Array) → IsMemory p.chart p.parts p.owned p.limit p.mark → StandsFor (Some t) (a / 32) frame p → Stands p.chart m → Meets t a p.chart m p.owned
meets-owned t a frame p m memory s stands =
    let owned = memory.owned s.on in
    let opened = opened-in p.chart.fields.slots (undo p.chart.fields (a / 32)) t (sym (owned (a / 32)) ∙ s.owned) in
    record {
      stands = stands;
      owned = owned;
      low = slot-within p.chart.shape p.chart.fields.version t memory.version (Slots.named (Sound.slots memory.sound) (a / 32) t opened.0);
      active = opened.1;
      page = s.within;
    }

pub works-none : (c new : Chart) → IsTrue c.on → Framed c new → Counted 0 0 c new → Wears c new → Works 0 0 c new
works-none c new on framed counted worn = record { shape = framed.shape; counted = counted; worn = worn; idle = λ off. absurd (let clash : IsTrue false = subst IsTrue off on in cc) }

-- the word is in the frame
pub more-done : {sram : List ℕ} (t a w frame : ℕ) (p : Picture) (new : Chart) → IsMemory p.chart p.parts p.owned p.limit p.mark → StandsFor (Some t) (a / 32) frame p
    → Shadowed 0 0 p.chart new (32 * (a / 32) + a % 32) w → PutsMore t a w (Ok tt) p (record p { chart = new; sram = sram })
more-done {sram} t a w frame p new memory s done = record {
  step = λ m stands. Puts-again 0 0 t p.chart new m p.owned a w (meets-owned t a frame p m memory s stands) s.owned done;
  ends = inl refl;
  off = done-off new.on done.on;
  cut = done-cut p.chart new done.on;
  complete = λ calm. done-complete.0;
  works = works-none p.chart new s.on done.framed done.counted done.worn;
  kept = refl;
}

-- power failed
pub more-lost : {sram : List ℕ} (t a w frame : ℕ) (p : Picture) (new : Chart) → IsMemory p.chart p.parts p.owned p.limit p.mark → StandsFor (Some t) (a / 32) frame p
    → Dropped 0 0 p.chart new → PutsMore t a w (Err Off) p (record p { chart = new; sram = sram })
more-lost {sram} t a w frame p new memory s lost = record {
  step = λ m stands. Puts-again_ended 0 0 t p.chart new m p.owned a w TroubleOff (meets-owned t a frame p m memory s stands) s.owned lost;
  ends = inr refl;
  off = ((λ e. lost.off), (λ x. refl));
  cut = cause 0 0 p.chart new lost.counted;
  complete = λ calm. absurd (never-ended p.chart new TroubleOff (λ is. lost.off) (λ is. absurd (let no : Err TroubleOff ≡ Err Bad = is in cc)) (cause 0 0 p.chart new lost.counted) calm);
  works = works-none p.chart new s.on lost.framed lost.counted lost.worn;
  kept = refl;
}

-- the page stands there still, and its owner stays
pub stands-more : {sram : List ℕ} (o : Option ℕ) (page frame k i w : ℕ) (p : Picture) (new : Chart) → StandsFor o page frame p → new ≡ with_fields p.chart (with_frame_word k i w p.chart.fields)
    → StandsFor o page frame (record p { chart = new; sram = sram })
stands-more {sram} o page frame k i w p new s is = record {
  on = ap (λ (c : Chart). c.on) is ∙ s.on;
  within = subst (λ (c : Chart). page < c.shape.pages) (sym is) s.within;
  here = ap (λ (c : Chart). place c.fields page) is ∙ s.here;
  owned = s.owned;
}

-- the newest pair is the page's
pushed : (t page : ℕ) (p q : Picture) → owner_of p.owned.pairs page ≡ None → q.owned ≡ record p.owned { pairs = p.owned.pairs ++ (record { page = page; slot = t }) ∷ [] } → owner_of q.owned.pairs page ≡ Some t
pushed t page p q none gives =
    ap (λ (o : Ownership). owner_of o.pairs page) gives ∙ owner_of-push p.owned.pairs (record { page = page; slot = t }) page none ∙ rw (eq-eqb page page refl) refl

-- after a put that was done the page stands in a frame, and the slot owns it
pub framed-by : (t page : ℕ) (p q : Picture) → PutEffect t page p q → ((k : ℕ) × (place q.chart.fields page ≡ Some (Frame k))) × (owner_of q.owned.pairs page ≡ Some t)
framed-by t page p q (inl (own, inl stays, same)) =
    ((StaysFramed.frame stays, ap (λ (ps : List (Option Place)). get_or ps page None) (StaysFramed.places stays) ∙ StaysFramed.here stays), ap (λ (o : Ownership). owner_of o.pairs page) same ∙ own)
framed-by t page p q (inl (own, inr fetched, same)) =
    let b = Fetches.brings fetched in
    ((Brings.frame b, Brings.there b), ap (λ (o : Ownership). owner_of o.pairs page) same ∙ own)
framed-by t page p q (inr (none, inl shades, gives)) =
    ((ShadesFramed.frame shades, ShadesFramed.there shades), pushed t page p q none gives)
framed-by t page p q (inr (none, inr shades, gives)) =
    let b = Fetches.brings (ShadesElsewhere.fetches shades) in
    ((Brings.frame b, Brings.there b), pushed t page p q none gives)

-- the first word of a page was put
pub first-by : (b : Bool) (t a w : ℕ) (r : Result Unit PutFault) (p q : Picture) → false ≡ b → PutsWord t a w r p q → PutsBy b t a w r p q
first-by b t a w r p q is puts = subst (λ (x : Bool). PutsBy x t a w r p q) is puts

-- power is on after a put that was done
pub lit-done : (on : Bool) → (◌≡◌ {A = Answer} (Ok tt) (Err Off)) ↔ (on ≡ false) → IsTrue on
lit-done true off = refl
lit-done false off = absurd (let no : ◌≡◌ {A = Answer} (Ok tt) (Err Off) = off.1 refl in cc)

pub on-before : (p q : Picture) → (p.chart.on ≡ false → q ≡ p) → IsTrue q.chart.on → IsTrue p.chart.on
on-before p q idle on = on-from p.chart.on (λ off. dark q (ap (λ (x : Picture). x.chart.on) (idle off) ∙ off) on)

within-done : (p q : Picture) (a : ℕ) → IsTrue p.chart.on → (◌≡◌ {A = Answer} (Ok tt) (Err Range)) ↔ IsPast a p → q.chart.shape ≡ p.chart.shape → a / 32 < q.chart.shape.pages
within-done p q a on range same = at (cases_lt a (32 * p.chart.shape.pages))
  where
    pages : q.chart.shape.pages ≡ p.chart.shape.pages
    pages = ap (λ (sh : Shape). sh.pages) same

    at : (a < 32 * p.chart.shape.pages) ⊎ (32 * p.chart.shape.pages ≤ a) → a / 32 < q.chart.shape.pages
    at (inl lt) = omega (arith, pages)
    at (inr ge) = absurd (let no : ◌≡◌ {A = Answer} (Ok tt) (Err Range) = range.1 (on, ge) in cc)

-- the page that a word was put to stands in the frame that was looked up
pub stands-done : (t a w frame : ℕ) (p q : Picture) → PutsWord t a w (Ok tt) p q → place q.chart.fields (a / 32) ≡ Some (Frame frame) → StandsFor (Some t) (a / 32) frame q
stands-done t a w frame p q puts here =
    let on = lit-done q.chart.on puts.off in
    let below = puts.below in
    record {
      on = on;
      within = within-done p q a (on-before p q below.unpowered on) puts.range (Works.shape below.works);
      here = here;
      owned = (framed-by t (a / 32) p q below.does).1;
    }
