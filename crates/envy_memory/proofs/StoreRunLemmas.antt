-- Runs of words that are stored: the words that go straight into a page's frame.
use Rattle.std.proofs.Common.{◌≡◌, ◌⊎◌, inl, inr, Bool, true, false, ℕ, ◌+◌, ◌*◌, ◌/◌, ◌%◌, ◌<◌, ◌≤◌, List, get_or, Option, None, Some, refl, sym, ◌∙◌, ap, subst, arith}
use Rattle.std.specs.Prelude.{IsTrue, Result, Ok, Err, ◌↔◌}
use Rattle.std.proofs.lemmas.Bool.{cases_lt}
use Rattle.envy_base.specs.declared.board.Trouble.TheVariants.{Off as TroubleOff, Bad}
use Rattle.envy_base.specs.declared.fields.Place.{Place}
use Rattle.envy_base.specs.declared.fields.Place.TheVariants.{Frame}
use Rattle.envy_base.specs.declared.shape.Shape.{Shape}
use Rattle.envy_map.specs.Fields.{Chart, undo, place}
use Rattle.envy_soundness.specs.Same.{Interrupted, Stored}
use Rattle.envy_soundness.specs.Sound.{owned_by}
use Rattle.envy_soundness.proofs.Composition.{cause}
use Rattle.envy_txn.specs.Owners.{owner_of}
use Rattle.envy_engine.specs.Storing.{StaysFramed, StoresBy, Fetches, Brings}
use Rattle.envy_memory.specs.Below.{IsOwned, IsPast}
use Rattle.envy_memory.specs.Calls.{Works}
use Rattle.envy_memory.specs.Picture.{Picture, IsMemory}
use Rattle.envy_memory.specs.StoreRuns.{StoresMore, StoresOne, StoresWord}
use Rattle.envy_memory.specs.Runs.{StandsFor}
use Rattle.envy_memory.specs.declared.faults.StoreFault.{StoreFault}
use Rattle.envy_memory.specs.declared.faults.StoreFault.TheVariants.{Off, Range, Held}
use Rattle.envy_memory.proofs.Owning.{Stores-done, Stores-ended, free-pairs}
use Rattle.envy_memory.proofs.PutAnswers.{done-cut}
use Rattle.envy_memory.proofs.PutRuns.{on-before, works-none}
use Rattle.envy_memory.proofs.TickLemmas.{never-ended}

abbrev Answer : Type 0
Answer = Result Unit StoreFault

-- no open transaction owns a page that no slot owns
pub free-of : (page frame : ℕ) (p : Picture) → IsMemory p.chart p.parts p.owned p.limit p.mark → StandsFor None page frame p → owned_by p.chart.fields.slots (undo p.chart.fields page) ≡ false
free-of page frame p memory s = free-pairs p.chart p.owned page (memory.owned s.on) s.owned

-- the word is in the frame
pub stored-more : {sram : List ℕ} (a w frame : ℕ) (p : Picture) (new : Chart) → IsMemory p.chart p.parts p.owned p.limit p.mark → StandsFor None (a / 32) frame p
    → Stored 0 0 p.chart new (32 * (a / 32) + a % 32) w → StoresMore a w (Ok tt) p (record p { chart = new; sram = sram })
stored-more {sram} a w frame p new memory s done = record {
  step = λ m stands. Stores-done 0 0 p.chart new m p.owned a w stands (memory.owned s.on) s.owned s.within done;
  ends = inl refl;
  off = ((λ e. absurd (let no : ◌≡◌ {A = Answer} (Ok tt) (Err Off) = e in cc)), (λ x. absurd (let no : false ≡ true = sym x ∙ done.on in cc)));
  cut = done-cut p.chart new done.on;
  complete = λ calm e. let no : ◌≡◌ {A = Answer} (Ok tt) (Err Off) = e in cc;
  works = works-none p.chart new s.on done.framed done.counted done.worn;
  kept = refl;
}

-- power failed
pub stored-lost : {sram : List ℕ} (a w frame : ℕ) (p : Picture) (new : Chart) → IsMemory p.chart p.parts p.owned p.limit p.mark → StandsFor None (a / 32) frame p
    → Interrupted 0 0 p.chart new (32 * (a / 32) + a % 32) w → StoresMore a w (Err Off) p (record p { chart = new; sram = sram })
stored-lost {sram} a w frame p new memory s cut = record {
  step = λ m stands. Stores-ended 0 0 p.chart new m p.owned a w TroubleOff stands (memory.owned s.on) s.owned s.within cut;
  ends = inr refl;
  off = ((λ e. cut.off), (λ x. refl));
  cut = cause 0 0 p.chart new cut.counted;
  complete = λ calm. absurd (never-ended p.chart new TroubleOff (λ is. cut.off) (λ is. absurd (let no : Err TroubleOff ≡ Err Bad = is in cc)) (cause 0 0 p.chart new cut.counted) calm);
  works = works-none p.chart new s.on cut.framed cut.counted cut.worn;
  kept = refl;
}

-- after a store that was done the page stands in a frame
pub framed-stored : (page : ℕ) (p q : Picture) → StoresBy page p.chart p.parts q.chart q.parts → (k : ℕ) × (place q.chart.fields page ≡ Some (Frame k))
framed-stored page p q (inl stays) =
    (StaysFramed.frame stays, ap (λ (ps : List (Option Place)). get_or ps page None) (StaysFramed.places stays) ∙ StaysFramed.here stays)
framed-stored page p q (inr fetched) = let b = Fetches.brings fetched in (Brings.frame b, Brings.there b)

-- the first word of a page was stored
pub first-stored : (b : Bool) (a w : ℕ) (r : Answer) (p q : Picture) → false ≡ b → StoresWord a w r p q → StoresOne b a w r p q
first-stored b a w r p q is stores = subst (λ (x : Bool). StoresOne x a w r p q) is stores

-- power is on after a store that was done
pub lit-stored : (on : Bool) → (◌≡◌ {A = Answer} (Ok tt) (Err Off)) ↔ (on ≡ false) → IsTrue on
lit-stored true off = refl
lit-stored false off = absurd (let no : ◌≡◌ {A = Answer} (Ok tt) (Err Off) = off.1 refl in cc)

within-stored : (p q : Picture) (a : ℕ) → IsTrue p.chart.on → (◌≡◌ {A = Answer} (Ok tt) (Err Range)) ↔ IsPast a p → a < 32 * p.chart.shape.pages
within-stored p q a on range = at (cases_lt a (32 * p.chart.shape.pages))
  where
    at : (a < 32 * p.chart.shape.pages) ⊎ (32 * p.chart.shape.pages ≤ a) → a < 32 * p.chart.shape.pages
    at (inl lt) = lt
    at (inr ge) = absurd (let no : ◌≡◌ {A = Answer} (Ok tt) (Err Range) = range.1 (on, ge) in cc)

unheld : (a : ℕ) (p : Picture) → IsTrue p.chart.on → a < 32 * p.chart.shape.pages → ((u : ℕ) → (◌≡◌ {A = Answer} (Ok tt) (Err (Held u))) ↔ IsOwned u a p) → owner_of p.owned.pairs (a / 32) ≡ None
unheld a p on lt held = at (owner_of p.owned.pairs (a / 32)) refl
  where
    at : (o : Option ℕ) → owner_of p.owned.pairs (a / 32) ≡ o → owner_of p.owned.pairs (a / 32) ≡ None
    at None is = is
    at (Some u) is = absurd (let no : ◌≡◌ {A = Answer} (Ok tt) (Err (Held u)) = (held u).1 (on, lt, is) in cc)

-- the page that a word was stored to stands in the frame that was looked up
pub stands-stored : (a w frame : ℕ) (p q : Picture) → StoresWord a w (Ok tt) p q → place q.chart.fields (a / 32) ≡ Some (Frame frame) → StandsFor None (a / 32) frame q
stands-stored a w frame p q stores here =
    let on = lit-stored q.chart.on stores.off in
    let below = stores.below in
    let was = on-before p q below.unpowered on in
    let lt = within-stored p q a was stores.range in
    let pages : q.chart.shape.pages ≡ p.chart.shape.pages = ap (λ (sh : Shape). sh.pages) (Works.shape below.works) in
    record {
      on = on;
      within = omega (arith, lt, pages);
      here = here;
      owned = ap (λ (x : Picture). owner_of x.owned.pairs (a / 32)) below.kept ∙ unheld a p was lt stores.held;
    }
