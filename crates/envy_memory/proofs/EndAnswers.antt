-- When a commit, an abort or a begin gives which answer, and what it leaves.
use Rattle.std.proofs.Common.{Bool, ◌≡◌, ◌≢◌, ◌⊎◌, inl, inr, false, true, ℕ, ◌<◌, List, get_or, set, Option, Some, None, Ok, Err, refl, sym, ◌∙◌, ap}
use Rattle.std.specs.Prelude.{IsTrue, Result, ◌↔◌}
use Rattle.std.proofs.lemmas.Bool.{cases_eq}
use Rattle.std.proofs.lemmas.List.{get_or-set_same, get_or-set_other}
use Rattle.envy_base.specs.Shape.{version_of}
use Rattle.envy_base.specs.declared.fields.Slot.{Slot}
use Rattle.envy_base.specs.declared.fields.Slot.TheVariants.{Active, Committed, Vacant}
use Rattle.envy_base.specs.declared.shape.Shape.{Shape}
use Rattle.envy_map.specs.Fields.{Chart, slot}
use Rattle.envy_soundness.specs.Same.{SameDurable, SameWords, Commits, Counted, Wears}
use Rattle.envy_soundness.specs.Sound.{IsSound, Sound, Slots}
use Rattle.envy_meaning.specs.Transactions.{Closes}
use Rattle.envy_soundness.proofs.Composition.{Counted-refl, Wears-refl}
use Rattle.envy_table.specs.Hits.{Rests}
use Rattle.envy_txn.specs.Owners.{Ownership}
use Rattle.envy_engine.specs.Agreement.{Steady}
use Rattle.envy_engine.specs.Ending.{EndsSlot, TakesSlot}
use Rattle.envy_engine.specs.Putting.{KeepsOwners}
use Rattle.envy_engine.specs.declared.parts.Parts.{Parts}
use Rattle.envy_memory.specs.Below.{AbortsBelow, CommitsBelow, IsShut}
use Rattle.envy_memory.specs.Calls.{Works, IsCut, Undisturbed}
use Rattle.envy_memory.specs.Picture.{Picture, IsMemory}
use Rattle.envy_memory.specs.declared.faults.EndFault.{EndFault}
use Rattle.envy_memory.specs.declared.faults.EndFault.TheVariants.{Off, Closed}

abbrev pub Answer : Type 0
Answer = Result Unit EndFault

pub unlit : (on : Bool) → on ≡ false → IsTrue on → ⊥
unlit on off lit = let no : false ≡ true = sym off ∙ lit in cc

pub off-open : ◌≢◌ {A = Answer} (Err Off) (Err Closed)
off-open e = let no : Err Off ≡ Err Closed = e in cc

pub shut-lit : ◌≢◌ {A = Answer} (Err Closed) (Err Off)
shut-lit e = let no : Err Closed ≡ Err Off = e in cc

pub done-open : ◌≢◌ {A = Answer} (Ok tt) (Err Closed)
done-open e = let no : Ok tt ≡ Err Closed = e in cc

pub done-lit : ◌≢◌ {A = Answer} (Ok tt) (Err Off)
done-lit e = let no : Ok tt ≡ Err Off = e in cc

-- power
pub dark-off : (on : Bool) → on ≡ false → (◌≡◌ {A = Answer} (Err Off) (Err Off)) ↔ (on ≡ false)
dark-off on off = ((λ e. off), (λ x. refl))

pub lit-off : (r : Answer) (on : Bool) → r ≢ Err Off → IsTrue on → (r ≡ Err Off) ↔ (on ≡ false)
lit-off r on other lit = ((λ e. absurd (other e)), (λ x. absurd (unlit on x lit)))

-- whether the slot is open
pub dark-closed : (t : ℕ) (p : Picture) → p.chart.on ≡ false → (◌≡◌ {A = Answer} (Err Off) (Err Closed)) ↔ IsShut t p
dark-closed t p off = ((λ e. absurd (off-open e)), (λ x. absurd (unlit p.chart.on off x.0)))

pub shut-closed : (t : ℕ) (p : Picture) → IsShut t p → (◌≡◌ {A = Answer} (Err Closed) (Err Closed)) ↔ IsShut t p
shut-closed t p is = ((λ e. is), (λ x. refl))

pub open-closed : (t : ℕ) (p : Picture) (r : Answer) → r ≢ Err Closed → slot p.chart.fields t ≡ Some Active → (r ≡ Err Closed) ↔ IsShut t p
open-closed t p r other active = ((λ e. absurd (other e)), (λ x. absurd (x.1 active)))

pub still-cut : (c : Chart) → IsCut c c
still-cut c on off low = absurd (unlit c.on off on)

pub dark-complete : (c : Chart) (A : Type 0) → c.on ≡ false → Undisturbed c c → A
dark-complete c A off calm = absurd (unlit c.on off (Undisturbed.on calm))

-- what an end leaves, at each exit
pub record Headed (c new : Chart) : Type 0 where
  pub shape : new.shape ≡ c.shape
  pub magic : new.fields.magic ≡ c.fields.magic
  pub version : new.fields.version ≡ c.fields.version
  pub sound : IsSound new
  pub counted : Counted 0 0 c new
  pub worn : Wears c new

pub headed-same : (c new : Chart) → SameDurable 0 0 c new → Headed c new
headed-same c new s = record { shape = s.shape; magic = s.magic; version = s.version; sound = s.sound; counted = s.counted; worn = s.worn }

pub headed-done : (t : ℕ) (c new : Chart) → Commits 0 0 t c new → Headed c new
headed-done t c new s = record { shape = s.shape; magic = s.magic; version = s.version; sound = s.sound; counted = s.counted; worn = s.worn }

pub headed-words : (c new : Chart) → SameWords 0 0 c new → Headed c new
headed-words c new s = record { shape = s.shape; magic = s.magic; version = s.version; sound = s.sound; counted = s.counted; worn = s.worn }

pub headed-commit : (t : ℕ) (c new : Chart) → SameDurable 0 0 c new ⊎ Commits 0 0 t c new → Headed c new
headed-commit t c new (inl same) = headed-same c new same
headed-commit t c new (inr done) = headed-done t c new done

pub works-headed : (c new : Chart) → IsTrue c.on → Headed c new → Works 0 0 c new
works-headed c new on h = record { shape = h.shape; counted = h.counted; worn = h.worn; idle = λ off. absurd (unlit c.on off on) }

pub works-still : (c : Chart) → Works 0 0 c c
works-still c = record { shape = refl; counted = Counted-refl c; worn = Wears-refl c; idle = λ off. refl }

pub IsMemory-headed : (limit mark : ℕ) (c new : Chart) (x y : Parts) (o now : Ownership) → IsMemory c x o limit mark → Headed c new → Steady new y → KeepsOwners new o now
    → (IsTrue new.on → (u : ℕ) → slot new.fields u ≢ Some Committed) → IsMemory new y now limit mark
IsMemory-headed limit mark c new x y o now m h steady owners settled = record {
  magic = h.magic ∙ m.magic;
  version = h.version ∙ m.version ∙ ap version_of (sym h.shape);
  sound = h.sound;
  fits = steady.fits;
  shadows = owners.limit ∙ m.shadows ∙ ap (λ (sh : Shape). sh.shadows) (sym h.shape);
  some = m.some;
  some_limit = m.some_limit;
  agrees = steady.agrees;
  owned = owners.agree;
  settled = settled;
}

-- no slot waits for the end of a commit, where one was closed
pub settled-set : (t u : ℕ) (v : Slot) (c new : Chart) → IsSound c → t < 64 → Some v ≢ Some Committed → new.fields.slots ≡ set c.fields.slots t (Some v) → slot c.fields u ≢ Some Committed → slot new.fields u ≢ Some Committed
settled-set t u v c new sound low other slots before after = at (cases_eq u t)
  where
    waits : get_or (set c.fields.slots t (Some v)) u None ≡ Some Committed
    waits = ap (λ (xs : List (Option Slot)). get_or xs u None) (sym slots) ∙ after

    at : (u ≡ t) ⊎ (u ≡ t → ⊥) → ⊥
    at (inl same) =
        let here = get_or-set_same c.fields.slots t (Some v) None (rw (Slots.long (Sound.slots sound)) low) in
        other (sym here ∙ ap (λ (i : ℕ). get_or (set c.fields.slots t (Some v)) i None) (sym same) ∙ waits)
    at (inr apart) = before (sym (get_or-set_other c.fields.slots t u (Some v) None apart) ∙ waits)

pub settled-closed : (t u : ℕ) (c new : Chart) → IsSound c → t < 64 → Closes t c new → slot c.fields u ≢ Some Committed → slot new.fields u ≢ Some Committed
settled-closed t u c new sound low closes = settled-set t u Vacant c new sound low (λ e. let no : Some Vacant ≡ Some Committed = e in cc) closes.slots

pub aborts-refused : (t : ℕ) (f : EndFault) (p : Picture) → AbortsBelow t (Err f) p p
aborts-refused t f p = record {
  unpowered = λ off. refl;
  works = works-still p.chart;
  rows = tt;
  rests = record { size = refl; pages = λ i. refl; hits = refl; misses = refl };
  held = tt;
  owned = tt;
  kept = refl;
  refused = λ e. refl;
}

pub commits-refused : (t : ℕ) (f : EndFault) (p : Picture) → CommitsBelow t (Err f) p p
commits-refused t f p = record { unpowered = λ off. refl; works = works-still p.chart; rows = tt; owned = tt; kept = refl; refused = λ e. refl }

pub aborts-ended : {sram : List ℕ} (t : ℕ) (p : Picture) (new : Chart) (y : Parts) (o : Ownership) → IsTrue p.chart.on → Headed p.chart new → Rests p.parts.cache y.cache
    → y ≡ record p.parts { frames = y.frames; space = y.space; cache = y.cache } → AbortsBelow t (Err Off) p (record p { sram = sram; chart = new; parts = y; owned = o })
aborts-ended {sram} t p new y o on h rests parts = record {
  unpowered = λ off. absurd (unlit p.chart.on off on);
  works = works-headed p.chart new on h;
  rows = tt;
  rests = rests;
  held = tt;
  owned = tt;
  kept = ap (λ (z : Parts). record p { sram = sram; chart = new; parts = z; owned = o }) parts;
  refused = λ e. absurd (off-open e);
}

pub aborts-done : {sram : List ℕ} (t : ℕ) (p : Picture) (new : Chart) (y : Parts) (o : Ownership) → IsTrue p.chart.on → Headed p.chart new → Rests p.parts.cache y.cache
    → y ≡ record p.parts { frames = y.frames; space = y.space; cache = y.cache } → TakesSlot t p.chart p.parts p.owned new y o
    → AbortsBelow t (Ok tt) p (record p { sram = sram; chart = new; parts = y; owned = o })
aborts-done {sram} t p new y o on h rests parts takes = record {
  unpowered = λ off. absurd (unlit p.chart.on off on);
  works = works-headed p.chart new on h;
  rows = takes.ends.rows;
  rests = rests;
  held = takes.held;
  owned = takes.ends.pairs;
  kept = ap (λ (z : Parts). record p { sram = sram; chart = new; parts = z; owned = o }) parts;
  refused = λ e. absurd (done-open e);
}

pub commits-ended : {sram : List ℕ} (t : ℕ) (p : Picture) (new : Chart) (y : Parts) (o : Ownership) → IsTrue p.chart.on → Headed p.chart new → y ≡ record p.parts { space = y.space }
    → CommitsBelow t (Err Off) p (record p { sram = sram; chart = new; parts = y; owned = o })
commits-ended {sram} t p new y o on h parts = record {
  unpowered = λ off. absurd (unlit p.chart.on off on);
  works = works-headed p.chart new on h;
  rows = tt;
  owned = tt;
  kept = ap (λ (z : Parts). record p { sram = sram; chart = new; parts = z; owned = o }) parts;
  refused = λ e. absurd (off-open e);
}

pub commits-done : {sram : List ℕ} (t : ℕ) (p : Picture) (new : Chart) (y : Parts) (o : Ownership) → IsTrue p.chart.on → Headed p.chart new → y ≡ record p.parts { space = y.space }
    → EndsSlot t p.chart p.owned new o → CommitsBelow t (Ok tt) p (record p { sram = sram; chart = new; parts = y; owned = o })
commits-done {sram} t p new y o on h parts ends = record {
  unpowered = λ off. absurd (unlit p.chart.on off on);
  works = works-headed p.chart new on h;
  rows = ends.rows;
  owned = ends.pairs;
  kept = ap (λ (z : Parts). record p { sram = sram; chart = new; parts = z; owned = o }) parts;
  refused = λ e. absurd (done-open e);
}
