-- The parts agree with the board again after a transaction has ended.
use Rattle.std.proofs.Common.{◌≡◌, ◌≢◌, ◌⊎◌, inl, inr, ℕ, ◌<◌, List, get_or, set, Option, None, Some, refl, sym, ◌∙◌, ap, subst}
use Rattle.std.specs.Prelude.{IsTrue, if◌then◌else◌}
use Rattle.std.proofs.lemmas.List.{get_or-set_same, get_or-set_other, set-set, set-get_or}
use Rattle.envy_base.specs.Shape.{version_of}
use Rattle.envy_base.specs.declared.fields.Place.{Place}
use Rattle.envy_base.specs.declared.fields.Slot.{Slot}
use Rattle.envy_base.specs.declared.fields.Slot.TheVariants.{Active, Committed, Vacant}
use Rattle.envy_base.specs.declared.fields.Undo.{Undo}
use Rattle.envy_base.specs.declared.fields.Undo.TheVariants.{Clear, Blank, Shadow}
use Rattle.envy_base.specs.declared.shape.Shape.{Shape}
use Rattle.envy_map.specs.Fields.{Fields, Chart, with_fields, place, undo, slot}
use Rattle.envy_map.specs.Writes.{with_slot}
use Rattle.envy_frames.specs.Agreement.{AreHeld}
use Rattle.envy_soundness.specs.May.{IsUnused}
use Rattle.envy_soundness.specs.Naming.{AreParted}
use Rattle.envy_soundness.specs.Sound.{Sound, IsSound, Slots, Names, slot_named, is_active}
use Rattle.envy_meaning.specs.Transactions.{Closes}
use Rattle.envy_soundness.specs.Words.{kept_by}
use Rattle.envy_soundness.proofs.KeptCounts.{kept_in-slot}
use Rattle.envy_soundness.proofs.SlotLaw.{kept_by-other, names-slot}
use Rattle.envy_space.specs.Pool.{Pool, PoolAgrees, IsPoolOf}
use Rattle.envy_table.specs.Agreement.{AreCurrent}
use Rattle.envy_txn.specs.Ending.{Releases, Restores}
use Rattle.envy_txn.specs.Owners.{Ownership, owner_in, AreOwned}
use Rattle.envy_txn.specs.declared.pair.Pair.{Pair}
use Rattle.envy_engine.specs.Agreement.{Agrees, PartsAgree, Ready, Fits}
use Rattle.envy_engine.specs.Ending.{IsReleasing}
use Rattle.envy_engine.specs.Storing.{Rows}
use Rattle.envy_engine.specs.declared.parts.Parts.{Parts}
use Rattle.envy_engine.proofs.JobLemmas.{IsPlanOf-fewer}

-- a vacant slot is named by no undo
pub unused-vacant : (c : Chart) (t : ℕ) → IsSound c → slot c.fields t ≡ Some Vacant → IsUnused c.fields t
unused-vacant c t sound vacant p named = Slots.in_use (Sound.slots sound) p t named vacant

-- a slot that no undo names may change: kept rows, owners, and the pages' two references stay
IsPoolOf-slot : (sh : Shape) (ss : List (Option Slot)) (us : List (Option Undo)) (ps : List (Option Place)) (fills positions : List ℕ) (pool : Pool) (t : ℕ) (s : Option Slot) → ((p : ℕ) → slot_named (get_or us p None) ≢ Some t) → IsPoolOf sh ss us ps fills positions pool → IsPoolOf sh (set ss t s) us ps fills positions pool
IsPoolOf-slot sh ss us ps fills positions pool t s unused p = record { shape = p.shape; fills = p.fills; positions = p.positions; long = p.long; kept = λ seg lt. p.kept seg lt ∙ sym (kept_in-slot sh ss us ps t seg s unused) }

AreParted-slot : (ss : List (Option Slot)) (us : List (Option Undo)) (ps : List (Option Place)) (t : ℕ) (s : Option Slot) → ((p : ℕ) → slot_named (get_or us p None) ≢ Some t) → AreParted ss us ps → AreParted (set ss t s) us ps
AreParted-slot ss us ps t s unused parted p u q shadow active at = parted p u q shadow (sym (get_or-set_other ss t u s None (λ same. unused p (ap slot_named shadow ∙ ap (λ (n : ℕ). Some n) same))) ∙ active) at

owner_in-slot : (ss : List (Option Slot)) (u : Option Undo) (t : ℕ) (s : Option Slot) → slot_named u ≢ Some t → owner_in (set ss t s) u ≡ owner_in ss u
owner_in-slot ss None t s free = refl
owner_in-slot ss (Some Clear) t s free = refl
owner_in-slot ss (Some (Blank r)) t s free = ap (λ (x : Option Slot). if is_active x then Some r else None) (get_or-set_other ss t r s None (λ e. free (ap (λ (n : ℕ). Some n) e)))
owner_in-slot ss (Some (Shadow r q)) t s free = ap (λ (x : Option Slot). if is_active x then Some r else None) (get_or-set_other ss t r s None (λ e. free (ap (λ (n : ℕ). Some n) e)))

pub AreOwned-slot : (ss : List (Option Slot)) (us : List (Option Undo)) (pairs : List Pair) (t : ℕ) (s : Option Slot) → ((p : ℕ) → slot_named (get_or us p None) ≢ Some t) → AreOwned ss us pairs → AreOwned (set ss t s) us pairs
AreOwned-slot ss us pairs t s unused owned p = owned p ∙ sym (owner_in-slot ss (get_or us p None) t s (unused p))

pub Agrees-slot : (sh : Shape) (f : Fields) (flash : List (List ℕ)) (x : Parts) (t : ℕ) (s : Option Slot) → IsUnused f t → Agrees sh f flash x → Agrees sh (with_slot t s f) flash x
Agrees-slot sh f flash x t s unused a = record {
  pool = IsPoolOf-slot sh f.slots f.undos f.places f.fills f.positions x.space t s unused a.pool;
  held = a.held;
  current = a.current;
  job = IsPlanOf-fewer sh f flash x.reloc (set f.slots t s) f.places f.undos before a.job;
  two = AreParted-slot f.slots f.undos f.places t s unused a.two;
}
  where
    before : (p q : ℕ) → Names (with_slot t s f) p q → Names f p q
    before p q (inl here) = inl here
    before p q (inr back) = inr (sym (kept_by-other f.slots t s (undo f p) (place f p) (unused p)) ∙ back)

-- the fields once a slot was left by its pages and became vacant
abbrev left : ℕ → List (Option Place) → List (Option Undo) → Fields → Fields
left t ps us f = record f { slots = set f.slots t (Some Vacant); places = ps; undos = us }

-- a reference then is one of before, where the slot was active
names-released : (c e : Chart) (t r q : ℕ) → Releases t c e → Names (left t c.fields.places e.fields.undos c.fields) r q → Names (with_slot t (Some Active) c.fields) r q
names-released c e t r q rel (inl here) = inl here
names-released c e t r q rel (inr is) = at (names-slot (undo c.fields r) t)
  where
    at : (slot_named (undo c.fields r) ≡ Some t) ⊎ (slot_named (undo c.fields r) ≢ Some t) → Names (with_slot t (Some Active) c.fields) r q
    at (inl named) = inl (sym (ap (λ (u : Option Undo). kept_by (set c.fields.slots t (Some Vacant)) u (place c.fields r)) (rel.own r named)) ∙ is)
    at (inr free) = inr (
        kept_by-other c.fields.slots t (Some Active) (undo c.fields r) (place c.fields r) free
        ∙ sym (kept_by-other c.fields.slots t (Some Vacant) (undo c.fields r) (place c.fields r) free)
        ∙ sym (ap (λ (u : Option Undo). kept_by (set c.fields.slots t (Some Vacant)) u (place c.fields r)) (rel.others r free)) ∙ is)

names-restored : (c e : Chart) (t r q : ℕ) → Restores t c e → Names (left t e.fields.places e.fields.undos c.fields) r q → Names c.fields r q
names-restored c e t r q res names = at (names-slot (undo c.fields r) t) names
  where
    at : (slot_named (undo c.fields r) ≡ Some t) ⊎ (slot_named (undo c.fields r) ≢ Some t) → Names (left t e.fields.places e.fields.undos c.fields) r q → Names c.fields r q
    at (inl named) (inl here) = inr (sym (res.own r named).0 ∙ here)
    at (inl named) (inr is) = inr (sym (res.own r named).0 ∙ sym (ap (λ (u : Option Undo). kept_by (set c.fields.slots t (Some Vacant)) u (place e.fields r)) (res.own r named).1) ∙ is)
    at (inr free) (inl here) = inl (sym (res.others r free).0 ∙ here)
    at (inr free) (inr is) = inr (
        sym (kept_by-other c.fields.slots t (Some Vacant) (undo c.fields r) (place c.fields r) free)
        ∙ sym (ap (λ (x : Option Place). kept_by (set c.fields.slots t (Some Vacant)) (undo c.fields r) x) (res.others r free).0)
        ∙ sym (ap (λ (u : Option Undo). kept_by (set c.fields.slots t (Some Vacant)) u (place e.fields r)) (res.others r free).1) ∙ is)

released-is : (c e new : Chart) (t : ℕ) → Releases t c e → new ≡ with_fields e (with_slot t (Some Vacant) e.fields) → new ≡ with_fields c (left t c.fields.places e.fields.undos c.fields)
released-is c e new t rel last = last ∙ ap (λ (z : Chart). with_fields z (with_slot t (Some Vacant) z.fields)) (Releases.rest rel)

restored-is : (c e new : Chart) (t : ℕ) → Restores t c e → new ≡ with_fields e (with_slot t (Some Vacant) e.fields) → new ≡ with_fields c (left t e.fields.places e.fields.undos c.fields)
restored-is c e new t res last = last ∙ ap (λ (z : Chart). with_fields z (with_slot t (Some Vacant) z.fields)) (Restores.rest res)

pub PartsAgree-released : (c e new : Chart) (x y : Parts) (t : ℕ) → Agrees c.shape (with_slot t (Some Active) c.fields) c.flash x → Releases t c e → IsUnused e.fields t → PoolAgrees e.shape e.fields y.space → AreParted e.fields.slots e.fields.undos e.fields.places → new ≡ with_fields e (with_slot t (Some Vacant) e.fields) → y ≡ record x { space = y.space } → PartsAgree new y
PartsAgree-released c e new x y t a rel unused pool parted last is =
    subst (λ (z : Chart). PartsAgree z y) (sym (released-is c e new t rel last))
    (subst (λ (z : Parts). Agrees c.shape (left t c.fields.places e.fields.undos c.fields) c.flash z) (sym is) (record {
      pool = IsPoolOf-slot c.shape c.fields.slots e.fields.undos c.fields.places c.fields.fills c.fields.positions y.space t (Some Vacant) unused
          (subst (λ (z : Chart). IsPoolOf z.shape z.fields.slots e.fields.undos z.fields.places z.fields.fills z.fields.positions y.space) (Releases.rest rel) pool);
      held = a.held;
      current = a.current;
      job = IsPlanOf-fewer c.shape (with_slot t (Some Active) c.fields) c.flash x.reloc (set c.fields.slots t (Some Vacant)) c.fields.places e.fields.undos (λ r q names. names-released c e t r q rel names) a.job;
      two = AreParted-slot c.fields.slots e.fields.undos c.fields.places t (Some Vacant) unused (subst (λ (z : Chart). AreParted z.fields.slots e.fields.undos z.fields.places) (Releases.rest rel) parted);
    }))

pub PartsAgree-restored : (c e new : Chart) (x y : Parts) (t : ℕ) → PartsAgree c x → Restores t c e → IsUnused e.fields t → PoolAgrees e.shape e.fields y.space → AreHeld e.shape e.fields.places y.frames.held → AreCurrent e.shape.pages e.fields.places y.cache.entries → AreParted e.fields.slots e.fields.undos e.fields.places → new ≡ with_fields e (with_slot t (Some Vacant) e.fields) → y ≡ record x { frames = y.frames; space = y.space; cache = y.cache } → PartsAgree new y
PartsAgree-restored c e new x y t a res unused pool held current parted last is =
    let shape : e.shape ≡ c.shape = ap (λ (z : Chart). z.shape) (Restores.rest res) in
    let task : y.reloc ≡ x.reloc = ap (λ (z : Parts). z.reloc) is in
    subst (λ (z : Chart). PartsAgree z y) (sym (restored-is c e new t res last))
    (record {
      pool = IsPoolOf-slot c.shape c.fields.slots e.fields.undos e.fields.places c.fields.fills c.fields.positions y.space t (Some Vacant) unused
          (subst (λ (z : Chart). IsPoolOf z.shape z.fields.slots e.fields.undos e.fields.places z.fields.fills z.fields.positions y.space) (Restores.rest res) pool);
      held = rw (← shape) held;
      current = rw (← shape) current;
      job = rw task (IsPlanOf-fewer c.shape c.fields c.flash x.reloc (set c.fields.slots t (Some Vacant)) e.fields.places e.fields.undos (λ r q names. names-restored c e t r q res names) (Agrees.job a));
      two = AreParted-slot c.fields.slots e.fields.undos e.fields.places t (Some Vacant) unused (subst (λ (z : Chart). AreParted z.fields.slots e.fields.undos e.fields.places) (Restores.rest res) parted);
    })

pub Closes-released : (c e new : Chart) (t : ℕ) → Releases t c e → new ≡ with_fields e (with_slot t (Some Vacant) e.fields) → Closes t c new
Closes-released c e new t rel last = let is = released-is c e new t rel last in record {
  slots = ap (λ (z : Chart). z.fields.slots) is;
  own = λ p named. ap (λ (z : Chart). undo z.fields p) is ∙ rel.own p named;
  others = λ p free. ap (λ (z : Chart). undo z.fields p) is ∙ rel.others p free;
}

pub Closes-restored : (c e new : Chart) (t : ℕ) → Restores t c e → new ≡ with_fields e (with_slot t (Some Vacant) e.fields) → Closes t c new
Closes-restored c e new t res last = let is = restored-is c e new t res last in record {
  slots = ap (λ (z : Chart). z.fields.slots) is;
  own = λ p named. ap (λ (z : Chart). undo z.fields p) is ∙ (res.own p named).1;
  others = λ p free. ap (λ (z : Chart). undo z.fields p) is ∙ (res.others p free).1;
}

pub Rows-released : (c e new : Chart) (t : ℕ) → Releases t c e → new ≡ with_fields e (with_slot t (Some Vacant) e.fields) → Rows c new
Rows-released c e new t rel last = let is = released-is c e new t rel last in record { job = ap (λ (z : Chart). z.fields.job) is; fills = ap (λ (z : Chart). z.fields.fills) is; positions = ap (λ (z : Chart). z.fields.positions) is; wears = ap (λ (z : Chart). z.fields.wears) is; erases = ap (λ (z : Chart). z.erases) is }

pub Rows-restored : (c e new : Chart) (t : ℕ) → Restores t c e → new ≡ with_fields e (with_slot t (Some Vacant) e.fields) → Rows c new
Rows-restored c e new t res last = let is = restored-is c e new t res last in record { job = ap (λ (z : Chart). z.fields.job) is; fills = ap (λ (z : Chart). z.fields.fills) is; positions = ap (λ (z : Chart). z.fields.positions) is; wears = ap (λ (z : Chart). z.fields.wears) is; erases = ap (λ (z : Chart). z.erases) is }

-- the slots of before, where an active slot has committed and counts as active
alike : (ss : List (Option Slot)) (t : ℕ) → get_or ss t None ≡ Some Active → set (set ss t (Some Committed)) t (Some Active) ≡ ss
alike ss t active = set-set ss t (Some Committed) (Some Active) ∙ ap (λ (s : Option Slot). set ss t s) (sym active) ∙ set-get_or ss t None

pub IsReleasing-start : (c d : Chart) (x : Parts) (o : Ownership) (t : ℕ) → Ready c x → AreOwned c.fields.slots c.fields.undos o.pairs → c.fields.version ≡ version_of c.shape → t < 64 → slot c.fields t ≡ Some Active → IsTrue d.on → IsSound d → d ≡ with_fields c (with_slot t (Some Committed) c.fields) → IsReleasing t d x o
IsReleasing-start c d x o t r owned version low active on sound is =
    let same = alike c.fields.slots t active in
    record {
      on = on;
      sound = sound;
      version = subst (λ (z : Chart). z.fields.version ≡ version_of z.shape) (sym is) version;
      low = low;
      committed = ap (λ (z : Chart). get_or z.fields.slots t None) is ∙ get_or-set_same c.fields.slots t (Some Committed) None (rw (Slots.long (Sound.slots (Ready.sound r))) low);
      fits = subst (λ (sh : Shape). Fits sh x) (sym (ap (λ (z : Chart). z.shape) is)) (Ready.fits r);
      agrees = subst (λ (z : Chart). Agrees z.shape (with_slot t (Some Active) z.fields) z.flash x) (sym is)
          (subst (λ (ss : List (Option Slot)). Agrees c.shape (record c.fields { slots = ss }) c.flash x) (sym same) (Ready.agrees r));
      owned = subst (λ (z : Chart). AreOwned (set z.fields.slots t (Some Active)) z.fields.undos o.pairs) (sym is)
          (subst (λ (ss : List (Option Slot)). AreOwned ss c.fields.undos o.pairs) (sym same) owned);
    }

-- a slot that has committed and is left by its pages is closed
pub Closes-committed : (c d new : Chart) (t : ℕ) → d ≡ with_fields c (with_slot t (Some Committed) c.fields) → Closes t d new → Closes t c new
Closes-committed c d new t is closes =
    let undos : (p : ℕ) → undo d.fields p ≡ undo c.fields p = (λ p. ap (λ (z : Chart). undo z.fields p) is) in
    record {
      slots = Closes.slots closes ∙ ap (λ (z : Chart). set z.fields.slots t (Some Vacant)) is ∙ set-set c.fields.slots t (Some Committed) (Some Vacant);
      own = λ p named. Closes.own closes p (ap (λ (u : Option Undo). slot_named u) (undos p) ∙ named);
      others = λ p free. Closes.others closes p (λ named. free (sym (ap (λ (u : Option Undo). slot_named u) (undos p)) ∙ named)) ∙ undos p;
    }
