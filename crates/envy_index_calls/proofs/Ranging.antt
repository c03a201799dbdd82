-- A memory lent for a call of a range, or of a transaction of maps.
use Rattle.std.proofs.Common.{◌≡◌, ◌≢◌, ◌⊎◌, inl, inr, ℕ, zero, suc, ◌+◌, ◌*◌, ◌<◌, ◌≤◌, Bool, true, false, List, ◌∷◌, length, map, get_or, refl, sym, ◌∙◌, ap, subst, arith}
use Rattle.std.specs.Prelude.{◌&&◌, IsTrue, Option, None, Some, Result, Ok, Err, replicate}
use Rattle.std.specs.Option.{ForSome}
use Rattle.std.proofs.Math.Logic.{∥∥₁_elim, ∥∥₁_map}
use Rattle.std.proofs.Props.{props}
use Rattle.std.proofs.lemmas.Bool.{cases_eq}
use Rattle.std.proofs.lemmas.List.{ext_get_or, length-map, length-replicate, get_or-replicate}
use Rattle.envy_array.specs.Array.{Array, Saved, IsArray, slot_of}
use Rattle.envy_base.specs.Shape.{version_of}
use Rattle.envy_base.specs.declared.fields.Slot.TheVariants.{Active, Vacant}
use Rattle.envy_base.specs.declared.page.TheConstants.{PAGE_WORDS}
use Rattle.envy_meaning.specs.Stands.{Holds, Stands, slot_word}
use Rattle.envy_soundness.specs.Words.{live, durable}
use Rattle.envy_map.specs.Fields.{Chart, slot}
use Rattle.envy_memory.specs.Calls.{fresh}
use Rattle.envy_memory.specs.Lawful.{words_long}
use Rattle.envy_memory.specs.Picture.{Picture}
use Rattle.envy_memory.specs.Sheets.{IsHeld, OnlyFirst, sheet_of, words_read}
use Rattle.envy_memory.proofs.Ended.{shut-stands}
use Rattle.envy_memory.proofs.Transacting.{words-held}
use Rattle.envy_soundness.specs.Sound.{IsSound}
use Rattle.envy_map.specs.Codes.{the_magic}
use Rattle.envy_memory.specs.Opened.{HasOpenFrom}
use Rattle.envy_index_calls.specs.Indexed.{HoldsArray, IsShut}
use Rattle.envy_index_calls.specs.Ranges.{HasFirst, IsOpen, MayHold, MayWork, Denies, IsRange, LendsFor, first_barred}
use Rattle.envy_index_calls.specs.declared.ranges.EnvyMap.{EnvyMap}
use Rattle.envy_index_calls.specs.declared.ranges.Whose.{Whose}
use Rattle.envy_index_calls.specs.declared.ranges.Whose.TheVariants.{New, Slot, Any}

-- ---- slots

-- the first slot is open, as its word says
first-open : (c : Chart) (x : Option Saved) → slot c.fields 0 ≡ Some (slot_word x) → slot c.fields 0 ≡ Some Active → (saved : Saved) × (x ≡ Some saved)
first-open c None is active = absurd (let e : Some Vacant ≡ Some Active = sym is ∙ active in cc)
first-open c (Some saved) is active = (saved, refl)

-- a slot that isn't open is none of the array's
closed : (c : Chart) (t : ℕ) (x : Option Saved) → slot c.fields t ≡ Some (slot_word x) → slot c.fields t ≢ Some Active → x ≡ None
closed c t None is shut = refl
closed c t (Some saved) is shut = absurd (shut is)

only-first : (c : Chart) (m : Array) → Stands c m → HasOpenFrom 1 c false → HasFirst c true → OnlyFirst true m.slots
only-first c m s alone first =
    let h = Stands.holds s in
    let long = IsArray.slots (Holds.array h) in
    let saved = first-open c (slot_of m 0) (Holds.slots h 0 (omega arith)) first in
    (saved.0, ext_get_or None m.slots (Some saved.0 ∷ replicate 63 None) (long ∙ sym (ap suc (length-replicate {A = Option Saved} 63 None))) (at saved.0 saved.1 long))
  where
    at : (saved : Saved) → slot_of m 0 ≡ Some saved → length m.slots ≡ 64 → (t : ℕ) → t < length m.slots → get_or m.slots t None ≡ get_or (Some saved ∷ replicate 63 None) t None
    at saved is long zero lt = is
    at saved is long (suc t) lt =
        let few : suc t < 64 = omega (arith, lt, long) in
        closed c (suc t) (slot_of m (suc t)) (Holds.slots (Stands.holds s) (suc t) few) (alone (suc t) (omega arith) few)
        ∙ sym (get_or-replicate {A = Option Saved} 63 t None None (omega (arith, few)))

none-open : (c : Chart) (m : Array) → Stands c m → HasOpenFrom 1 c false → HasFirst c false → OnlyFirst false m.slots
none-open c m s alone first =
    let h = Stands.holds s in
    let long = IsArray.slots (Holds.array h) in
    ext_get_or None m.slots (replicate 64 None) (long ∙ sym (length-replicate {A = Option Saved} 64 None)) (λ t lt. at t (omega (arith, lt, long)) (cases_eq t 0))
  where
    at : (t : ℕ) → t < 64 → (t ≡ 0) ⊎ (t ≡ 0 → ⊥) → slot_of m t ≡ get_or (replicate 64 None) t None
    at t lt (inl is) = closed c t (slot_of m t) (Holds.slots (Stands.holds s) t lt) (subst (λ (n : ℕ). slot c.fields n ≢ Some Active) (sym is) first) ∙ sym (get_or-replicate {A = Option Saved} 64 t None None lt)
    at t lt (inr other) = closed c t (slot_of m t) (Holds.slots (Stands.holds s) t lt) (alone t (omega (arith, other)) lt) ∙ sym (get_or-replicate {A = Option Saved} 64 t None None lt)

-- so it holds the transaction of maps, if that is open
pub held-as : (b : Bool) (c : Chart) (m : Array) → Stands c m → HasOpenFrom 1 c false → HasFirst c b → IsHeld c b
held-as true c m s alone first = record { array = m; stands = s; slots = only-first c m s alone first }
held-as false c m s alone first = record { array = m; stands = s; slots = none-open c m s alone first }

alone-from : (n : ℕ) (c : Chart) → n ≤ 1 → HasOpenFrom n c false → HasOpenFrom 1 c false
alone-from n c le alone = λ t ge lt. alone t (omega (arith, le, ge)) lt

few-barred : (whose : Whose) → first_barred whose ≤ 1
few-barred New = omega arith
few-barred (Slot t) = omega arith
few-barred Any = omega arith

pub alone-of : (whose : Whose) (range : Option EnvyMap) (p : Picture) → MayWork whose range p → HasOpenFrom 1 p.chart false
alone-of whose range p may = alone-from (first_barred whose) p.chart (few-barred whose) may.alone

pub held : (b : Bool) (p : Picture) → MayHold p → IsTrue p.chart.on → HasOpenFrom 1 p.chart false → HasFirst p.chart b → ∥ IsHeld p.chart b ∥₁
held b p array on alone first = ∥∥₁_map array (λ hold. let m = hold on in held-as b p.chart m.0 m.1 alone first)

-- as it is asked for
pub goes-on : (b : Bool) (p : Picture) → ∥ IsHeld p.chart b ∥₁ → ∥ (IsTrue p.chart.on → IsHeld p.chart b) ∥₁
goes-on b p hold = ∥∥₁_map hold (λ h on. h)

-- the words with no slot open
pub lent-shut : (p : Picture) → p.chart.fields.magic ≡ the_magic → p.chart.fields.version ≡ version_of p.chart.shape → IsSound p.chart → IsTrue p.chart.on → ∥ IsHeld p.chart false ∥₁ → (m : Array) × Stands p.chart m × (m.slots ≡ replicate 64 None)
lent-shut p magic version sound on hold = (fresh p.chart.shape.shadows (durable p.chart), shut-stands p.chart on magic version sound (goes-on false p hold), refl)

-- a slot isn't open, as it was read
pub alone-as : (n m : ℕ) (c d : Chart) (b : Bool) → n ≡ m → c ≡ d → b ≡ false → HasOpenFrom n c b → HasOpenFrom m d false
alone-as n m c d b few same shut alone = subst (λ (k : ℕ). HasOpenFrom k d false) few (subst (λ (x : Chart). HasOpenFrom n x false) same (subst (λ (x : Bool). HasOpenFrom n c x) shut alone))

-- what a place lends
pub lends : (whose : Whose) (range : Option EnvyMap) (old new : Option Picture) (p q : Picture) (b : Bool) → old ≡ Some p → q ≡ p → MayWork whose range p → HasFirst p.chart b → ∥ IsHeld p.chart b ∥₁ → LendsFor whose range old new (Ok (q, b))
lends whose range old new p q b is same may first hold = subst (λ (o : Option Picture). LendsFor whose range o new (Ok (q, b))) (sym is) (same, may, first, hold)

pub on-held : (b : Bool) (p : Picture) → ∥ IsHeld p.chart b ∥₁ → IsTrue p.chart.on
on-held b p held = ∥∥₁_elim held (search props) (λ h. Stands.on (IsHeld.stands h))

-- a memory with no transaction stands for its kept words
pub shut-held : (p : Picture) → IsShut p → IsHeld p.chart false
shut-held p shut = record { array = fresh p.chart.shape.shadows (durable p.chart); stands = shut; slots = refl }

-- ---- what was lent

pub record Given (old : Option Picture) (whose : Whose) (range : Option EnvyMap) (p : Picture) (b : Bool) : Type 0 where
  pub is : old ≡ Some p
  pub may : MayWork whose range p
  pub first : HasFirst p.chart b
  pub held : ∥ IsHeld p.chart b ∥₁

pub given : (whose : Whose) (range : Option EnvyMap) (old new : Option Picture) (p : Picture) (b : Bool) → LendsFor whose range old new (Ok (p, b)) → Given old whose range p b
given whose range None new p b lends = absurd lends
given whose range (Some o) new p b (same, may, first, hold) = record {
  is = ap Some (sym same);
  may = subst (MayWork whose range) (sym same) may;
  first = subst (λ (x : Picture). HasFirst x.chart b) (sym same) first;
  held = subst (λ (x : Picture). ∥ IsHeld x.chart b ∥₁) (sym same) hold;
}

pub both-ways : (b : Bool) (c : Chart) → HasFirst c b → HasFirst c true → b ≡ true
both-ways true c is first = refl
both-ways false c not first = absurd (not first)

pub neither-way : (b : Bool) (c : Chart) → HasFirst c b → HasFirst c false → b ≡ false
neither-way true c is not = absurd (not is)
neither-way false c not first = refl

-- the transaction of its slot is open
pub begun-own : (old : Option Picture) (t : ℕ) (range : Option EnvyMap) (p : Picture) (b : Bool) → Given old (Slot t) range p b → b ≡ true
begun-own old t range p b g = both-ways b p.chart g.first (g.may.own.1)

-- of a new one none is
pub shut-new : (old : Option Picture) (range : Option EnvyMap) (p : Picture) (b : Bool) → Given old New range p b → b ≡ false
shut-new old range p b g = neither-way b p.chart g.first (g.may.alone 0 (omega arith) (omega arith))

-- ---- its words

pub words-live : (b : Bool) (p : Picture) → ∥ IsHeld p.chart b ∥₁ → (sheet_of p b).words ≡ live p.chart
words-live b p held = ∥∥₁_elim held (search props) (λ h. words-held p b (Stands.on (IsHeld.stands h)) h ∙ sym (Holds.live (Stands.holds (IsHeld.stands h))))

-- as it is given back
pub record Back (q : Picture) (d : Bool) : Type 0 where
  pub opened : IsTrue (sheet_of q d).started → IsOpen q
  pub shut : IsTrue q.chart.on → (sheet_of q d).started ≡ false → IsShut q

pub and-on : (on b : Bool) → on ≡ true → b ≡ true → (on && b) ≡ true
and-on on b is so = subst (λ (x : Bool). (x && b) ≡ true) (sym is) so

and-off : (on : Bool) → (on && false) ≡ false
and-off true = refl
and-off false = refl

pub back-held : (q : Picture) (d : Bool) → Back q d → IsTrue q.chart.on → ∥ IsHeld q.chart d ∥₁
back-held q true back on = back.opened (and-on q.chart.on true on refl)
back-held q false back on = ∣ shut-held q (back.shut on (and-off q.chart.on)) ∣₁

-- ---- what a call of a transaction, or of a range, asks of them

pub shut-started : (p : Picture) (b : Bool) → b ≡ false → (sheet_of p b).started ≡ false
shut-started p b is = ap (λ (x : Bool). p.chart.on && x) is ∙ and-off p.chart.on

pub range-in : (old : Option Picture) (whose : Whose) (range : EnvyMap) (p : Picture) (b : Bool) → Given old whose (Some range) p b → IsRange range (PAGE_WORDS * p.chart.shape.pages)
range-in old whose range p b g = g.may.fits

pub range-words : (range : EnvyMap) (b : Bool) (p : Picture) → IsRange range (PAGE_WORDS * p.chart.shape.pages) → IsRange range (length (sheet_of p b).words)
range-words range b p fits = subst (IsRange range) (sym (words_long (p.chart.on && b) p.chart)) fits

room-of : {A B : Type 0} (f : A → B) (xs : List A) (left room : ℕ) → length xs + left ≡ room → length (map f xs) + left ≤ room
room-of f xs left room is = omega (arith, is, length-map xs f)

pub room-held : (p : Picture) (b : Bool) (left : ℕ) → length p.owned.pairs + left ≡ p.chart.shape.shadows → length (sheet_of p b).pages + left ≤ (sheet_of p b).room
room-held p b left is = room-of _ p.owned.pairs left p.chart.shape.shadows is

on-of : (on b : Bool) → (on && b) ≡ true → on ≡ true
on-of true b is = refl
on-of false b is = absurd (let clash : false ≡ true = is in cc)

-- a memory whose transaction is open, as it is given back
pub opens : (q p : Picture) (b : Bool) → q ≡ p → (p.chart.on && b) ≡ true → ∥ (IsTrue q.chart.on → IsHeld q.chart true) ∥₁ → IsOpen q
opens q p b is begun hold = ∥∥₁_map hold (λ h. h (ap (λ (x : Picture). x.chart.on) is ∙ on-of p.chart.on b begun))
