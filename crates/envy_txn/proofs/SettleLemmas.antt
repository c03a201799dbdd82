-- A restart: pages one after another, and then slots.
use Rattle.std.proofs.Common.{◌≡◌, ◌≢◌, ◌⊎◌, inl, inr, ℕ, ◌+◌, ◌<◌, ◌≤◌, List, length, get_or, Option, None, Some, refl, sym, ◌∙◌, ap, subst, arith}
use Rattle.std.proofs.lemmas.Bool.{cases_eq, cases_lt}
use Rattle.std.proofs.lemmas.List.{get_or-set_same, get_or-set_other, get_or_past}
use Rattle.envy_base.specs.declared.fields.Place.{Place}
use Rattle.envy_base.specs.declared.fields.Place.TheVariants.{Absent, Row}
use Rattle.envy_base.specs.declared.fields.Slot.{Slot}
use Rattle.envy_base.specs.declared.fields.Slot.TheVariants.{Vacant, Active, Committed}
use Rattle.envy_base.specs.declared.fields.Undo.{Undo}
use Rattle.envy_base.specs.declared.fields.Undo.TheVariants.{Clear, Blank, Shadow}
use Rattle.envy_map.specs.Fields.{Fields, Chart, with_fields, place, undo, slot}
use Rattle.envy_map.specs.Writes.{with_undo}
use Rattle.envy_soundness.specs.May.{named_by}
use Rattle.envy_soundness.proofs.KeptLemmas.{kept_by-active}
use Rattle.envy_soundness.specs.Same.{SameWords}
use Rattle.envy_soundness.specs.Sound.{Sound, IsSound, Slots, slot_named, slots_of}
use Rattle.envy_soundness.specs.Words.{kept, kept_by, if_active, live, live_word, durable_word, word_at}
use Rattle.envy_soundness.proofs.WordLists.{words-same}
use Rattle.envy_txn.specs.Ending.{Settles}
use Rattle.envy_txn.specs.Turns.{SettledTo, VacatedTo}
use Rattle.envy_txn.proofs.BackLoop.{Returns, place-here, undo-here, place-other, undo-other, rest-more, kept-same}

-- one page more went to where a restart reads it
pub record SettlesOne (n : ℕ) (d new : Chart) : Type 0 where
  pub here : (place new.fields n ≡ kept d.fields n) × (undo new.fields n ≡ Some Clear)
  pub others : (p : ℕ) → p ≢ n → (place new.fields p ≡ place d.fields p) × (undo new.fields p ≡ undo d.fields p)
  pub rest : new ≡ with_fields d (record d.fields { places = new.fields.places; undos = new.fields.undos })

pub SettledTo-more : (n : ℕ) (c d new : Chart) → SettlesOne n d new → SettledTo n c d → SettledTo (n + 1) c new
SettledTo-more n c d new one s = record {
  below = λ p lt. below p lt (cases_eq p n);
  above = λ p le.
      let was = s.above p (omega arith) in
      let stays = one.others p (λ same. absurd (omega arith)) in
      (stays.0 ∙ was.0, stays.1 ∙ was.1);
  rest = one.rest ∙ ap (λ (z : Chart). with_fields z (record z.fields { places = new.fields.places; undos = new.fields.undos })) s.rest;
}
  where
    below : (p : ℕ) → p < n + 1 → (p ≡ n) ⊎ (p ≡ n → ⊥) → (place new.fields p ≡ kept c.fields p) × (undo new.fields p ≡ Some Clear)
    below p lt (inl same) =
        let was = s.above n (omega arith) in
        (ap (place new.fields) same ∙ one.here.0 ∙ kept-same c d n s.rest was.0 was.1 ∙ ap (kept c.fields) (sym same), ap (undo new.fields) same ∙ one.here.1)
    below p lt (inr other) =
        let was = s.below p (let o = other in omega arith) in
        let stays = one.others p other in
        (stays.0 ∙ was.0, stays.1 ∙ was.1)

pub SettlesOne-back : (n : ℕ) (back : Place) (d new : Chart) → Returns n back d new → SettlesOne n d new
SettlesOne-back n back d new r = record {
  here = (place-here n back d new r, undo-here n back d new r);
  others = λ p other. (place-other n back d new p r other, undo-other n back d new p r other);
  rest = rest-more d d new n back r refl;
}

-- an undo whose slot isn't active is ignored
settled-idle : (slots : List (Option Slot)) (u : Option Undo) (now : Option Place) (t : ℕ) → slot_named u ≡ Some t → get_or slots t None ≢ Some Active → kept_by slots u now ≡ now
settled-idle slots None now t named idle = refl
settled-idle slots (Some Clear) now t named idle = refl
settled-idle slots (Some (Blank s)) now t named idle = let same : s ≡ t = cc in at (get_or slots s None) (λ active. idle (ap (λ (n : ℕ). get_or slots n None) (sym same) ∙ active))
  where
    at : (x : Option Slot) → x ≢ Some Active → if_active x (Some Absent) now ≡ now
    at None other = refl
    at (Some Vacant) other = refl
    at (Some Committed) other = refl
    at (Some Active) other = absurd (other refl)
settled-idle slots (Some (Shadow s q)) now t named idle = let same : s ≡ t = cc in at (get_or slots s None) (λ active. idle (ap (λ (n : ℕ). get_or slots n None) (sym same) ∙ active))
  where
    at : (x : Option Slot) → x ≢ Some Active → if_active x (Some (Row q)) now ≡ now
    at None other = refl
    at (Some Vacant) other = refl
    at (Some Committed) other = refl
    at (Some Active) other = absurd (other refl)

pub SettlesOne-cleared : (n t : ℕ) (d new : Chart) → n < length d.fields.undos → slot_named (undo d.fields n) ≡ Some t → slot d.fields t ≢ Some Active → new ≡ with_fields d (with_undo n (Some Clear) d.fields) → SettlesOne n d new
SettlesOne-cleared n t d new low named idle is = record {
  here = (ap (λ (z : Chart). place z.fields n) is ∙ sym (settled-idle d.fields.slots (undo d.fields n) (place d.fields n) t named idle), ap (λ (z : Chart). undo z.fields n) is ∙ get_or-set_same d.fields.undos n (Some Clear) None low);
  others = λ p other. (ap (λ (z : Chart). place z.fields p) is, ap (λ (z : Chart). undo z.fields p) is ∙ get_or-set_other d.fields.undos n p (Some Clear) None other);
  rest = subst (λ (z : Chart). new ≡ with_fields d (record d.fields { places = z.fields.places; undos = z.fields.undos })) (sym is) is;
}

-- a slot that an undo names is one of the board's
pub slot-decodes : (c : Chart) (p t : ℕ) → IsSound c → slot_named (undo c.fields p) ≡ Some t → slot c.fields t ≢ None
slot-decodes c p t sound named = Slots.decode (Sound.slots sound) t (Slots.named (Sound.slots sound) p t named)

-- all pages, and then all slots
pub Settles-all : (c d e : Chart) → IsSound c → IsSound d → SettledTo c.shape.pages c d → VacatedTo (slots_of c.fields.version) d e → SameWords 0 0 d e → Settles c e
Settles-all c d e sound mid s v same = record {
  places = λ p. ap (λ (z : Chart). place z.fields p) v.rest ∙ at p (cases_lt p c.shape.pages);
  undos = λ p lt. ap (λ (z : Chart). undo z.fields p) v.rest ∙ (s.below p lt).1;
  settled = λ p. settled p (cases_lt p c.shape.pages);
  slots = v.below;
  others = λ t le. v.above t le ∙ ap (λ (z : Chart). slot z.fields t) s.rest;
  rest = subst (λ (z : Chart). e ≡ with_fields c (record c.fields { places = z.fields.places; undos = z.fields.undos; slots = e.fields.slots })) (sym v.rest) (v.rest ∙ ap (λ (z : Chart). with_fields z (record z.fields { slots = e.fields.slots })) s.rest);
  words = same.live ∙ ap (λ (z : Chart). live z) s.rest
      ∙ words-same c.shape.pages (durable_word c.fields c.flash) (live_word (record c.fields { places = d.fields.places; undos = d.fields.undos }) c.flash) (λ p j lt. ap (λ (x : Option Place). word_at c.fields.frames c.flash x j) (at p (cases_lt p c.shape.pages)));
}
  where
    past : (p : ℕ) → c.shape.pages ≤ p → undo c.fields p ≡ None
    past p le = get_or_past c.fields.undos p None (rw (Slots.undos_long (Sound.slots sound)) le)

    at : (p : ℕ) → (p < c.shape.pages) ⊎ (c.shape.pages ≤ p) → place d.fields p ≡ kept c.fields p
    at p (inl lt) = (s.below p lt).0
    at p (inr le) = (s.above p le).0 ∙ sym (ap (λ (u : Option Undo). kept_by c.fields.slots u (place c.fields p)) (past p le))

    settled : (p : ℕ) → (p < c.shape.pages) ⊎ (c.shape.pages ≤ p) → kept e.fields p ≡ place e.fields p
    settled p (inl lt) = ap (λ (u : Option Undo). kept_by e.fields.slots u (place e.fields p)) (ap (λ (z : Chart). undo z.fields p) v.rest ∙ (s.below p lt).1)
    settled p (inr le) = ap (λ (u : Option Undo). kept_by e.fields.slots u (place e.fields p)) (ap (λ (z : Chart). undo z.fields p) v.rest ∙ (s.above p le).1 ∙ past p le)

-- what the undo of an active slot names
pub kept-active : (f : Fields) (p t : ℕ) (u : Undo) (back : Place) → undo f p ≡ Some u → slot_named (Some u) ≡ Some t → slot f t ≡ Some Active → named_by u ≡ Some back → kept f p ≡ Some back
kept-active f p t u back owns named active names = ap (λ (z : Option Undo). kept_by f.slots z (place f p)) owns ∙ kept_by-active f.slots u t (place f p) named active ∙ names

-- all undos are clear once all pages are settled
pub settled-clear : (c d : Chart) → SettledTo c.shape.pages c d → (p : ℕ) → p < d.shape.pages → undo d.fields p ≡ Some Clear
settled-clear c d s p lt = (s.below p (subst (λ (n : ℕ). p < n) (ap (λ (z : Chart). z.shape.pages) s.rest) lt)).1
