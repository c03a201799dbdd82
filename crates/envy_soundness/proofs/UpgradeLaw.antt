-- The writes that turn a board of version 1 into one of version 2.
use Rattle.std.proofs.Common.{◌≡◌, ◌≢◌, ◌⊎◌, inl, inr, ℕ, zero, suc, ◌+◌, ◌-◌, ◌<◌, ◌≤◌, List, [], ◌∷◌, ◌++◌, length, take, drop, Option, None, Some, refl, sym, ◌∙◌, ap, subst, arith}
use Rattle.std.specs.Prelude.{IsTrue, Result, Ok, Err, OnOk, replicate}
use Rattle.std.proofs.lemmas.Bool.{cases_lt}
use Rattle.std.proofs.lemmas.List.{set-append_right, length-take, length-drop, take-append-drop, get_or-append_right}
use Rattle.envy_base.specs.Shape.{IsVersionOf, version_of}
use Rattle.envy_base.proofs.Versions.{version-known}
use Rattle.envy_base.specs.declared.board.Off.{Off}
use Rattle.envy_base.specs.declared.shape.Shape.{Shape}
use Rattle.envy_base.specs.declared.fields.Slot.{Slot}
use Rattle.envy_base.specs.declared.fields.Slot.TheVariants.{Vacant}
use Rattle.envy_map.specs.Fields.{Fields, Chart, failed, with_fields, slot}
use Rattle.envy_map.specs.Writes.{Writes, with_slot, with_version}
use Rattle.envy_soundness.specs.Formatting.{filled}
use Rattle.envy_soundness.specs.May.{IsUnused}
use Rattle.envy_soundness.specs.Same.{Kept, SameWords}
use Rattle.envy_soundness.specs.Sound.{Sound, Slots, Head, IsSound}
use Rattle.envy_soundness.specs.Upgrading.{upgraded, with_slots_vacated}
use Rattle.envy_soundness.specs.Words.{live}
use Rattle.envy_soundness.proofs.Composition.{exits, at-each, Kept-refl, Kept-trans, Kept-words, Counted-fields, Counted-failed, Wears-fields, Wears-failed}
use Rattle.envy_soundness.proofs.Laying.{filled-zero, filled-step, get_or-filled}

-- a board of version 1 has 16 slots, so no undo names another
pub unused-new : (c : Chart) (t : ℕ) → IsSound c → c.fields.version ≡ 1 → 16 ≤ t → IsUnused c.fields t
unused-new c t sound one new p named =
    let low : t < 16 = rw one at (Slots.named (Sound.slots sound) p t named) in
    absurd (omega arith)

pub vacated-none : (f : Fields) → with_slots_vacated 16 f ≡ f
vacated-none f = ap (λ (xs : List (Option Slot)). record f { slots = xs }) (ap (λ (ys : List (Option Slot)). take 16 f.slots ++ ys) (filled-zero (drop 16 f.slots) (Some Vacant)) ∙ take-append-drop 16 f.slots)

first-slots : (f : Fields) → length f.slots ≡ 64 → length (take 16 f.slots) ≡ 16
first-slots f long = length-take 16 f.slots ∙ (rw long refl)

pub vacated-more : (f : Fields) (n : ℕ) → length f.slots ≡ 64 → 16 ≤ n → with_slot n (Some Vacant) (with_slots_vacated n f) ≡ with_slots_vacated (n + 1) f
vacated-more f n long low =
    let next : n - 16 + 1 ≡ n + 1 - 16 = omega arith in
    ap (λ (xs : List (Option Slot)). record f { slots = xs })
    (set-append_right (take 16 f.slots) (filled (drop 16 f.slots) (Some Vacant) (n - 16)) 16 n (Some Vacant) (first-slots f long) low
    ∙ ap (λ (ys : List (Option Slot)). take 16 f.slots ++ ys) (filled-step (drop 16 f.slots) (Some Vacant) (n - 16) ∙ ap (filled (drop 16 f.slots) (Some Vacant)) next))

filled-all : {A : Type 0} (xs : List A) (x : A) (n : ℕ) → length xs ≤ n → filled xs x n ≡ replicate (length xs) x
filled-all [] x n le = refl
filled-all (y ∷ ys) x zero le = absurd (omega arith)
filled-all (y ∷ ys) x (suc n) le = ap (λ (r : List _). x ∷ r) (filled-all ys x n (omega arith))

pub vacated-all : (f : Fields) → length f.slots ≡ 64 → with_version 2 (with_slots_vacated 64 f) ≡ upgraded f
vacated-all f long =
    let rest = length-drop 16 f.slots in
    ap (λ (ys : List (Option Slot)). record f { version = 2; slots = take 16 f.slots ++ ys })
    (filled-all (drop 16 f.slots) (Some Vacant) 48 (omega arith) ∙ ap (λ (n : ℕ). replicate n (Some Vacant)) rest)

-- the new slots are vacant, so all 64 decode
pub Sound-versioned : (sh : Shape) (f : Fields) (flash : List (List ℕ)) → Sound sh f flash → f.version ≡ 1 → ((t : ℕ) → 16 ≤ t → t < 64 → slot f t ≡ Some Vacant) → Sound sh (with_version 2 f) flash
Sound-versioned sh f flash s one vacant = record {
  head = record { versions = inl (sym (known (Head.versions s.head))); kept = Head.kept s.head; reserves = λ three. absurd (omega arith); sums = λ three. absurd (omega arith) };
  slots = record {
    long = Slots.long s.slots;
    decode = λ t lt. decode t lt (cases_lt t 16);
    undos_long = Slots.undos_long s.slots;
    undos_decode = Slots.undos_decode s.slots;
    named = λ p t e. let low : t < 16 = rw one at (Slots.named s.slots p t e) in omega arith;
    rows = Slots.rows s.slots;
    in_use = Slots.in_use s.slots;
    few = Slots.few s.slots;
  };
  places = s.places;
  rows = s.rows;
  numbers = s.numbers;
  blanks = s.blanks;
  homes = s.homes;
  job = s.job;
}
  where
    known : IsVersionOf sh f.version → version_of sh ≡ 2
    known (inl is) = elim (version-known sh) [ inl two ↦ two | inr three ↦ absurd (omega arith) ]
    known (inr (first, two)) = two

    decode : (t : ℕ) → t < 64 → (t < 16) ⊎ (16 ≤ t) → slot f t ≢ None
    decode t lt (inl low) none = Slots.decode s.slots t (rw one low) none
    decode t lt (inr high) none = let is = vacant t high lt in cc

pub vacant-new : (f : Fields) (t : ℕ) → length f.slots ≡ 64 → 16 ≤ t → t < 64 → slot (with_slots_vacated 64 f) t ≡ Some Vacant
vacant-new f t long high lt =
    let rest = length-drop 16 f.slots in
    get_or-append_right (take 16 f.slots) (filled (drop 16 f.slots) (Some Vacant) 48) 16 t None (first-slots f long) high
    ∙ get_or-filled (drop 16 f.slots) (Some Vacant) 48 (t - 16) None (omega arith) (omega arith)

-- what a restart keeps, and what loads read
pub record KeptLive (old new : Chart) : Type 0 where
  pub kept : Kept old new
  pub live : live new ≡ live old

Kept-version : (c : Chart) (n : ℕ) → IsSound (with_fields c (with_version n c.fields)) → KeptLive c (with_fields c (with_version n c.fields))
Kept-version c n sound = record {
  kept = record { shape = refl; magic = refl; sound = sound; durable = refl; counted = Counted-fields c (with_version n c.fields); worn = Wears-fields c (with_version n c.fields) refl };
  live = refl;
}

Kept-version_failed : (c : Chart) (f : Fields) → IsTrue c.on → KeptLive c (with_fields c f) → f.wears ≡ c.fields.wears → KeptLive c (failed (with_fields c f))
Kept-version_failed c f on k wears =
    let kept = k.kept in
    record {
      kept = record { shape = kept.shape; magic = kept.magic; sound = kept.sound; durable = kept.durable; counted = Counted-failed c f on; worn = Wears-failed c f wears };
      live = k.live;
    }

KeptLive-refl : (c : Chart) → IsSound c → KeptLive c c
KeptLive-refl c sound = record { kept = Kept-refl c sound; live = refl }

pub KeptLive-versioned : (c new : Chart) (r : Result Unit Off) → IsSound c → (IsTrue c.on → IsSound (with_fields c (with_version 2 c.fields))) → Writes (with_version 2) c r new → KeptLive c new
KeptLive-versioned c new r sound after writes = at-each r (KeptLive c new) (exits c new (with_version 2) r (KeptLive c) (KeptLive c)
    (λ on. Kept-version c 2 (after on))
    (λ off. KeptLive-refl c sound)
    (λ on. Kept-version_failed c c.fields on (KeptLive-refl c sound) refl)
    (λ on. Kept-version_failed c (with_version 2 c.fields) on (Kept-version c 2 (after on)) refl)
    writes)

pub KeptLive-words : (a b : Chart) → SameWords 0 0 a b → KeptLive a b
KeptLive-words a b s = record { kept = Kept-words a b s; live = s.live }

pub KeptLive-trans : (a b c : Chart) → KeptLive a b → KeptLive b c → KeptLive a c
KeptLive-trans a b c s t = record { kept = Kept-trans a b c s.kept t.kept; live = t.live ∙ s.live }

pub vacated-next : (old mid new : Chart) (n : ℕ) → length old.fields.slots ≡ 64 → 16 ≤ n → mid ≡ with_fields old (with_slots_vacated n old.fields) → new ≡ with_fields mid (with_slot n (Some Vacant) mid.fields) → new ≡ with_fields old (with_slots_vacated (n + 1) old.fields)
vacated-next old mid new n long low was is =
    is ∙ ap (λ (c : Chart). with_fields c (with_slot n (Some Vacant) c.fields)) was ∙ ap (with_fields old) (vacated-more old.fields n long low)

-- the write of the version, after those of the slots
pub Upgrades-put : (old mid new : Chart) (r : Result Unit Off) → IsSound old → (IsTrue old.on → old.fields.version ≡ 1) → SameWords 0 0 old mid → mid ≡ with_fields old (with_slots_vacated 64 old.fields) → Writes (with_version 2) mid r new → KeptLive old new
Upgrades-put old mid new r sound one same is writes =
    KeptLive-trans old mid new (KeptLive-words old mid same)
    (KeptLive-versioned mid new r same.sound
    (λ on. Sound-versioned mid.shape mid.fields mid.flash same.sound
    (same.version ∙ one (subst IsTrue (ap (λ (c : Chart). c.on) is) on))
    (λ t high lt. ap (λ (c : Chart). slot c.fields t) is ∙ vacant-new old.fields t (Slots.long (Sound.slots sound)) high lt))
    writes)

pub Upgrades-done : (old mid new : Chart) (r : Result Unit Off) → length old.fields.slots ≡ 64 → mid ≡ with_fields old (with_slots_vacated 64 old.fields) → Writes (with_version 2) mid r new → OnOk r (new ≡ with_fields old (upgraded old.fields))
Upgrades-done old mid new (Ok done) long is (on, put) = put ∙ ap (λ (c : Chart). with_fields c (with_version 2 c.fields)) is ∙ ap (with_fields old) (vacated-all old.fields long)
Upgrades-done old mid new (Err off) long is writes = tt
