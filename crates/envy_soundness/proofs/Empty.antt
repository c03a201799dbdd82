-- The map that formatting lays is that of a sound board of zeros.
use Rattle.std.proofs.Common.{◌≡◌, ◌⊎◌, inl, inr, ℕ, suc, ◌+◌, ◌*◌, ◌/◌, ◌%◌, ◌<◌, ◌≤◌, false, List, [], ◌∷◌, length, get_or, set, Option, None, Some, refl, sym, ◌∙◌, ap, subst, arith}
use Rattle.std.specs.Prelude.{count_by, replicate}
use Rattle.std.proofs.lemmas.Bool.{cases_lt, eq-eqb}
use Rattle.std.proofs.lemmas.List.{get_or_past, get_or-replicate, length-replicate, ext_get_or}
use Rattle.std.proofs.lemmas.List.Sums.{sum_by-cons}
use Rattle.std.proofs.Math.Nat.{div-lt_iff_lt-mul}
use Rattle.std.proofs.lemmas.Nat.{mod_below}
use Rattle.envy_base.specs.Shape.{IsShape, IsVersionOf, all_positions_of}
use Rattle.envy_base.specs.State.{ones}
use Rattle.envy_base.specs.declared.shape.Shape.{Shape}
use Rattle.envy_base.specs.declared.fields.Place.{Place}
use Rattle.envy_base.specs.declared.fields.Place.TheVariants.{Absent, Row, Frame}
use Rattle.envy_base.specs.declared.fields.Slot.{Slot}
use Rattle.envy_base.specs.declared.fields.Slot.TheVariants.{Vacant}
use Rattle.envy_base.specs.declared.fields.Undo.{Undo}
use Rattle.envy_base.specs.declared.fields.Undo.TheVariants.{Clear, Shadow}
use Rattle.envy_map.specs.Codes.{the_magic}
use Rattle.envy_map.specs.Fields.{Fields, Chart, failed, with_fields, place, undo}
use Rattle.envy_map.specs.Writes.{with_magic}
use Rattle.envy_soundness.specs.Formatting.{filled, aside, laid_out, with_head, with_regions_laid, IsLaid, IsEmpty, Cleared, Spoils}
use Rattle.envy_soundness.specs.Sound.{Sound, Refers, IsSpare, slot_named, slots_of, owned_by}
use Rattle.envy_soundness.specs.Words.{kept_by, word_at, words, live_word, durable_word}
use Rattle.envy_soundness.proofs.Arranged.{length-laid, laid-fits, laid-apart, laid-aside}
use Rattle.envy_soundness.proofs.Laying.{length-filled, get_or-filled}
use Rattle.envy_soundness.proofs.WordLists.{length-words, get_or-words}

set-three : (xs : List ℕ) (a b c : ℕ) → length xs ≡ 3 → set (set (set xs 0 a) 1 b) 2 c ≡ a ∷ b ∷ c ∷ []
set-three [] a b c e = absurd (omega arith)
set-three (x ∷ []) a b c e = absurd (omega arith)
set-three (x ∷ y ∷ []) a b c e = absurd (omega arith)
set-three (x ∷ y ∷ z ∷ []) a b c e = refl
set-three (x ∷ y ∷ z ∷ w ∷ ws) a b c e = absurd (omega arith)

-- the lengths of a map's regions
pub record Lengths (sh : Shape) (f : Fields) : Type 0 where
  pub sizes : length f.sizes ≡ 3
  pub slots : length f.slots ≡ 64
  pub wears : length f.wears ≡ sh.segments
  pub fills : length f.fills ≡ sh.segments
  pub positions : length f.positions ≡ all_positions_of sh
  pub places : length f.places ≡ sh.pages
  pub undos : length f.undos ≡ sh.pages
  pub backs : length f.backs ≡ sh.segments * sh.rows
  pub origins : length f.origins ≡ sh.rows
  pub frames : length f.frames ≡ 32 * sh.frames

-- the fields after all parts of formatting
abbrev pub laid_fields : Shape → ℕ → ℕ → List ℕ → Fields → Fields
laid_fields sh version slots fills f = with_regions_laid sh slots (with_head sh version (record f { wears = filled f.wears 1 sh.segments; fills = fills }))

-- each segment is erased and empty, or set aside
pub record Emptied (sh : Shape) (filled_to : List ℕ) (flash : List (List ℕ)) : Type 0 where
  pub long : length filled_to ≡ sh.segments
  pub fills : (s : ℕ) → s < sh.segments → (get_or filled_to s 0 ≡ 0) ⊎ (get_or filled_to s 0 ≡ sh.rows)
  pub few : length (aside sh filled_to) ≤ sh.reserves
  pub erased : (q : ℕ) → q < sh.segments * sh.rows → get_or filled_to (q / sh.rows) 0 ≡ 0 → get_or flash q [] ≡ ones

pub IsLaid-fields : (sh : Shape) (version slots : ℕ) (fills : List ℕ) (f : Fields) (flash : List (List ℕ)) → IsShape sh → slots ≡ slots_of version → slots ≤ 64 → Lengths sh f → Emptied sh fills flash → IsLaid sh version (laid_fields sh version slots fills f) flash
IsLaid-fields sh version slots fills f flash shape is few long emptied = record {
  version_is = refl;
  reserves = λ three. rw three refl;
  sums = λ three. rw three refl;
  sizes = set-three f.sizes _ _ _ long.sizes;
  job = refl;
  slots_long = length-filled f.slots (Some Vacant) slots ∙ long.slots;
  slots = λ t lt. let room : t < length f.slots = rw long.slots (omega arith) in get_or-filled f.slots (Some Vacant) slots t None (rw is lt) room;
  wears_long = length-filled f.wears 1 sh.segments ∙ long.wears;
  wears = λ s lt. let room : s < length f.wears = rw long.wears lt in get_or-filled f.wears 1 sh.segments s 0 lt room;
  fills_long = emptied.long;
  fills = emptied.fills;
  few = emptied.few;
  positions_long = length-laid sh fills (let a = emptied.few in let b = shape.reserves in omega arith);
  positions = refl;
  places_long = length-filled f.places (Some Absent) (2 * ((sh.pages + 1) / 2)) ∙ long.places;
  places = λ p lt. let room : p < length f.places = rw long.places lt in get_or-filled f.places (Some Absent) (2 * ((sh.pages + 1) / 2)) p None (omega arith) room;
  undos_long = length-filled f.undos (Some Clear) (2 * ((sh.pages + 1) / 2)) ∙ long.undos;
  undos = λ p lt. let room : p < length f.undos = rw long.undos lt in get_or-filled f.undos (Some Clear) (2 * ((sh.pages + 1) / 2)) p None (omega arith) room;
  backs_long = length-filled f.backs 0 (sh.segments * sh.rows) ∙ long.backs;
  backs = λ q lt. let room : q < length f.backs = rw long.backs lt in get_or-filled f.backs 0 (sh.segments * sh.rows) q 0 lt room;
  origins_long = length-filled f.origins 0 sh.rows ∙ long.origins;
  origins = λ i lt. let room : i < length f.origins = rw long.origins lt in get_or-filled f.origins 0 sh.rows i 0 lt room;
  frames_long = long.frames;
  erased = emptied.erased;
}

-- a list of which each entry is clear counts no owner
none-owned : (slots : List (Option Slot)) (undos : List (Option Undo)) → ((p : ℕ) → p < length undos → get_or undos p None ≡ Some Clear) → count_by (owned_by slots) undos ≡ 0
none-owned slots [] clear = refl
none-owned slots (u ∷ us) clear =
    let first : u ≡ Some Clear = clear 0 (omega arith) in
    let rest = none-owned slots us (λ p lt. clear (suc p) (omega arith)) in
    let here : owned_by slots u ≡ false = ap (owned_by slots) first in
    sum_by-cons _ u us ∙ rw (here, rest) refl

-- past the last page there is nothing
place-laid : (sh : Shape) (version : ℕ) (f : Fields) (flash : List (List ℕ)) (p : ℕ) → IsLaid sh version f flash → (place f p ≡ Some Absent) ⊎ (place f p ≡ None)
place-laid sh version f flash p laid = at (cases_lt p sh.pages)
  where
    at : (p < sh.pages) ⊎ (sh.pages ≤ p) → (place f p ≡ Some Absent) ⊎ (place f p ≡ None)
    at (inl lt) = inl (laid.places p lt)
    at (inr past) = inr (get_or_past f.places p None (rw laid.places_long past))

undo-laid : (sh : Shape) (version : ℕ) (f : Fields) (flash : List (List ℕ)) (p : ℕ) → IsLaid sh version f flash → (undo f p ≡ Some Clear) ⊎ (undo f p ≡ None)
undo-laid sh version f flash p laid = at (cases_lt p sh.pages)
  where
    at : (p < sh.pages) ⊎ (sh.pages ≤ p) → (undo f p ≡ Some Clear) ⊎ (undo f p ≡ None)
    at (inl lt) = inl (laid.undos p lt)
    at (inr past) = inr (get_or_past f.undos p None (rw laid.undos_long past))

kept-laid : (slots : List (Option Slot)) (u : Option Undo) (now : Option Place) → (u ≡ Some Clear) ⊎ (u ≡ None) → kept_by slots u now ≡ now
kept-laid slots u now (inl e) = ap (λ (x : Option Undo). kept_by slots x now) e
kept-laid slots u now (inr e) = ap (λ (x : Option Undo). kept_by slots x now) e

unnamed-laid : (u : Option Undo) (t : ℕ) → (u ≡ Some Clear) ⊎ (u ≡ None) → slot_named u ≡ Some t → ⊥
unnamed-laid u t (inl e) named = let no : slot_named u ≡ None = ap slot_named e in cc
unnamed-laid u t (inr e) named = let no : slot_named u ≡ None = ap slot_named e in cc

no-row : (x : Option Place) (q : ℕ) → (x ≡ Some Absent) ⊎ (x ≡ None) → x ≡ Some (Row q) → ⊥
no-row x q (inl e) is = cc
no-row x q (inr e) is = cc

no-frame : (x : Option Place) (k : ℕ) → (x ≡ Some Absent) ⊎ (x ≡ None) → x ≡ Some (Frame k) → ⊥
no-frame x k (inl e) is = cc
no-frame x k (inr e) is = cc

no-shadow : (u : Option Undo) (t q : ℕ) → (u ≡ Some Clear) ⊎ (u ≡ None) → u ≡ Some (Shadow t q) → ⊥
no-shadow u t q (inl e) is = cc
no-shadow u t q (inr e) is = cc

-- no page names a row
unreferred : (sh : Shape) (version : ℕ) (f : Fields) (flash : List (List ℕ)) (p q : ℕ) → IsLaid sh version f flash → Refers f.slots f.undos f.places p q → ⊥
unreferred sh version f flash p q laid (inl e) = no-row (place f p) q (place-laid sh version f flash p laid) e
unreferred sh version f flash p q laid (inr e) = no-row (place f p) q (place-laid sh version f flash p laid) (sym (kept-laid f.slots (undo f p) (place f p) (undo-laid sh version f flash p laid)) ∙ e)

fill-laid : (sh : Shape) (version : ℕ) (f : Fields) (flash : List (List ℕ)) (s : ℕ) → IsLaid sh version f flash → (get_or f.fills s 0 ≡ 0) ⊎ (get_or f.fills s 0 ≡ sh.rows)
fill-laid sh version f flash s laid = at (cases_lt s sh.segments)
  where
    at : (s < sh.segments) ⊎ (sh.segments ≤ s) → (get_or f.fills s 0 ≡ 0) ⊎ (get_or f.fills s 0 ≡ sh.rows)
    at (inl lt) = laid.fills s lt
    at (inr past) = inl (get_or_past f.fills s 0 (rw laid.fills_long past))

fill-fits : (v rows : ℕ) → (v ≡ 0) ⊎ (v ≡ rows) → v ≤ rows
fill-fits v rows (inl none) = omega arith
fill-fits v rows (inr all) = omega arith

-- a segment with a free row is good, and its rows are erased
free-erased : (sh : Shape) (version : ℕ) (f : Fields) (flash : List (List ℕ)) (q : ℕ) → IsShape sh → IsLaid sh version f flash → q < sh.segments * sh.rows → get_or f.fills (q / sh.rows) 0 ≤ q % sh.rows → get_or flash q [] ≡ ones
free-erased sh version f flash q shape laid lt free = at (fill-laid sh version f flash (q / sh.rows) laid)
  where
    at : (get_or f.fills (q / sh.rows) 0 ≡ 0) ⊎ (get_or f.fills (q / sh.rows) 0 ≡ sh.rows) → get_or flash q [] ≡ ones
    at (inl none) = laid.erased q lt none
    at (inr all) = let low : q % sh.rows < sh.rows = mod_below q sh.rows (let some = shape.rows in omega arith) in absurd (omega arith)

few-laid : (sh : Shape) (version : ℕ) (f : Fields) (flash : List (List ℕ)) → IsShape sh → IsLaid sh version f flash → length (aside sh f.fills) < sh.segments
few-laid sh version f flash shape laid = let a = laid.few in let b = shape.reserves in omega arith

-- the spare stands nowhere, so it wasn't set aside
spare-empty : (sh : Shape) (version : ℕ) (f : Fields) (flash : List (List ℕ)) (e : ℕ) → IsShape sh → IsLaid sh version f flash → IsSpare sh f.positions e → get_or f.fills e 0 ≡ 0
spare-empty sh version f flash e shape laid spare = at (laid.fills e (IsSpare.segment spare))
  where
    stands : ((k : ℕ) × (k < all_positions_of sh) × (get_or (laid_out sh f.fills) k 0 ≡ e)) → ⊥
    stands (k, lt, here) = IsSpare.nowhere spare k lt (ap (λ (xs : List ℕ). get_or xs k 0) laid.positions ∙ here)

    at : (get_or f.fills e 0 ≡ 0) ⊎ (get_or f.fills e 0 ≡ sh.rows) → get_or f.fills e 0 ≡ 0
    at (inl none) = none
    at (inr all) = absurd (stands (laid-aside sh f.fills e (few-laid sh version f flash shape laid) (IsSpare.segment spare) (eq-eqb (get_or f.fills e 0) sh.rows all)))

pub Sound-laid : (sh : Shape) (version : ℕ) (f : Fields) (flash : List (List ℕ)) → IsShape sh → IsVersionOf sh version → IsLaid sh version f flash → Sound sh f flash
Sound-laid sh version f flash shape versions laid = record {
  head = record { versions = subst (λ (v : ℕ). IsVersionOf sh v) (sym laid.version_is) versions; kept = laid.sizes; reserves = λ three. laid.reserves (sym laid.version_is ∙ three); sums = λ three. laid.sums (sym laid.version_is ∙ three) };
  slots = record {
    long = laid.slots_long;
    decode = λ t lt none. let here = laid.slots t (rw (← laid.version_is) lt) in cc;
    undos_long = laid.undos_long;
    undos_decode = λ p lt none. let here = laid.undos p lt in cc;
    named = λ p t e. absurd (unnamed-laid (undo f p) t (undo-laid sh version f flash p laid) e);
    rows = λ p t q e. absurd (no-shadow (undo f p) t q (undo-laid sh version f flash p laid) e);
    in_use = λ p t e. absurd (unnamed-laid (undo f p) t (undo-laid sh version f flash p laid) e);
    few = let none = none-owned f.slots f.undos (λ p lt. laid.undos p (rw (← laid.undos_long) lt)) in omega arith;
  };
  places = record {
    long = laid.places_long;
    decode = λ p lt none. let here = laid.places p lt in cc;
    rows = λ p q e. absurd (no-row (place f p) q (place-laid sh version f flash p laid) e);
    frames = λ p k e. absurd (no-frame (place f p) k (place-laid sh version f flash p laid) e);
    apart = λ p r k e d. absurd (no-frame (place f p) k (place-laid sh version f flash p laid) e);
  };
  rows = record {
    apart = λ p r q n m. absurd (unreferred sh version f flash p q laid n);
    filled = λ p q n. absurd (unreferred sh version f flash p q laid n);
    claimed = λ p q n. absurd (unreferred sh version f flash p q laid n);
  };
  numbers = record {
    wears_long = laid.wears_long;
    fills_long = laid.fills_long;
    fills_fit = λ s. fill-fits (get_or f.fills s 0) sh.rows (fill-laid sh version f flash s laid);
    positions_long = laid.positions_long;
    positions_fit = λ k lt. rw laid.positions (laid-fits sh f.fills k few lt);
    apart = λ i j li lj e. laid-apart sh f.fills i j few li lj (sym (ap (λ (xs : List ℕ). get_or xs i 0) laid.positions) ∙ e ∙ ap (λ (xs : List ℕ). get_or xs j 0) laid.positions);
    backs_long = laid.backs_long;
    backs_fit = λ q lt. let e = laid.backs q lt in let some = shape.pages in omega arith;
    origins_long = laid.origins_long;
    origins_fit = λ i lt. let e = laid.origins i lt in let some = rows-some in omega arith;
    frames_long = laid.frames_long;
  };
  blanks = record { above = λ q lt high. inl (free-erased sh version f flash q shape laid lt high); idle = λ e job spare. spare-empty sh version f flash e shape laid spare };
  homes = record { kept = λ p q n. absurd (unreferred sh version f flash p q laid n) };
  job = record {
    decodes = λ none. let is = laid.job in cc;
    copying = λ v e. absurd (let is = laid.job in cc);
    switching = λ v e. absurd (let is = laid.job in cc);
    copies = λ v s e placed spare. absurd (let is = laid.job in cc);
  };
}
  where
    few : length (aside sh f.fills) < sh.segments
    few = few-laid sh version f flash shape laid

    rows-some : 0 < sh.segments * sh.rows
    rows-some = let a = shape.pages in let b = shape.share in let c = shape.few in grind (arith, shape.segments, shape.rows)

zeros-words : (pages : ℕ) (f : ℕ → ℕ → ℕ) → ((p j : ℕ) → p < pages → f p j ≡ 0) → words pages f ≡ replicate (32 * pages) 0
zeros-words pages f zero_at = ext_get_or 0 (words pages f) (replicate (32 * pages) 0) (length-words pages f ∙ sym (length-replicate (32 * pages) 0))
    (λ a lt. let inside : a < 32 * pages = rw (← length-words pages f) lt in get_or-words pages f a inside ∙ zero_at (a / 32) (a % 32) (omega arith) ∙ sym (get_or-replicate (32 * pages) a 0 0 inside))

pub IsEmpty-laid : (c : Chart) (version : ℕ) → IsShape c.shape → IsVersionOf c.shape version → IsLaid c.shape version c.fields c.flash → IsEmpty version (with_fields c (with_magic the_magic c.fields))
IsEmpty-laid c version shape versions laid = record {
  magic = refl;
  version_is = laid.version_is;
  sound = record { head = s.head; slots = s.slots; places = s.places; rows = s.rows; numbers = s.numbers; blanks = s.blanks; homes = s.homes; job = s.job };
  live_zeros = zeros-words c.shape.pages (live_word c.fields c.flash) (λ p j lt. ap (λ (x : Option Place). word_at c.fields.frames c.flash x j) (laid.places p lt));
  durable_zeros = zeros-words c.shape.pages (durable_word c.fields c.flash) (λ p j lt. ap (λ (x : Option Place). word_at c.fields.frames c.flash x j) (ap (λ (u : Option Undo). kept_by c.fields.slots u (place c.fields p)) (laid.undos p lt) ∙ laid.places p lt));
  job = laid.job;
  slots = laid.slots;
  places = laid.places;
  undos = laid.undos;
  wears = laid.wears;
  fills = laid.fills;
  few = laid.few;
  positions = laid.positions;
}
  where
    s : Sound c.shape c.fields c.flash
    s = Sound-laid c.shape version c.fields c.flash shape versions laid

pub IsEmpty-failed : (c : Chart) (version : ℕ) → IsEmpty version c → IsEmpty version (failed c)
IsEmpty-failed c version e = record { magic = e.magic; version_is = e.version_is; sound = e.sound; live_zeros = e.live_zeros; durable_zeros = e.durable_zeros; job = e.job; slots = e.slots; places = e.places; undos = e.undos; wears = e.wears; fills = e.fills; few = e.few; positions = e.positions }

-- all parts of formatting one after another
pub laid-map : (old a b c : Chart) (version slots : ℕ) → IsShape old.shape → slots ≡ slots_of version → slots ≤ 64 → Lengths old.shape old.fields → length old.flash ≡ old.shape.segments * old.shape.rows → Cleared old.shape.segments old a → b ≡ with_fields a (with_head a.shape version a.fields) → c ≡ with_fields b (with_regions_laid b.shape slots b.fields) → IsLaid old.shape version c.fields c.flash
laid-map old a b c version slots shape is few long flash_long cleared eb ec =
    subst (λ (f : Fields). IsLaid old.shape version f c.flash) (sym fields)
    (IsLaid-fields old.shape version slots a.fields.fills old.fields c.flash shape is few long (record {
      long = cleared.fills_long ∙ long.fills;
      fills = cleared.fills;
      few = cleared.few;
      erased = λ q lt none. ap (λ (x : List (List ℕ)). get_or x q []) flash ∙ cleared.erased q (rw flash_long lt) ((div-lt_iff_lt-mul (let some = shape.rows in omega arith)).1 lt) none;
    }))
  where
    fields : c.fields ≡ laid_fields old.shape version slots a.fields.fills old.fields
    fields = ap (λ (x : Chart). x.fields) ec ∙ ap (λ (x : Chart). with_regions_laid x.shape slots x.fields) eb
        ∙ ap (λ (sh : Shape). with_regions_laid sh slots (with_head sh version a.fields)) cleared.shape
        ∙ ap (λ (f : Fields). with_regions_laid old.shape slots (with_head old.shape version (record f { fills = a.fields.fills }))) cleared.fields

    flash : c.flash ≡ a.flash
    flash = ap (λ (x : Chart). x.flash) ec ∙ ap (λ (x : Chart). x.flash) eb

-- the count of bad operations, and the segments set aside, as they were when all were erased
pub laid-spoils : (old a b c : Chart) (version slots : ℕ) → Cleared old.shape.segments old a → b ≡ with_fields a (with_head a.shape version a.fields) → c ≡ with_fields b (with_regions_laid b.shape slots b.fields) → Spoils (length (aside old.shape c.fields.fills)) old.bads c.bads
laid-spoils old a b c version slots cleared eb ec =
    subst (λ (x : Chart). Spoils (length (aside old.shape x.fields.fills)) old.bads x.bads) (sym (ec ∙ ap (λ (x : Chart). with_fields x (with_regions_laid x.shape slots x.fields)) eb)) cleared.bads
