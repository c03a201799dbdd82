-- Segments that formatting erases, one after another.
use Rattle.std.proofs.Common.{◌≡◌, ◌⊎◌, inl, inr, ℕ, ◌+◌, ◌-◌, ◌^◌, ◌/◌, ◌<◌, ◌≤◌, Bool, true, false, cond, List, [], length, get_or, set, refl, sym, ◌∙◌, ap, subst, arith}
use Rattle.std.specs.Prelude.{IsTrue, Ok, Err, sum, ◌==◌, if◌then◌else◌}
use Rattle.std.proofs.lemmas.Bool.{cases_eq, cases_lt, ne_eqb, eq-eqb}
use Rattle.std.proofs.lemmas.List.{get_or-set_same, get_or-set_other, length-set}
use Rattle.std.proofs.lemmas.List.Sums.{sum_by-set}
use Rattle.envy_base.specs.Counting.{up}
use Rattle.envy_base.proofs.Counting.{up-least, up-most, up-rises}
use Rattle.envy_base.specs.State.{State, Only, Erases, with_segment, cut, IsPage, IsOnes, ones}
use Rattle.envy_base.specs.declared.shape.Shape.{Shape}
use Rattle.envy_base.specs.declared.board.Trouble.{Trouble}
use Rattle.envy_base.specs.declared.board.Trouble.TheVariants.{Off as TroubleOff, Bad}
use Rattle.envy_map.specs.Fields.{Fields, Chart, chart}
use Rattle.envy_map.specs.Writes.{Writes, with_wear, with_fill}
use Rattle.envy_soundness.specs.Formatting.{filled, aside_of, ErasedOne, IsStopped, IsSpoilt, Reached, Cleared, ClearedOne, Spoils}
use Rattle.envy_soundness.specs.Same.{Counted, Grows}
use Rattle.envy_soundness.proofs.Composition.{Counted-trans, Counted-fields}
use Rattle.envy_soundness.proofs.Arranged.{aside-more}
use Rattle.envy_soundness.proofs.Laying.{filled-zero, filled-step, Reached-refl}

sum-up : (xs : List ℕ) (e : ℕ) → e < length xs → (sum xs ≤ sum (set xs e (up (get_or xs e 0)))) × (sum (set xs e (up (get_or xs e 0))) ≤ sum xs + 1)
sum-up xs e lt =
    let step = sum_by-set (λ (x : ℕ). x) xs e (up (get_or xs e 0)) 0 lt in
    let a = up-least (get_or xs e 0) in
    let b = up-most (get_or xs e 0) in
    (omega arith, omega arith)

pub Grows-up : (xs : List ℕ) (e : ℕ) → e < length xs → Grows 1 xs (set xs e (up (get_or xs e 0)))
Grows-up xs e lt = record { long = length-set xs e _; each = λ s. at s (cases_eq s e); least = (sum-up xs e lt).0; few = (sum-up xs e lt).1 }
  where
    at : (s : ℕ) → (s ≡ e) ⊎ (s ≡ e → ⊥) → get_or xs s 0 ≤ get_or (set xs e (up (get_or xs e 0))) s 0
    at s (inl same) = let a = up-least (get_or xs e 0) in rw (same, get_or-set_same xs e (up (get_or xs e 0)) 0 lt) a
    at s (inr other) = rw (get_or-set_other xs e s (up (get_or xs e 0)) 0 other) (omega arith)

pub Counted-erased : (s : State) (e : ℕ) (rows : List (List ℕ)) → e < length s.erases → Counted 0 1 (chart s) (chart (with_segment s e rows))
Counted-erased s e rows lt = record { power = inl (refl, refl); cuts = omega arith; bads = omega arith; begun = omega arith; few = omega arith; erases = Grows-up s.erases e lt; pulled = refl; plans = refl; last_plan = refl; lives = refl; given = refl; notes = refl }

pub Counted-erase_cut : (s : State) (e : ℕ) (rows : List (List ℕ)) → IsTrue s.on → e < length s.erases → Counted 0 1 (chart s) (chart (cut (with_segment s e rows)))
Counted-erase_cut s e rows on lt = record { power = inr (on, refl, refl); cuts = up-least s.cuts; bads = omega arith; begun = omega arith; few = omega arith; erases = Grows-up s.erases e lt; pulled = refl; plans = refl; last_plan = refl; lives = refl; given = refl; notes = refl }

pub Counted-erase_bad : (s : State) (e : ℕ) (rows : List (List ℕ)) → e < length s.erases → Counted 0 1 (chart s) (chart (record (with_segment s e rows) { bads = up s.bads }))
Counted-erase_bad s e rows lt = record { power = inl (refl, refl); cuts = omega arith; bads = up-least s.bads; begun = omega arith; few = omega arith; erases = Grows-up s.erases e lt; pulled = refl; plans = refl; last_plan = refl; lives = refl; given = refl; notes = refl }

erased-bads : (is_bad : Bool) (n m : ℕ) → m ≡ (if is_bad then up n else n) → n ≤ m
erased-bads true n m is = let a = up-least n in omega arith
erased-bads false n m is = omega arith

pub Counted-erased_one : (s new : State) (e : ℕ) (is_bad : Bool) → e < length s.erases → ErasedOne e is_bad s new → Counted 0 1 (chart s) (chart new)
Counted-erased_one s new e is_bad lt one = subst (λ (x : State). Counted 0 1 (chart s) (chart x)) (sym one.is)
    (record { power = inl (refl, refl); cuts = omega arith; bads = erased-bads is_bad s.bads new.bads one.bads; begun = omega arith; few = omega arith; erases = Grows-up s.erases e lt; pulled = refl; plans = refl; last_plan = refl; lives = refl; given = refl; notes = refl })

-- an erase in the middle of formatting
pub erase-reached : (s new : State) (e : ℕ) (is_bad : Bool) → e < length s.erases → ErasedOne e is_bad s new → Reached 1 (chart s) (chart new)
erase-reached s new e is_bad lt one = record { on = one.on; shape = ap (λ (x : State). x.shape) one.is; magic = ap (λ (x : State). (chart x).fields.magic) one.is; counted = Counted-erased_one s new e is_bad lt one }

erased-only : (rows e : ℕ) (old new : List (List ℕ)) → Only rows e IsOnes old new → Only rows e (λ xs. false ≡ false → IsOnes xs) old new
erased-only rows e old new only = record { long = Only.long only; others = Only.others only; inside = λ q lt at same. Only.inside only q lt at }

spoilt-only : (rows e : ℕ) (P : List ℕ → Type 0) (old new : List (List ℕ)) → Only rows e P old new → Only rows e (λ xs. true ≡ false → IsOnes xs) old new
spoilt-only rows e P old new only = record { long = Only.long only; others = Only.others only; inside = λ q lt at never. absurd cc }

pub erased-good : (s new : State) (e : ℕ) → Erases s e (Ok tt) new → ErasedOne e false s new
erased-good s new e (on, rows, only, is) = subst (λ (x : State). ErasedOne e false s x) (sym is) (record { on = on; flash = erased-only s.shape.rows e s.flash rows only; is = refl; bads = refl })

pub erased-bad : (s new : State) (e : ℕ) (t : Trouble) → t ≡ Bad → Erases s e (Err t) new → ErasedOne e true s new
erased-bad s new e TroubleOff bad erases = absurd cc
erased-bad s new e Bad bad (on, rows, only, is) = subst (λ (x : State). ErasedOne e true s x) (sym is) (record { on = on; flash = spoilt-only s.shape.rows e IsPage s.flash rows only; is = refl; bads = refl })

pub erase-stops : (s new : State) (e : ℕ) (t : Trouble) → IsTrue s.on → e < length s.erases → Erases s e (Err t) new → t ≡ TroubleOff → IsStopped 1 (chart s) (chart new)
erase-stops s new e TroubleOff on lt (inl (dark, is)) off = absurd (let no = on in cc)
erase-stops s new e TroubleOff on lt (inr (was, rows, only, is)) off = subst (λ (x : State). IsStopped 1 (chart s) (chart x)) (sym is) (record { off = refl; shape = refl; magic = refl; counted = Counted-erase_cut s e rows on lt })
erase-stops s new e Bad on lt erases off = absurd cc

pub erase-spoils : (s new : State) (e : ℕ) (t : Trouble) → e < length s.erases → Erases s e (Err t) new → t ≡ Bad → IsSpoilt 1 0 (chart s) (chart new)
erase-spoils s new e TroubleOff lt erases bad = absurd cc
erase-spoils s new e Bad lt (on, rows, only, is) bad = subst (λ (x : State). IsSpoilt 1 0 (chart s) (chart x)) (sym is) (record { on = on; shape = refl; magic = refl; counted = Counted-erase_bad s e rows lt; bads = λ low. let rise = up-rises s.bads (omega arith) in omega arith })

pub cleared-one : (old : Chart) (a b c : State) (e fill : ℕ) (is_bad : Bool) → e < length a.erases → Writes (with_wear e 1) old (Ok tt) (chart a) → ErasedOne e is_bad a b → fill ≡ (if is_bad then old.shape.rows else 0) → Writes (with_fill e fill) (chart b) (Ok tt) (chart c) → ClearedOne e is_bad old (chart c)
cleared-one old a b c e fill is_bad lt (on, worn) one is (then_on, put) = record {
  shape = ap (λ (x : Chart). x.shape) put ∙ ap (λ (x : State). x.shape) one.is ∙ ap (λ (x : Chart). x.shape) worn;
  on = subst (λ (x : Bool). IsTrue x) (sym (ap (λ (x : Chart). x.on) put)) then_on;
  fields = ap (λ (x : Chart). x.fields) put ∙ ap (λ (x : State). with_fill e fill (chart x).fields) one.is ∙ ap (λ (x : Chart). with_fill e fill x.fields) worn ∙ ap (λ (n : ℕ). with_fill e n (with_wear e 1 old.fields)) is;
  flash = subst (λ (x : List (List ℕ)). Only old.shape.rows e (λ xs. is_bad ≡ false → IsOnes xs) old.flash x) (sym (ap (λ (x : Chart). x.flash) put))
      (subst (λ (x : Chart). Only x.shape.rows e (λ xs. is_bad ≡ false → IsOnes xs) x.flash b.flash) worn one.flash);
  bads = ap (λ (x : Chart). x.bads) put ∙ one.bads ∙ ap (λ (x : Chart). if is_bad then up x.bads else x.bads) worn;
  once = ap (λ (xs : List ℕ). get_or xs e 0) erases ∙ get_or-set_same old.erases e (up (get_or old.erases e 0)) 0 (rw (← before) lt);
  others = λ r other. ap (λ (xs : List ℕ). get_or xs r 0) erases ∙ get_or-set_other old.erases e r (up (get_or old.erases e 0)) 0 other;
  counted = Counted-trans 0 0 0 1 old (chart a) (chart c) first (Counted-trans 0 1 0 0 (chart a) (chart b) (chart c) second third);
}
  where
    before : a.erases ≡ old.erases
    before = ap (λ (x : Chart). x.erases) worn

    erases : c.erases ≡ set old.erases e (up (get_or old.erases e 0))
    erases = ap (λ (x : Chart). x.erases) put ∙ ap (λ (x : State). x.erases) one.is ∙ ap (λ (xs : List ℕ). set xs e (up (get_or xs e 0))) before

    first : Counted 0 0 old (chart a)
    first = subst (λ (x : Chart). Counted 0 0 old x) (sym worn) (Counted-fields old (with_wear e 1 old.fields))

    second : Counted 0 1 (chart a) (chart b)
    second = Counted-erased_one a b e is_bad lt one

    third : Counted 0 0 (chart b) (chart c)
    third = subst (λ (x : Chart). Counted 0 0 (chart b) x) (sym put) (Counted-fields (chart b) (with_fill e fill (chart b).fields))

pub Cleared-none : (c : Chart) → IsTrue c.on → Cleared 0 c c
Cleared-none c on = record {
  shape = refl;
  on = on;
  fields = ap (λ (ws : List ℕ). record c.fields { wears = ws }) (sym (filled-zero c.fields.wears 1));
  fills_long = refl;
  fills = λ s lt. absurd (omega arith);
  long = refl;
  erased = λ q lt below. absurd (omega arith);
  once = λ s lt. absurd (omega arith);
  others = λ s le. refl;
  counted = Reached.counted (Reached-refl c on);
  bads = (omega arith, λ low. omega arith);
  few = omega arith;
}

-- the fill of a segment that was just erased
fill-cases : (rows : ℕ) (is_bad : Bool) (v : ℕ) → v ≡ (if is_bad then rows else 0) → (v ≡ 0) ⊎ (v ≡ rows)
fill-cases rows true v is = inr is
fill-cases rows false v is = inl is

good-fill : (rows : ℕ) (is_bad : Bool) (v : ℕ) → 0 < rows → v ≡ (if is_bad then rows else 0) → v ≡ 0 → is_bad ≡ false
good-fill rows true v some is none = absurd (omega arith)
good-fill rows false v some is none = refl

aside-count : (rows : ℕ) (is_bad : Bool) (v : ℕ) → 0 < rows → v ≡ (if is_bad then rows else 0) → ◌≡◌ {A = ℕ} (cond (v == rows) 1 0) (cond is_bad 1 0)
aside-count rows true v some is = ap (λ (b : Bool). cond b 1 0) (eq-eqb v rows is)
aside-count rows false v some is = let differ : (v == rows) ≡ false = ne_eqb v rows (λ same. omega arith) in ap (λ (b : Bool). cond b 1 0) differ

Spoils-more : (is_bad : Bool) (n old mid new : ℕ) → new ≡ (if is_bad then up mid else mid) → Spoils n old mid → Spoils (n + cond is_bad 1 0) old new
Spoils-more true n old mid new is (le, same) =
    let rise = up-least mid in
    let most = up-most mid in
    (omega arith, λ low. let below : mid < 2 ^ 64 - 1 = omega arith in let was = same below in let rises = up-rises mid below in omega arith)
Spoils-more false n old mid new is (le, same) = (omega arith, λ low. let was = same (omega arith) in omega arith)

few-more : (is_bad : Bool) (n m : ℕ) → n ≤ m → (IsTrue is_bad → n < m) → n + cond is_bad 1 0 ≤ m
few-more true n m le room = let lt = room refl in omega arith
few-more false n m le room = omega arith

-- one more segment is set aside if its erase was bad
pub aside-cleared : (sh : Shape) (mid new : Chart) (n : ℕ) (is_bad : Bool) → 0 < sh.rows → mid.shape ≡ sh → n < length mid.fields.fills → ClearedOne n is_bad mid new → length (aside_of sh new.fields.fills (n + 1)) ≡ length (aside_of sh mid.fields.fills n) + cond is_bad 1 0
aside-cleared sh mid new n is_bad some shape inside one =
    let v : ℕ = if is_bad then mid.shape.rows else 0 in
    let v-is : v ≡ (if is_bad then sh.rows else 0) = ap (λ (x : Shape). if is_bad then x.rows else 0) shape in
    ap (λ (f : Fields). length (aside_of sh f.fills (n + 1))) one.fields ∙ aside-more sh mid.fields.fills n v inside
    ∙ ap (λ (k : ℕ). length (aside_of sh mid.fields.fills n) + k) (aside-count sh.rows is_bad v some v-is)

pub counted-more : (bads k : ℕ) (is_bad : Bool) (now : ℕ) → now ≡ (if is_bad then bads + 1 else bads) → bads ≡ k → now ≡ k + cond is_bad 1 0
counted-more bads k true now is same = omega arith
counted-more bads k false now is same = omega arith

pub Cleared-more : (old mid new : Chart) (n : ℕ) (is_bad : Bool) → 0 < old.shape.rows → n < length old.fields.fills → Cleared n old mid → ClearedOne n is_bad mid new → (IsTrue is_bad → length (aside_of old.shape mid.fields.fills n) < old.shape.reserves) → Cleared (n + 1) old new
Cleared-more old mid new n is_bad some room all one allowed = record {
  shape = one.shape ∙ all.shape;
  on = one.on;
  fields = one.fields ∙ ap (λ (f : Fields). record f { wears = set f.wears n 1; fills = set mid.fields.fills n v }) all.fields
      ∙ ap (λ (ws : List ℕ). record old.fields { wears = ws; fills = set mid.fields.fills n v }) (filled-step old.fields.wears 1 n)
      ∙ ap (λ (fs : List ℕ). record old.fields { wears = filled old.fields.wears 1 (n + 1); fills = fs }) (sym now);
  fills_long = ap length now ∙ length-set mid.fields.fills n v ∙ all.fills_long;
  fills = λ s lt. fills s lt (cases_eq s n);
  long = Only.long one.flash ∙ all.long;
  erased = λ q lt below none. at q lt below none (cases_eq (q / old.shape.rows) n);
  once = λ s lt. once s lt (cases_eq s n);
  others = λ s le. one.others s (omega arith) ∙ all.others s (omega arith);
  counted = Counted-trans 0 n 0 1 old mid new all.counted one.counted;
  bads = subst (λ (k : ℕ). Spoils k old.bads new.bads) (sym count) (Spoils-more is_bad (length (aside_of old.shape mid.fields.fills n)) old.bads mid.bads new.bads one.bads all.bads);
  few = let most = few-more is_bad (length (aside_of old.shape mid.fields.fills n)) old.shape.reserves all.few allowed in omega (arith, count);
}
  where
    v : ℕ
    v = if is_bad then mid.shape.rows else 0

    rows-same : mid.shape.rows ≡ old.shape.rows
    rows-same = ap (λ (sh : Shape). sh.rows) all.shape

    v-is : v ≡ (if is_bad then old.shape.rows else 0)
    v-is = ap (λ (r : ℕ). if is_bad then r else 0) rows-same

    now : new.fields.fills ≡ set mid.fields.fills n v
    now = ap (λ (f : Fields). f.fills) one.fields

    inside : n < length mid.fields.fills
    inside = omega (arith, all.fills_long)

    count : length (aside_of old.shape new.fields.fills (n + 1)) ≡ length (aside_of old.shape mid.fields.fills n) + cond is_bad 1 0
    count = aside-cleared old.shape mid new n is_bad some all.shape inside one

    here : get_or new.fields.fills n 0 ≡ v
    here = ap (λ (fs : List ℕ). get_or fs n 0) now ∙ get_or-set_same mid.fields.fills n v 0 inside

    there : (s : ℕ) → (s ≡ n → ⊥) → get_or new.fields.fills s 0 ≡ get_or mid.fields.fills s 0
    there s other = ap (λ (fs : List ℕ). get_or fs s 0) now ∙ get_or-set_other mid.fields.fills n s v 0 other

    fills : (s : ℕ) → s < n + 1 → (s ≡ n) ⊎ (s ≡ n → ⊥) → (get_or new.fields.fills s 0 ≡ 0) ⊎ (get_or new.fields.fills s 0 ≡ old.shape.rows)
    fills s lt (inl same) = fill-cases old.shape.rows is_bad (get_or new.fields.fills s 0) (ap (λ (k : ℕ). get_or new.fields.fills k 0) same ∙ here ∙ v-is)
    fills s lt (inr other) = subst (λ (x : ℕ). (x ≡ 0) ⊎ (x ≡ old.shape.rows)) (sym (there s other)) (all.fills s (let o = other in omega arith))

    flash : Only old.shape.rows n (λ xs. is_bad ≡ false → IsOnes xs) mid.flash new.flash
    flash = subst (λ (r : ℕ). Only r n (λ xs. is_bad ≡ false → IsOnes xs) mid.flash new.flash) rows-same one.flash

    once : (s : ℕ) → s < n + 1 → (s ≡ n) ⊎ (s ≡ n → ⊥) → get_or new.erases s 0 ≡ up (get_or old.erases s 0)
    once s lt (inl same) = rw same (one.once ∙ ap up (all.others n (omega arith)))
    once s lt (inr other) = one.others s other ∙ all.once s (let o = other in omega arith)

    at : (q : ℕ) → q < length old.flash → q / old.shape.rows < n + 1 → get_or new.fields.fills (q / old.shape.rows) 0 ≡ 0 → (q / old.shape.rows ≡ n) ⊎ (q / old.shape.rows ≡ n → ⊥) → get_or new.flash q [] ≡ ones
    at q lt below empty (inl same) = Only.inside flash q (rw all.long lt) same (good-fill old.shape.rows is_bad v some v-is (sym here ∙ ap (λ (k : ℕ). get_or new.fields.fills k 0) (sym same) ∙ empty))
    at q lt below empty (inr other) = Only.others flash q other ∙ all.erased q lt (omega arith) (sym (there (q / old.shape.rows) other) ∙ empty)

-- an erase failed when as many were set aside as may be
pub Spoilt-full : (n m : ℕ) (old mid new : Chart) → Cleared n old mid → m ≤ length (aside_of old.shape mid.fields.fills n) → IsSpoilt 1 0 mid new → IsSpoilt (n + 1) m old new
Spoilt-full n m old mid new all full s = record {
  on = s.on;
  shape = s.shape ∙ all.shape;
  magic = s.magic ∙ ap (λ (f : Fields). f.magic) all.fields;
  counted = Counted-trans 0 n 0 1 old mid new all.counted s.counted;
  bads = by_top (cases_lt mid.bads (2 ^ 64 - 1));
}
  where
    by_top : (mid.bads < 2 ^ 64 - 1) ⊎ (2 ^ 64 - 1 ≤ mid.bads) → old.bads + m < 2 ^ 64 - 1 → old.bads + m < new.bads
    by_top (inl below) low = let a = all.bads.1 below in let b = s.bads (omega arith) in omega arith
    by_top (inr top) low = let b = Counted.bads s.counted in omega arith

pub Cleared-reached : (n : ℕ) (old new : Chart) → Cleared n old new → Reached n old new
Cleared-reached n old new c = record { on = c.on; shape = c.shape; magic = ap (λ (f : Fields). f.magic) c.fields; counted = c.counted }
