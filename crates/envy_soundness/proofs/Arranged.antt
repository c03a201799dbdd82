-- The positions of a new map: the good segments but the last, then those set aside.
use Rattle.std.proofs.Common.{◌≡◌, ◌⊎◌, inl, inr, ℕ, ◌+◌, ◌-◌, ◌<◌, ◌≤◌, Bool, true, false, cond, not, List, ◌++◌, length, get_or, take, set, refl, sym, ◌∙◌, ap, subst, arith}
use Rattle.std.specs.Prelude.{IsTrue, min, ◌==◌}
use Rattle.std.proofs.lemmas.Bool.{cases_lt, eq-eqb}
use Rattle.std.proofs.lemmas.List.{length-append, length-take, get_or_append_left, get_or-append_right, get_or-take, get_or-set_same, get_or-set_other}
use Rattle.std.proofs.lemmas.List.Edits.{paste_none, paste_more}
use Rattle.envy_base.specs.Shape.{all_positions_of}
use Rattle.envy_base.specs.declared.shape.Shape.{Shape}
use Rattle.envy_map.specs.Fields.{Fields, Chart, with_fields}
use Rattle.envy_map.specs.Writes.{pasted, with_position}
use Rattle.envy_soundness.specs.Formatting.{IsStopped, is_aside, is_kind, kind_of, aside, aside_of, good, laid_out, LaysNext, with_kind_laid, with_positions_laid}
use Rattle.envy_soundness.proofs.Laying.{Reached-refl, Reached-fields, Reached-stops}
use Rattle.envy_soundness.proofs.Ranks.{passed, Ranked, passed-at, passed-find, count-more, passed-same, passed-none, counts-both, pasted-both}

pub both-counts : (sh : Shape) (fills : List ℕ) → length (aside sh fills) + length (good sh fills) ≡ sh.segments
both-counts sh fills = counts-both (λ s. is_aside sh fills s) sh.segments

pub length-laid : (sh : Shape) (fills : List ℕ) → length (aside sh fills) < sh.segments → length (laid_out sh fills) ≡ all_positions_of sh
length-laid sh fills few =
    let both = both-counts sh fills in
    omega (arith, length-append (take (length (good sh fills) - 1) (good sh fills)) (aside sh fills), length-take (length (good sh fills) - 1) (good sh fills))

-- segment v stands at position k, among the good ones or behind them
pub data LaidAt (sh : Shape) (fills : List ℕ) (k v : ℕ) : Type 0 where
  InFront : k < length (good sh fills) - 1 → Ranked (λ s. not (is_aside sh fills s)) sh.segments k v → LaidAt sh fills k v
  Behind : length (good sh fills) - 1 ≤ k → Ranked (λ s. is_aside sh fills s) sh.segments (k - (length (good sh fills) - 1)) v → LaidAt sh fills k v

pub laid-at : (sh : Shape) (fills : List ℕ) (k : ℕ) → length (aside sh fills) < sh.segments → k < all_positions_of sh → LaidAt sh fills k (get_or (laid_out sh fills) k 0)
laid-at sh fills k few lt = at (cases_lt k (length (good sh fills) - 1))
  where
    front : List ℕ
    front = take (length (good sh fills) - 1) (good sh fills)

    long : length front ≡ length (good sh fills) - 1
    long = omega (arith, length-take (length (good sh fills) - 1) (good sh fills))

    at : (k < length (good sh fills) - 1) ⊎ (length (good sh fills) - 1 ≤ k) → LaidAt sh fills k (get_or (laid_out sh fills) k 0)
    at (inl low) =
        let here : get_or (laid_out sh fills) k 0 ≡ get_or (good sh fills) k 0 = get_or_append_left front (aside sh fills) 0 k (omega (arith, long)) ∙ get_or-take (length (good sh fills) - 1) (good sh fills) k 0 low in
        subst (λ (v : ℕ). LaidAt sh fills k v) (sym here) (InFront low (passed-at (λ s. not (is_aside sh fills s)) sh.segments k (omega arith)))
    at (inr high) =
        let there : get_or (laid_out sh fills) k 0 ≡ get_or (aside sh fills) (k - (length (good sh fills) - 1)) 0 = get_or-append_right front (aside sh fills) (length (good sh fills) - 1) k 0 long high in
        subst (λ (v : ℕ). LaidAt sh fills k v) (sym there) (Behind high (passed-at (λ s. is_aside sh fills s) sh.segments (k - (length (good sh fills) - 1)) (let both = both-counts sh fills in omega arith)))

laid-below : (sh : Shape) (fills : List ℕ) (k v : ℕ) → LaidAt sh fills k v → v < sh.segments
laid-below sh fills k v (InFront low r) = r.below
laid-below sh fills k v (Behind high r) = r.below

pub laid-fits : (sh : Shape) (fills : List ℕ) (k : ℕ) → length (aside sh fills) < sh.segments → k < all_positions_of sh → get_or (laid_out sh fills) k 0 < sh.segments
laid-fits sh fills k few lt = laid-below sh fills k _ (laid-at sh fills k few lt)

one-kind : (b : Bool) → not b ≡ true → b ≡ true → ⊥
one-kind true other passes = cc
one-kind false other passes = cc

laid-one : (sh : Shape) (fills : List ℕ) (i j v : ℕ) → LaidAt sh fills i v → LaidAt sh fills j v → i ≡ j
laid-one sh fills i j v (InFront low r) (InFront less t) = r.rank ∙ sym t.rank
laid-one sh fills i j v (InFront low r) (Behind high t) = absurd (one-kind (is_aside sh fills v) r.passes t.passes)
laid-one sh fills i j v (Behind high r) (InFront low t) = absurd (one-kind (is_aside sh fills v) t.passes r.passes)
laid-one sh fills i j v (Behind high r) (Behind more t) = let a = r.rank in let b = t.rank in omega arith

pub laid-apart : (sh : Shape) (fills : List ℕ) (i j : ℕ) → length (aside sh fills) < sh.segments → i < all_positions_of sh → j < all_positions_of sh → get_or (laid_out sh fills) i 0 ≡ get_or (laid_out sh fills) j 0 → i ≡ j
laid-apart sh fills i j few li lj same =
    laid-one sh fills i j (get_or (laid_out sh fills) j 0) (subst (λ (v : ℕ). LaidAt sh fills i v) same (laid-at sh fills i few li)) (laid-at sh fills j few lj)

-- a segment that was set aside stands at a position
pub laid-aside : (sh : Shape) (fills : List ℕ) (s : ℕ) → length (aside sh fills) < sh.segments → s < sh.segments → is_aside sh fills s ≡ true → (k : ℕ) × (k < all_positions_of sh) × (get_or (laid_out sh fills) k 0 ≡ s)
laid-aside sh fills s few lt passes =
    let found = passed-find (λ r. is_aside sh fills r) sh.segments s lt passes in
    let both = both-counts sh fills in
    let room = found.room in
    let long : length (take (length (good sh fills) - 1) (good sh fills)) ≡ length (good sh fills) - 1 = omega (arith, length-take (length (good sh fills) - 1) (good sh fills)) in
    let at : length (good sh fills) - 1 + length (passed (λ r. is_aside sh fills r) s) - (length (good sh fills) - 1) ≡ length (passed (λ r. is_aside sh fills r) s) = omega arith in (
      length (good sh fills) - 1 + length (passed (λ r. is_aside sh fills r) s),
      omega arith,
      get_or-append_right (take (length (good sh fills) - 1) (good sh fills)) (aside sh fills) (length (good sh fills) - 1) (length (good sh fills) - 1 + length (passed (λ r. is_aside sh fills r) s)) 0 long (omega arith)
          ∙ ap (λ (n : ℕ). get_or (aside sh fills) n 0) at ∙ found.here,
    )

-- the segments at the positions of a new map of which none was set aside
none-aside : (sh : Shape) (fills : List ℕ) (s : ℕ) → length (aside sh fills) ≡ 0 → s < sh.segments → is_aside sh fills s ≡ false
none-aside sh fills s empty lt = at (is_aside sh fills s) refl
  where
    at : (b : Bool) → is_aside sh fills s ≡ b → is_aside sh fills s ≡ false
    at true is = let found = passed-find (λ r. is_aside sh fills r) sh.segments s lt is in let room = found.room in absurd (omega arith)
    at false is = is

pub plain-fill : (sh : Shape) (fills : List ℕ) (s : ℕ) → length (aside sh fills) ≡ 0 → s < sh.segments → (get_or fills s 0 ≡ 0) ⊎ (get_or fills s 0 ≡ sh.rows) → get_or fills s 0 ≡ 0
plain-fill sh fills s empty lt (inl none) = none
plain-fill sh fills s empty lt (inr all) = let differ = none-aside sh fills s empty lt in let same : is_aside sh fills s ≡ true = eq-eqb (get_or fills s 0) sh.rows all in absurd cc

pub laid-plain : (sh : Shape) (fills : List ℕ) (k : ℕ) → length (aside sh fills) ≡ 0 → k < all_positions_of sh → get_or (laid_out sh fills) k 0 ≡ k
laid-plain sh fills k empty lt = at (laid-at sh fills k (omega arith) lt)
  where
    at : LaidAt sh fills k (get_or (laid_out sh fills) k 0) → get_or (laid_out sh fills) k 0 ≡ k
    at (InFront low r) =
        let v : ℕ = get_or (laid_out sh fills) k 0 in
        let below = r.below in
        let rank = r.rank in
        let both = counts-both (λ s. is_aside sh fills s) v in
        let none : length (passed (λ s. is_aside sh fills s) v) ≡ 0 = ap length (passed-same (λ s. is_aside sh fills s) (λ s. false) v (λ s lt. none-aside sh fills s empty (omega arith))) ∙ passed-none v in
        omega arith
    at (Behind high r) = let both = both-counts sh fills in absurd (omega arith)

-- Of the segments before number n, those of the kind stand at the positions from one on, as far as there are any until another.
pub record ArrangedTo (kind : Bool) (start end n at : ℕ) (old now : Chart) : Type 0 where
  pub is : now ≡ with_fields old (record old.fields { positions = pasted old.fields.positions start (kind_of kind old.shape old.fields.fills old.shape.segments) (at - start) })
  pub on : IsTrue old.on
  pub low : start ≤ at
  pub count : at - start ≡ min (length (kind_of kind old.shape old.fields.fills n)) (end - start)

pub Arranged-none : (kind : Bool) (start end : ℕ) (c : Chart) → IsTrue c.on → ArrangedTo kind start end 0 start c c
Arranged-none kind start end c on = record {
  is = ap (λ (xs : List ℕ). with_fields c (record c.fields { positions = xs })) (paste_none c.fields.positions start (kind_of kind c.shape c.fields.fills c.shape.segments) ∙ ap (λ (n : ℕ). pasted c.fields.positions start (kind_of kind c.shape c.fields.fills c.shape.segments) n) zero);
  on = on;
  low = omega arith;
  count = omega arith;
}
  where
    zero : 0 ≡ start - start
    zero = omega arith

Arranged-put : (kind : Bool) (start end n at : ℕ) (old now new : Chart) → end ≤ length old.fields.positions → n < old.shape.segments → ArrangedTo kind start end n at old now → is_kind kind old.shape old.fields.fills n ≡ true → at < end → new ≡ with_fields now (with_position at n now.fields) → ArrangedTo kind start end (n + 1) (at + 1) old new
Arranged-put kind start end n at old now new fits lt so passes before put =
    let i : ℕ = at - start in
    let count = so.count in
    let low = so.low in
    let found = passed-find p old.shape.segments n lt passes in
    let all : i ≡ length (passed p n) = omega arith in
    let room : i < length kinds = let r = found.room in omega arith in
    let here : get_or kinds i 0 ≡ n = ap (λ (k : ℕ). get_or kinds k 0) all ∙ found.here in
    let there : start + i ≡ at = omega arith in
    let next : i + 1 ≡ at + 1 - start = omega arith in
    let longer : length (passed p (n + 1)) ≡ length (passed p n) + 1 = count-more p n ∙ ap (λ (b : Bool). length (passed p n) + cond b 1 0) passes in
    let step : set (pasted old.fields.positions start kinds i) at n ≡ pasted old.fields.positions start kinds (at + 1 - start) =
    ap (λ (k : ℕ). set (pasted old.fields.positions start kinds i) k n) (sym there)
    ∙ ap (λ (v : ℕ). set (pasted old.fields.positions start kinds i) (start + i) v) (sym here)
    ∙ paste_more old.fields.positions start kinds i 0 (omega arith) room
    ∙ ap (pasted old.fields.positions start kinds) next in
    record {
      is = put ∙ ap (λ (c : Chart). with_fields c (with_position at n c.fields)) so.is ∙ ap (λ (xs : List ℕ). with_fields old (record old.fields { positions = xs })) step;
      on = so.on;
      low = omega arith;
      count = omega arith;
    }
  where
    p : ℕ → Bool
    p = λ s. is_kind kind old.shape old.fields.fills s

    kinds : List ℕ
    kinds = passed p old.shape.segments

-- the segment is of the other kind, or no position is left
Arranged-same : (kind : Bool) (start end n at : ℕ) (old now new : Chart) → ArrangedTo kind start end n at old now → (is_kind kind old.shape old.fields.fills n ≡ false) ⊎ (end ≤ at) → new ≡ now → ArrangedTo kind start end (n + 1) at old new
Arranged-same kind start end n at old now new so why same = record { is = same ∙ so.is; on = so.on; low = so.low; count = stays why }
  where
    p : ℕ → Bool
    p = λ s. is_kind kind old.shape old.fields.fills s

    stays : (is_kind kind old.shape old.fields.fills n ≡ false) ⊎ (end ≤ at) → at - start ≡ min (length (passed p (n + 1))) (end - start)
    stays (inl other) =
        let longer : length (passed p (n + 1)) ≡ length (passed p n) + 0 = count-more p n ∙ ap (λ (b : Bool). length (passed p n) + cond b 1 0) other in
        let count = so.count in omega arith
    stays (inr past) =
        let longer = count-more p n in
        let count = so.count in
        let low = so.low in omega arith

pub Arranged-next : (kind : Bool) (start end n at next : ℕ) (old now new : Chart) → end ≤ length old.fields.positions → n < old.shape.segments → ArrangedTo kind start end n at old now → LaysNext kind n at end now next new → ArrangedTo kind start end (n + 1) next old new
Arranged-next kind start end n at next old now new fits lt so (inl (passes, before, is, put)) =
    subst (λ (k : ℕ). ArrangedTo kind start end (n + 1) k old new) (sym is)
    (Arranged-put kind start end n at old now new fits lt so (subst (λ (c : Chart). is_kind kind c.shape c.fields.fills n ≡ true) so.is passes) before put)
Arranged-next kind start end n at next old now new fits lt so (inr (why, is, same)) =
    subst (λ (k : ℕ). ArrangedTo kind start end (n + 1) k old new) (sym is) (Arranged-same kind start end n at old now new so (here why) same)
  where
    here : (is_kind kind now.shape now.fields.fills n ≡ false) ⊎ (end ≤ at) → (is_kind kind old.shape old.fields.fills n ≡ false) ⊎ (end ≤ at)
    here (inl other) = inl (subst (λ (c : Chart). is_kind kind c.shape c.fields.fills n ≡ false) so.is other)
    here (inr past) = inr past

pub Arranged-all : (kind : Bool) (start end at : ℕ) (old now : Chart) → ArrangedTo kind start end old.shape.segments at old now → now ≡ with_fields old (with_kind_laid kind old.shape start end old.fields)
Arranged-all kind start end at old now so =
    so.is ∙ ap (λ (n : ℕ). with_fields old (record old.fields { positions = pasted old.fields.positions start (kind_of kind old.shape old.fields.fills old.shape.segments) n })) so.count

pub Arranged-stops : (kind : Bool) (start end n at : ℕ) (old now new : Chart) → ArrangedTo kind start end n at old now → IsStopped 0 now new → IsStopped 0 old new
Arranged-stops kind start end n at old now new so s =
    Reached-stops 0 0 old now new (Reached-fields 0 old old now (record old.fields { positions = pasted old.fields.positions start (kind_of kind old.shape old.fields.fills old.shape.segments) (at - start) }) refl so.is (Reached-refl old so.on)) s

-- both kinds, one behind the other
pub laid-both : (sh : Shape) (f : Fields) (bads all : ℕ) → all ≡ all_positions_of sh → length f.positions ≡ all_positions_of sh → bads ≡ length (aside sh f.fills) → bads + 4 ≤ sh.segments → with_kind_laid true sh (all - bads) all (with_kind_laid false sh 0 (all - bads) f) ≡ with_positions_laid (laid_out sh f.fills) f
laid-both sh f bads all is long counted few =
    let both = both-counts sh f.fills in
    let first : min (length (good sh f.fills)) (all - bads - 0) ≡ all - bads = omega arith in
    let second : min (length (aside sh f.fills)) (all - (all - bads)) ≡ bads = omega arith in
    let last : all - bads ≡ length (good sh f.fills) - 1 = omega arith in
    ap (λ (xs : List ℕ). record f { positions = xs })
    (ap (λ (n : ℕ). pasted (pasted f.positions 0 (good sh f.fills) n) (all - bads) (aside sh f.fills) (min (length (aside sh f.fills)) (all - (all - bads)))) first
    ∙ ap (λ (n : ℕ). pasted (pasted f.positions 0 (good sh f.fills) (all - bads)) (all - bads) (aside sh f.fills) n) second
    ∙ pasted-both f.positions (good sh f.fills) (aside sh f.fills) (all - bads) bads (omega arith) (sym counted) (omega arith)
    ∙ ap (λ (n : ℕ). take n (good sh f.fills) ++ aside sh f.fills) last)

-- one more segment counts as set aside if its fill is that
pub aside-more : (sh : Shape) (fills : List ℕ) (n v : ℕ) → n < length fills → length (aside_of sh (set fills n v) (n + 1)) ≡ length (aside_of sh fills n) + cond (v == sh.rows) 1 0
aside-more sh fills n v lt =
    count-more (λ s. is_aside sh (set fills n v) s) n
    ∙ ap (λ (xs : List ℕ). length xs + cond (is_aside sh (set fills n v) n) 1 0) (passed-same (λ s. is_aside sh (set fills n v) s) (λ s. is_aside sh fills s) n (λ s low. ap (λ (x : ℕ). x == sh.rows) (get_or-set_other fills n s v 0 (omega arith))))
    ∙ ap (λ (x : ℕ). length (aside_of sh fills n) + cond (x == sh.rows) 1 0) (get_or-set_same fills n v 0 lt)
