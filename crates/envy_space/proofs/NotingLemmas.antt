-- Pools that follow the place or the undo of a page.
use Rattle.std.proofs.Common.{◌≡◌, ◌⊎◌, inl, inr, None, ℕ, ◌+◌, ◌-◌, ◌/◌, ◌<◌, ◌≤◌, List, length, get_or, set, Option, refl, sym, ◌∙◌, ap, subst, arith}
use Rattle.std.proofs.lemmas.Bool.{cases_eq, eq-eqb, ne_eqb}
use Rattle.std.proofs.lemmas.List.{get_or-set_same, get_or-set_other, length-set}
use Rattle.envy_base.specs.declared.shape.Shape.{Shape}
use Rattle.envy_base.specs.declared.fields.Slot.{Slot}
use Rattle.envy_map.specs.Fields.{Fields, place, undo}
use Rattle.envy_soundness.specs.PageRows.{page_kept_in}
use Rattle.envy_soundness.specs.RowKinds.{kept_in}
use Rattle.envy_soundness.specs.Sound.{Sound}
use Rattle.envy_soundness.proofs.KeptCounts.{kept_in-page, kept_in-pages, kept_in-le-fill}
use Rattle.envy_soundness.proofs.RangeSums.{range_has}
use Rattle.envy_space.specs.Noting.{rows_of_page, lies_in, ChangesPage, NamesAsMany, NamesOneMore, NamesInPlace}
use Rattle.envy_space.specs.Pool.{Pool, PoolAgrees, with_kept, noted_kept, noted_dead}
use Rattle.envy_space.proofs.CountLemmas.{risen, segment_fits}

-- the kept rows of the map change by those of the page
kept_in-changed : (sh : Shape) (f g : Fields) (p : ℕ) (pool : Pool) (s : ℕ) → ChangesPage sh f g p pool → kept_in sh g.slots g.undos g.places s + rows_of_page sh f p s ≡ kept_in sh f.slots f.undos f.places s + rows_of_page sh g p s
kept_in-changed sh f g p pool s changes =
    let step = kept_in-page sh f.slots f.undos g.undos f.places g.places p s changes.page changes.undos changes.places in
    let all : kept_in sh g.slots g.undos g.places s ≡ kept_in sh f.slots g.undos g.places s = ap (λ (x : List (Option Slot)). kept_in sh x g.undos g.places s) changes.slots in
    let own : rows_of_page sh g p s ≡ page_kept_in sh f.slots (undo g p) (place g p) s = ap (λ (x : List (Option Slot)). page_kept_in sh x (undo g p) (place g p) s) changes.slots in
    omega arith

-- and so do those of the pool
PoolAgrees-page : (sh : Shape) (f g : Fields) (p : ℕ) (pool : Pool) (kept : List ℕ) → ChangesPage sh f g p pool → length kept ≡ sh.segments → ((s : ℕ) → s < sh.segments → get_or kept s 0 + rows_of_page sh f p s ≡ get_or pool.kept s 0 + rows_of_page sh g p s) → PoolAgrees sh g (record pool { kept = kept })
PoolAgrees-page sh f g p pool kept changes long each = record {
  shape = changes.agrees.shape;
  fills = changes.agrees.fills ∙ sym changes.fills;
  positions = changes.agrees.positions ∙ sym changes.positions;
  long = long;
  kept = λ s lt. let was = changes.agrees.kept s lt in let now = kept_in-changed sh f g p pool s changes in let own = each s lt in omega arith;
}

pub PoolAgrees-same : (sh : Shape) (f g : Fields) (p : ℕ) (pool : Pool) → ChangesPage sh f g p pool → NamesAsMany sh f g p → PoolAgrees sh g pool
PoolAgrees-same sh f g p pool changes same = PoolAgrees-page sh f g p pool pool.kept changes changes.agrees.long (λ s lt. let e = same s in omega arith)

lies_in-same : (sh : Shape) (q s : ℕ) → q / sh.rows ≡ s → lies_in sh q s ≡ 1
lies_in-same sh q s same = rw (eq-eqb (q / sh.rows) s same) refl

lies_in-other : (sh : Shape) (q s : ℕ) → (q / sh.rows ≡ s → ⊥) → lies_in sh q s ≡ 0
lies_in-other sh q s other = rw (ne_eqb (q / sh.rows) s other) refl

-- a number that falls by one
fallen : (sh : Shape) (xs : List ℕ) (q s : ℕ) → q / sh.rows < length xs → 0 < get_or xs (q / sh.rows) 0 → get_or (set xs (q / sh.rows) (get_or xs (q / sh.rows) 0 - 1)) s 0 + lies_in sh q s ≡ get_or xs s 0
fallen sh xs q s lt some = at (cases_eq (q / sh.rows) s)
  where
    at : (q / sh.rows ≡ s) ⊎ (q / sh.rows ≡ s → ⊥) → get_or (set xs (q / sh.rows) (get_or xs (q / sh.rows) 0 - 1)) s 0 + lies_in sh q s ≡ get_or xs s 0
    at (inl same) =
        let here : get_or (set xs (q / sh.rows) (get_or xs (q / sh.rows) 0 - 1)) s 0 ≡ get_or xs (q / sh.rows) 0 - 1 =
        ap (λ (t : ℕ). get_or (set xs (q / sh.rows) (get_or xs (q / sh.rows) 0 - 1)) t 0) (sym same) ∙ get_or-set_same xs (q / sh.rows) (get_or xs (q / sh.rows) 0 - 1) 0 lt in
        let was : get_or xs s 0 ≡ get_or xs (q / sh.rows) 0 = ap (λ (t : ℕ). get_or xs t 0) (sym same) in
        let one = lies_in-same sh q s same in
        omega arith
    at (inr other) =
        let here = get_or-set_other xs (q / sh.rows) s (get_or xs (q / sh.rows) 0 - 1) 0 (λ e. other (sym e)) in
        let none = lies_in-other sh q s other in
        omega arith

-- the pool's own rows are the board's
own_rows : (sh : Shape) (q : ℕ) (pool : Pool) → pool.shape ≡ sh → noted_kept q pool ≡ with_kept (q / sh.rows) (get_or pool.kept (q / sh.rows) 0 + 1) pool
own_rows sh q pool shape = ap (λ (x : Shape). with_kept (q / x.rows) (get_or pool.kept (q / x.rows) 0 + 1) pool) shape

own_rows_dead : (sh : Shape) (q : ℕ) (pool : Pool) → pool.shape ≡ sh → noted_dead q pool ≡ with_kept (q / sh.rows) (get_or pool.kept (q / sh.rows) 0 - 1) pool
own_rows_dead sh q pool shape = ap (λ (x : Shape). with_kept (q / x.rows) (get_or pool.kept (q / x.rows) 0 - 1) pool) shape

pub PoolAgrees-kept : (sh : Shape) (f g : Fields) (p q : ℕ) (pool : Pool) → ChangesPage sh f g p pool → NamesOneMore sh f g p q → PoolAgrees sh g (noted_kept q pool)
PoolAgrees-kept sh f g p q pool changes names =
    let low = segment_fits sh q names.range in
    let long = changes.agrees.long in
    subst (λ (x : Pool). PoolAgrees sh g x) (sym (own_rows sh q pool changes.agrees.shape))
    (PoolAgrees-page sh f g p pool (set pool.kept (q / sh.rows) (get_or pool.kept (q / sh.rows) 0 + 1)) changes (length-set pool.kept (q / sh.rows) _ ∙ long)
    (λ s lt. let rise : get_or (set pool.kept (q / sh.rows) (get_or pool.kept (q / sh.rows) 0 + 1)) s 0 ≡ get_or pool.kept s 0 + lies_in sh q s = risen pool.kept (q / sh.rows) s (omega arith) in let more = names.more s in omega arith))

pub room-kept : (sh : Shape) (f g : Fields) (flash : List (List ℕ)) (p q : ℕ) (pool : Pool) → ChangesPage sh f g p pool → NamesOneMore sh f g p q → Sound sh g flash → get_or pool.kept (q / sh.rows) 0 < get_or pool.fills (q / sh.rows) 0
room-kept sh f g flash p q pool changes names sound =
    let s = q / sh.rows in
    let was = changes.agrees.kept s (segment_fits sh q names.range) in
    let now = kept_in-changed sh f g p pool s changes in
    let more = names.more s in
    let one = lies_in-same sh q s refl in
    let fit = kept_in-le-fill sh g.slots g.undos g.places g.fills g.backs s (Sound.rows sound) in
    let fills : get_or pool.fills s 0 ≡ get_or g.fills s 0 = ap (λ (xs : List ℕ). get_or xs s 0) (changes.agrees.fills ∙ sym changes.fills) in
    omega arith

some-dead : (sh : Shape) (f g : Fields) (p q : ℕ) (pool : Pool) → ChangesPage sh f g p pool → NamesOneMore sh g f p q → 0 < get_or pool.kept (q / sh.rows) 0
some-dead sh f g p q pool changes names =
    let s = q / sh.rows in
    let was = changes.agrees.kept s (segment_fits sh q names.range) in
    let now = kept_in-changed sh f g p pool s changes in
    let more = names.more s in
    let one = lies_in-same sh q s refl in
    omega arith

pub PoolAgrees-dead : (sh : Shape) (f g : Fields) (p q : ℕ) (pool : Pool) → ChangesPage sh f g p pool → NamesOneMore sh g f p q → (0 < get_or pool.kept (q / sh.rows) 0) × PoolAgrees sh g (noted_dead q pool)
PoolAgrees-dead sh f g p q pool changes names =
    let low = segment_fits sh q names.range in
    let long = changes.agrees.long in
    let some = some-dead sh f g p q pool changes names in (
      some,
      subst (λ (x : Pool). PoolAgrees sh g x) (sym (own_rows_dead sh q pool changes.agrees.shape))
          (PoolAgrees-page sh f g p pool (set pool.kept (q / sh.rows) (get_or pool.kept (q / sh.rows) 0 - 1)) changes (length-set pool.kept (q / sh.rows) _ ∙ long)
          (λ s lt. let fall = fallen sh pool.kept q s (omega arith) some in let more = names.more s in omega arith)),
    )

-- a segment has at least the kept rows that one page names in it
page-le-kept_in : (sh : Shape) (f : Fields) (p s : ℕ) → p < sh.pages → rows_of_page sh f p s ≤ kept_in sh f.slots f.undos f.places s
page-le-kept_in sh f p s lt =
    let all = kept_in-pages sh f.slots f.undos f.places s in
    let one = range_has (λ r. page_kept_in sh f.slots (get_or f.undos r None) (get_or f.places r None) s) sh.pages p lt in
    omega arith

pub PoolAgrees-moved : (sh : Shape) (f g : Fields) (flash : List (List ℕ)) (p r q : ℕ) (pool : Pool) → ChangesPage sh f g p pool → NamesInPlace sh f g p r q → Sound sh g flash
    → (0 < get_or pool.kept (r / sh.rows) 0) × (get_or (noted_dead r pool).kept (q / sh.rows) 0 < get_or pool.fills (q / sh.rows) 0) × PoolAgrees sh g (noted_kept q (noted_dead r pool))
PoolAgrees-moved sh f g flash p r q pool changes names sound = (
  some,
  subst (λ (x : Pool). get_or x.kept (q / sh.rows) 0 < get_or pool.fills (q / sh.rows) 0) (sym dead_is) room,
  subst (λ (x : Pool). PoolAgrees sh g x) (sym (ap (noted_kept q) dead_is ∙ own_rows sh q (with_kept (r / sh.rows) (get_or pool.kept (r / sh.rows) 0 - 1) pool) changes.agrees.shape))
      (PoolAgrees-page sh f g p pool (set fewer (q / sh.rows) (get_or fewer (q / sh.rows) 0 + 1)) changes (length-set fewer (q / sh.rows) _ ∙ long)
      (λ s lt.
      let rise : get_or (set fewer (q / sh.rows) (get_or fewer (q / sh.rows) 0 + 1)) s 0 ≡ get_or fewer s 0 + lies_in sh q s = risen fewer (q / sh.rows) s (rw long low) in
      let fall = falls s in
      let before = names.before s in
      let after = names.after s in
      omega arith)),
)
  where
    low : q / sh.rows < sh.segments
    low = segment_fits sh q names.range

    dead_is : noted_dead r pool ≡ with_kept (r / sh.rows) (get_or pool.kept (r / sh.rows) 0 - 1) pool
    dead_is = own_rows_dead sh r pool changes.agrees.shape

    fewer : List ℕ
    fewer = set pool.kept (r / sh.rows) (get_or pool.kept (r / sh.rows) 0 - 1)

    long : length (set pool.kept (r / sh.rows) (get_or pool.kept (r / sh.rows) 0 - 1)) ≡ sh.segments
    long = length-set pool.kept (r / sh.rows) _ ∙ changes.agrees.long

    some : 0 < get_or pool.kept (r / sh.rows) 0
    some =
        let was = changes.agrees.kept (r / sh.rows) (segment_fits sh r names.old_range) in
        let all = page-le-kept_in sh f p (r / sh.rows) changes.page in
        let before = names.before (r / sh.rows) in
        let one = lies_in-same sh r (r / sh.rows) refl in
        omega arith

    falls : (s : ℕ) → get_or (set pool.kept (r / sh.rows) (get_or pool.kept (r / sh.rows) 0 - 1)) s 0 + lies_in sh r s ≡ get_or pool.kept s 0
    falls s = fallen sh pool.kept r s (rw changes.agrees.long (segment_fits sh r names.old_range)) some

    room : get_or (set pool.kept (r / sh.rows) (get_or pool.kept (r / sh.rows) 0 - 1)) (q / sh.rows) 0 < get_or pool.fills (q / sh.rows) 0
    room =
        let was = changes.agrees.kept (q / sh.rows) low in
        let now = kept_in-changed sh f g p pool (q / sh.rows) changes in
        let fall = falls (q / sh.rows) in
        let before = names.before (q / sh.rows) in
        let after = names.after (q / sh.rows) in
        let one = lies_in-same sh q (q / sh.rows) refl in
        let fit = kept_in-le-fill sh g.slots g.undos g.places g.fills g.backs (q / sh.rows) (Sound.rows sound) in
        let fills : get_or pool.fills (q / sh.rows) 0 ≡ get_or g.fills (q / sh.rows) 0 = ap (λ (xs : List ℕ). get_or xs (q / sh.rows) 0) (changes.agrees.fills ∙ sym changes.fills) in
        omega arith
