-- The kept rows of a segment, found from its first row upward.
use Rattle.std.proofs.Common.{◌≡◌, ◌⊎◌, inl, inr, ℕ, ◌+◌, ◌*◌, ◌/◌, ◌%◌, ◌<◌, ◌≤◌, List, [], ◌∷◌, ◌++◌, length, get_or, Option, None, Some, is_some, true, false, sym, ◌∙◌, ap, subst, arith, length-append}
use Rattle.std.specs.Prelude.{All, Any}
use Rattle.std.proofs.Math.ListN.{get_or-append}
use Rattle.std.proofs.Math.Nat.{div-mul-le_self}
use Rattle.std.proofs.Math.Seq.{get_or-append_seam}
use Rattle.std.proofs.lemmas.Bool.{cases_lt}
use Rattle.envy_base.specs.declared.shape.Shape.{Shape}
use Rattle.envy_map.specs.Fields.{Fields, Chart}
use Rattle.envy_soundness.specs.Naming.{Keeps}
use Rattle.envy_soundness.specs.declared.rows.Kept.{Kept}
use Rattle.envy_soundness.proofs.NamingLemmas.{Names-named}
use Rattle.envy_soundness.specs.Sound.{Sound, IsSound, Rows, IsKept}
use Rattle.envy_engine.specs.Cleaning.{AreLowestKept}
use Rattle.envy_engine.proofs.CleanLemmas.{All-push}

-- these are the kept rows of segment v below row m
pub record Found (sh : Shape) (f : Fields) (v m : ℕ) (rows : List ℕ) : Type 0 where
  pub kept : All (λ q. (q / sh.rows ≡ v) × IsKept f q) rows
  pub rising : (i j : ℕ) → i < j → j < length rows → get_or rows i 0 < get_or rows j 0
  pub below : All (λ q. q < m) rows
  pub all : (q : ℕ) → q / sh.rows ≡ v → IsKept f q → q < m → Any (λ r. r ≡ q) rows

-- no row of a segment lies before its first
from-first : (n v q : ℕ) → q / n ≡ v → v * n ≤ q
from-first n v q own = subst (λ (x : ℕ). x * n ≤ q) own (div-mul-le_self q n)

pub Found-start : (sh : Shape) (f : Fields) (v : ℕ) → Found sh f v (v * sh.rows) []
Found-start sh f v = record {
  kept = λ k d lt. absurd (omega arith);
  rising = λ i j less lt. absurd (omega arith);
  below = λ k d lt. absurd (omega arith);
  all = λ q own kept lt. absurd (let le = from-first sh.rows v q own in omega arith);
}

Any-more : (rows : List ℕ) (m q : ℕ) → Any (λ r. r ≡ q) rows → Any (λ r. r ≡ q) (rows ++ m ∷ [])
Any-more rows m q (k, x, lt, at, is) = (k, x, (let long = length-append rows (m ∷ []) in omega arith), get_or-append rows (m ∷ []) x k lt ∙ at, is)

Any-last : (rows : List ℕ) (m q : ℕ) → m ≡ q → Any (λ r. r ≡ q) (rows ++ m ∷ [])
Any-last rows m q is = (length rows, m, (let long = length-append rows (m ∷ []) in omega arith), get_or-append_seam rows m [] m, is)

All-less : (rows : List ℕ) (m n : ℕ) → m ≤ n → All (λ q. q < m) rows → All (λ q. q < n) rows
All-less rows m n le all k d lt = let low = all k d lt in omega arith

-- the next row is kept
pub Found-kept : (sh : Shape) (f : Fields) (v m : ℕ) (rows : List ℕ) → m / sh.rows ≡ v → IsKept f m → Found sh f v m rows → Found sh f v (m + 1) (rows ++ m ∷ [])
Found-kept sh f v m rows own is found = record {
  kept = All-push (λ (q : ℕ). (q / sh.rows ≡ v) × IsKept f q) rows m found.kept (own, is);
  rising = λ i j less lt. at i j less lt (cases_lt j (length rows));
  below = All-push (λ (q : ℕ). q < m + 1) rows m (All-less rows m (m + 1) (omega arith) found.below) (omega arith);
  all = λ q mine kept lt. last q mine kept lt (cases_lt q m);
}
  where
    at : (i j : ℕ) → i < j → j < length (rows ++ m ∷ []) → (j < length rows) ⊎ (length rows ≤ j) → get_or (rows ++ m ∷ []) i 0 < get_or (rows ++ m ∷ []) j 0
    at i j less lt (inl low) =
        let a = get_or-append rows (m ∷ []) 0 i (omega arith) in
        let b = get_or-append rows (m ∷ []) 0 j low in
        let c = found.rising i j less low in
        omega arith
    at i j less lt (inr high) =
        let long = length-append rows (m ∷ []) in
        let end : j ≡ length rows = omega arith in
        let first : i < length rows = omega arith in
        let a = get_or-append rows (m ∷ []) 0 i first in
        let b : get_or (rows ++ m ∷ []) j 0 ≡ m = ap (λ (k : ℕ). get_or (rows ++ m ∷ []) k 0) end ∙ get_or-append_seam rows m [] 0 in
        let c : get_or rows i 0 < m = found.below i 0 first in
        omega arith

    last : (q : ℕ) → q / sh.rows ≡ v → IsKept f q → q < m + 1 → (q < m) ⊎ (m ≤ q) → Any (λ r. r ≡ q) (rows ++ m ∷ [])
    last q mine kept lt (inl low) = Any-more rows m q (found.all q mine kept low)
    last q mine kept lt (inr high) = Any-last rows m q (omega arith)

-- the next row isn't kept
pub Found-dead : (sh : Shape) (f : Fields) (v m : ℕ) (rows : List ℕ) → (IsKept f m → ⊥) → Found sh f v m rows → Found sh f v (m + 1) rows
Found-dead sh f v m rows dead found = record {
  kept = found.kept;
  rising = found.rising;
  below = All-less rows m (m + 1) (omega arith) found.below;
  all = λ q mine kept lt. at q mine kept lt (cases_lt q m);
}
  where
    at : (q : ℕ) → q / sh.rows ≡ v → IsKept f q → q < m + 1 → (q < m) ⊎ (m ≤ q) → Any (λ r. r ≡ q) rows
    at q mine kept lt (inl low) = found.all q mine kept low
    at q mine kept lt (inr high) = let same : q ≡ m = omega arith in absurd (dead (subst (λ (x : ℕ). IsKept f x) same kept))

-- four are found
pub Found-four : (sh : Shape) (f : Fields) (v m : ℕ) (rows : List ℕ) → length rows ≡ 4 → Found sh f v m rows → AreLowestKept sh f v rows
Found-four sh f v m rows four found = record {
  few = omega arith;
  kept = found.kept;
  rising = found.rising;
  all = λ q mine kept. at q mine kept (cases_lt q m);
}
  where
    at : (q : ℕ) → q / sh.rows ≡ v → IsKept f q → (q < m) ⊎ (m ≤ q) → Any (λ r. r ≡ q) rows ⊎ ((length rows ≡ 4) × All (λ r. r < q) rows)
    at q mine kept (inl low) = inl (found.all q mine kept low)
    at q mine kept (inr high) = inr (four, All-less rows m q high found.below)

-- a kept row lies below its segment's fill
in-fill : (c : Chart) (v q : ℕ) → IsSound c → q / c.shape.rows ≡ v → IsKept c.fields q → 0 < c.shape.rows → q < v * c.shape.rows + get_or c.fields.fills v 0
in-fill c v q sound own (p, names) some =
    let n = c.shape.rows in
    let low : q % n < get_or c.fields.fills v 0 = subst (λ (x : ℕ). q % n < get_or c.fields.fills x 0) own (Rows.filled (Sound.rows sound) p q names) in
    let whole : n * (q / n) + q % n ≡ q = omega arith in
    let there : n * v + q % n ≡ q = ap (λ (x : ℕ). n * x + q % n) (sym own) ∙ whole in
    let swap : n * v ≡ v * n = grind arith in
    omega arith

-- the whole segment was looked at
pub Found-whole : (c : Chart) (v m : ℕ) (rows : List ℕ) → IsSound c → 0 < c.shape.rows → v * c.shape.rows + get_or c.fields.fills v 0 ≤ m → length rows ≤ 4 → Found c.shape c.fields v m rows → AreLowestKept c.shape c.fields v rows
Found-whole c v m rows sound some end few found = record {
  few = few;
  kept = found.kept;
  rising = found.rising;
  all = λ q mine kept. let low = in-fill c v q sound mine kept some in inl (found.all q mine kept (omega arith));
}

-- what a row's owner says of it
pub kept-found : (sh : Shape) (f : Fields) (q : ℕ) (found : Option Kept) → Keeps sh f q found → is_some found ≡ true → IsKept f q
kept-found sh f q None keeps is = absurd (let no : false ≡ true = is in cc)
kept-found sh f q (Some kept) keeps is = (kept.page, Names-named f kept.page q kept.undo keeps.2)

pub dead-found : (sh : Shape) (f : Fields) (q : ℕ) (found : Option Kept) → Keeps sh f q found → is_some found ≡ false → IsKept f q → ⊥
dead-found sh f q None keeps is (p, names) = keeps p names
dead-found sh f q (Some kept) keeps is names = absurd (let no : true ≡ false = is in cc)
