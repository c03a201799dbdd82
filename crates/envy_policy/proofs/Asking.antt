-- The search for a position that isn't taken asks at most six times: each that it passes is another of the five
-- that may be taken.
use Rattle.std.proofs.Common.{◌≡◌, inl, inr, ℕ, ◌+◌, ◌<◌, ◌≤◌, Option, None, Some, slice_index, subst, sym, arith}
use Rattle.std.specs.Prelude.{nat_lt, if◌then◌else◌}
use Rattle.std.proofs.lemmas.Bool.{cases_lt, lt-ltb, le-ltb}
use Rattle.envy_policy.specs.declared.class.Class.{Class}
use Rattle.envy_policy.specs.declared.class.Class.TheVariants.{Brief, Short, Long, Lasting}
use Rattle.envy_policy.specs.Lifetime.{RowCounts, IsFresh, IsLowest, IsTaken}
use Rattle.envy_policy.specs.Notes.{Notes, open_for}

-- whether the position lies at the start or beyond
abbrev pub ahead : Option ℕ → ℕ → ℕ
ahead None start = 0
ahead (Some position) start = if nat_lt position start then 0 else 1

-- how many of the five lie there
abbrev pub taken_from : Notes → Option ℕ → ℕ → ℕ
taken_from n emptied start =
    ahead emptied start + ahead n.opened.brief start + ahead n.opened.short start + ahead n.opened.long start + ahead n.opened.lasting start

ahead-falls : (o : Option ℕ) (start later : ℕ) → start ≤ later → ahead o later ≤ ahead o start
ahead-falls None start later up = omega arith
ahead-falls (Some k) start later up = elim (cases_lt k start) [
  | inl before ↦ rw (lt-ltb k start before, lt-ltb k later (omega arith)) (omega arith)
  | inr beyond ↦ elim (cases_lt k later) [
    | inl passed ↦ rw (le-ltb k start beyond, lt-ltb k later passed) (omega arith)
    | inr still ↦ rw (le-ltb k start beyond, le-ltb k later still) (omega arith)
  ]
]

ahead-passed : (o : Option ℕ) (start position : ℕ) → o ≡ Some position → start ≤ position → ahead o (position + 1) < ahead o start
ahead-passed o start position is low = subst (λ (x : Option ℕ). ahead x (position + 1) < ahead x start) (sym is) (rw (le-ltb position start low, lt-ltb position (position + 1) (omega arith)) (omega arith))

-- fewer positions are taken behind one that is
pub taken-passed : (n : Notes) (emptied : Option ℕ) (start position : ℕ) → start ≤ position → IsTaken n emptied position → taken_from n emptied (position + 1) < taken_from n emptied start
taken-passed n emptied start position low taken = elim taken [
  | inl is ↦ let less = ahead-passed emptied start position is low in omega (arith, brief, short, long, lasting)
  | inr held ↦ by_class held.0 held.1
] where
  others : ahead emptied (position + 1) ≤ ahead emptied start
  others = ahead-falls emptied start (position + 1) (omega arith)

  brief : ahead n.opened.brief (position + 1) ≤ ahead n.opened.brief start
  brief = ahead-falls n.opened.brief start (position + 1) (omega arith)

  short : ahead n.opened.short (position + 1) ≤ ahead n.opened.short start
  short = ahead-falls n.opened.short start (position + 1) (omega arith)

  long : ahead n.opened.long (position + 1) ≤ ahead n.opened.long start
  long = ahead-falls n.opened.long start (position + 1) (omega arith)

  lasting : ahead n.opened.lasting (position + 1) ≤ ahead n.opened.lasting start
  lasting = ahead-falls n.opened.lasting start (position + 1) (omega arith)

  by_class : (class : Class) → open_for n.opened class ≡ Some position → taken_from n emptied (position + 1) < taken_from n emptied start
  by_class Brief is = let less = ahead-passed n.opened.brief start position is low in omega (arith, others, short, long, lasting)
  by_class Short is = let less = ahead-passed n.opened.short start position is low in omega (arith, others, brief, long, lasting)
  by_class Long is = let less = ahead-passed n.opened.long start position is low in omega (arith, others, brief, short, lasting)
  by_class Lasting is = let less = ahead-passed n.opened.lasting start position is low in omega (arith, others, brief, short, long)

-- one more position is looked at
pub fresh-passed : (n : Notes) (rows : RowCounts) (emptied : Option ℕ) (start position : ℕ) → ((k : ℕ) → k < start → IsFresh n rows emptied k → ⊥) → IsLowest (λ k. (start ≤ k) × (0 < slice_index rows.free k)) position → IsTaken n emptied position → (k : ℕ) → k < position + 1 → IsFresh n rows emptied k → ⊥
fresh-passed n rows emptied start position none first taken k below fresh = elim (cases_lt k start) [
  | inl before ↦ none k before fresh
  | inr beyond ↦
      let low = first.least k (beyond, fresh.0) in
      let same : position ≡ k = omega arith in
      fresh.1 (subst (λ (x : ℕ). IsTaken n emptied x) same taken)
]

-- none is fresh below the first that is looked at
pub none-before : (P : ℕ → Type 0) (k : ℕ) → k < 0 → P k → ⊥
none-before P k below is = absurd (omega arith)

-- where no free row is left to look at, none is fresh
pub none-fresh : (n : Notes) (rows : RowCounts) (emptied : Option ℕ) (start : ℕ) → ((k : ℕ) → k < start → IsFresh n rows emptied k → ⊥) → ((k : ℕ) → start ≤ k → slice_index rows.free k ≡ 0) → (k : ℕ) → IsFresh n rows emptied k → ⊥
none-fresh n rows emptied start none zero k fresh = elim (cases_lt k start) [
  | inl before ↦ none k before fresh
  | inr beyond ↦ omega (arith, zero k beyond, fresh.0)
]
