-- What cleanings are worth, and the best of the positions below a bound.
use Rattle.std.proofs.Common.{zero, suc, Fits, ◌≡◌, ◌∙◌, refl, ap, inl, inr, ℕ, ◌+◌, ◌-◌, ◌*◌, ◌^◌, ◌<◌, ◌≤◌, Option, None, Some, MatchOption, length, slice_index, sym, subst, arith}
use Rattle.std.specs.Int.{w128}
use Rattle.std.specs.Option.{IsSomeAnd}
use Rattle.std.proofs.Math.Nat.{le_of_mul-le-mul_left}
use Rattle.std.proofs.lemmas.Nat.{mul-le}
use Rattle.std.proofs.lemmas.Bool.{cases_lt}
use Rattle.envy_policy.specs.declared.class.Class.{Class}
use Rattle.envy_policy.specs.declared.class.Class.TheVariants.{Brief, Short, Long, Lasting}
use Rattle.envy_policy.specs.declared.fraction.Fraction.{Fraction}
use Rattle.envy_policy.specs.declared.fraction.Weighed.{Weighed}
use Rattle.envy_policy.specs.Lifetime.{RowCounts, IsCounted, IsLowest, IsAtMost, IsFull, IsGreatest, IsBestBelow, IsVictim, aged, worth}
use Rattle.envy_policy.specs.Notes.{Notes, IsNotes, class_of}
use Rattle.envy_policy.proofs.Choosing.{rows-below}

at_most-trans : (a b c : Fraction) → 1 ≤ b.under → IsAtMost a b → IsAtMost b c → IsAtMost a c
at_most-trans a b c some low high =
    let first : (a.over * b.under) * c.under ≤ (b.over * a.under) * c.under = mul-le (a.over * b.under) c.under (b.over * a.under) c.under low (omega arith) in
    let second : (b.over * c.under) * a.under ≤ (c.over * b.under) * a.under = mul-le (b.over * c.under) a.under (c.over * b.under) a.under high (omega arith) in
    let whole : b.under * (a.over * c.under) ≤ b.under * (c.over * a.under) = grind arith in
    le_of_mul-le-mul_left whole some

-- no fraction here has nothing under it
pub worth-under : (n : Notes) (rows : RowCounts) (class : Class) (x : ℕ) → 1 ≤ (worth n rows class x).under
worth-under n rows Brief x = omega arith
worth-under n rows Short x = omega arith
worth-under n rows Long x = omega arith
worth-under n rows Lasting x = omega arith

-- their products fit 128 bits
pub record IsSmall (a : Fraction) : Type 0 where
  pub over : a.over ≤ 2 ^ 90
  pub under : a.under ≤ 2 ^ 26

aged-small : (n : Notes) (rows : RowCounts) (positions x : ℕ) → IsNotes n → IsCounted positions rows → IsSmall (aged n rows x)
aged-small n rows positions x whole counted =
    let dead = counted.few_dead x in
    let kept = counted.few_kept x in
    let clock = whole.clock in
    let product = mul-le (slice_index rows.dead x) (n.clock - slice_index n.cleaned x + 1) 16777216 (2 ^ 64) dead (omega arith) in
    record { over = omega arith; under = omega arith }

-- a worth stays far from the end of its type
pub worth-small : (n : Notes) (rows : RowCounts) (positions : ℕ) (class : Class) (x : ℕ) → IsNotes n → IsCounted positions rows → IsSmall (worth n rows class x)
worth-small n rows positions Brief x whole counted = let dead = counted.few_dead x in record { over = omega arith; under = omega arith }
worth-small n rows positions Short x whole counted = aged-small n rows positions x whole counted
worth-small n rows positions Long x whole counted = aged-small n rows positions x whole counted
worth-small n rows positions Lasting x whole counted = aged-small n rows positions x whole counted

-- what is read of a position for its age
pub record IsRead (n : Notes) (rows : RowCounts) (x dead clock since : ℕ) : Type 0 where
  pub is_dead : dead ≡ slice_index rows.dead x
  pub is_clock : clock ≡ n.clock
  pub is_since : since ≡ slice_index n.cleaned x

-- the worth of a position by what is read of it, for pages that aren't soon stored again
pub worth-read : (n : Notes) (rows : RowCounts) (class : Class) (x dead clock since kept : ℕ) → (class ≡ Brief → ⊥) → IsRead n rows x dead clock since → kept ≡ slice_index rows.kept x
    → record { over = dead * (clock - since + 1); under = 2 * kept + 1 } ≡ worth n rows class x
worth-read n rows Brief x dead clock since kept not r k = absurd (not refl)
worth-read n rows Short x dead clock since kept not r k = rw (r.is_dead, r.is_clock, r.is_since, k) refl
worth-read n rows Long x dead clock since kept not r k = rw (r.is_dead, r.is_clock, r.is_since, k) refl
worth-read n rows Lasting x dead clock since kept not r k = rw (r.is_dead, r.is_clock, r.is_since, k) refl

pub age-fits : (clock since : ℕ) → clock < 2 ^ 64 → Fits w128 (clock - since + 1)
age-fits clock since few = omega (arith, few)

pub over-fits : (over : ℕ) → over ≤ 2 ^ 90 → Fits w128 over
over-fits over few = omega (arith, few)

pub over-read : (n : Notes) (rows : RowCounts) (positions x dead clock since : ℕ) → IsNotes n → IsCounted positions rows → IsRead n rows x dead clock since → dead * (clock - since + 1) ≤ 2 ^ 90
over-read n rows positions x dead clock since whole counted r = rw (r.is_dead, r.is_clock, r.is_since) (aged-small n rows positions x whole counted).over

-- a position that isn't full changes nothing
pub best-passed : (end : ℕ) (n : Notes) (rows : RowCounts) (class : Class) (best : Option Weighed) → (IsFull rows end → ⊥) → IsBestBelow end n rows class best → IsBestBelow (end + 1) n rows class best
best-passed end n rows class None not is = λ x below full. elim (cases_lt x end) [
  | inl lower ↦ is x lower full
  | inr last ↦ let same : x ≡ end = omega arith in not (subst (λ (k : ℕ). IsFull rows k) same full)
]
best-passed end n rows class (Some best) not is = (
  is.0,
  record {
    holds = (let low = is.1.holds.0 in omega arith, is.1.holds.1);
    most = λ y has. is.1.most y (below y has, has.1);
    lowest = λ y has more. is.1.lowest y (below y has, has.1) more;
  },
) where
  below : (y : ℕ) → (y < end + 1) × IsFull rows y → y < end
  below y has = elim (cases_lt y end) [
    | inl lower ↦ lower
    | inr last ↦ let same : y ≡ end = (let low = has.0 in omega arith) in absurd (not (subst (λ (k : ℕ). IsFull rows k) same has.1))
  ]

-- the first full position is the best so far
pub best-first : (end : ℕ) (n : Notes) (rows : RowCounts) (class : Class) (best : Weighed) → best.position ≡ end → best.worth ≡ worth n rows class end → IsFull rows end → IsBestBelow end n rows class None → IsBestBelow (end + 1) n rows class (Some best)
best-first end n rows class best at is full none = subst (λ (k : ℕ). (best.worth ≡ worth n rows class k) × IsGreatest (λ x. (x < end + 1) × IsFull rows x) (worth n rows class) k) (sym at) (
  is,
  record {
    holds = (omega arith, full);
    most = λ y has. let same = only y has in subst (λ (k : ℕ). IsAtMost (worth n rows class k) (worth n rows class end)) same (omega arith);
    lowest = λ y has more. let same = only y has in omega arith;
  },
) where
  only : (y : ℕ) → (y < end + 1) × IsFull rows y → end ≡ y
  only y has = elim (cases_lt y end) [
    | inl lower ↦ absurd (none y lower has.1)
    | inr last ↦ let low = has.0 in omega arith
  ]

-- a full position that is worth no more leaves the best
pub best-stays : (end : ℕ) (n : Notes) (rows : RowCounts) (class : Class) (best : Weighed) → IsAtMost (worth n rows class end) best.worth → IsBestBelow end n rows class (Some best) → IsBestBelow (end + 1) n rows class (Some best)
best-stays end n rows class best less is = (
  is.0,
  record {
    holds = (let low = is.1.holds.0 in omega arith, is.1.holds.1);
    most = λ y has. elim (cases_lt y end) [
      | inl lower ↦ is.1.most y (lower, has.1)
      | inr last ↦
          let same : end ≡ y = (let low = has.0 in omega arith) in
          subst (λ (k : ℕ). IsAtMost (worth n rows class k) (worth n rows class best.position)) same (subst (λ (a : Fraction). IsAtMost (worth n rows class end) a) is.0 less)
    ];
    lowest = λ y has more. elim (cases_lt y end) [
      | inl lower ↦ is.1.lowest y (lower, has.1) more
      | inr last ↦ let low = is.1.holds.0 in omega arith
    ];
  },
)

-- the best is small too
pub best-small : (end : ℕ) (n : Notes) (rows : RowCounts) (positions : ℕ) (class : Class) (best : Weighed) → IsNotes n → IsCounted positions rows → IsBestBelow end n rows class (Some best) → IsSmall best.worth
best-small end n rows positions class best whole counted is = subst (λ (a : Fraction). IsSmall a) (sym is.0) (worth-small n rows positions class best.position whole counted)

-- a full position that is worth more is the best
pub best-found : (end : ℕ) (n : Notes) (rows : RowCounts) (class : Class) (old best : Weighed) → best.worth ≡ worth n rows class best.position → IsFull rows best.position → old.worth.over * best.worth.under < best.worth.over * old.worth.under → best.position ≡ end → IsBestBelow end n rows class (Some old) → IsBestBelow (end + 1) n rows class (Some best)
best-found end n rows class old best is full more at was = (
  is,
  record {
    holds = (omega arith, full);
    most = λ y has. elim (cases_lt y end) [
      | inl lower ↦ at_most-trans (value y) (value old.position) (value best.position) (worth-under n rows class old.position) (was.1.most y (lower, has.1)) (omega (arith, above))
      | inr last ↦ let same : best.position ≡ y = (let low = has.0 in omega arith) in subst (λ (k : ℕ). IsAtMost (value k) (value best.position)) same (omega arith)
    ];
    lowest = λ y has back. elim (cases_lt y end) [
      | inl lower ↦
          let both = at_most-trans (value best.position) (value y) (value old.position) (worth-under n rows class y) back (was.1.most y (lower, has.1)) in
          absurd (omega (arith, both, above))
      | inr last ↦ omega arith
    ];
  },
) where
  value : ℕ → Fraction
  value k = worth n rows class k

  above : (value old.position).over * (value best.position).under < (value best.position).over * (value old.position).under
  above = subst (λ (a : Fraction). a.over * (value best.position).under < (value best.position).over * a.under) was.0 (subst (λ (a : Fraction). old.worth.over * a.under < a.over * old.worth.under) is more)

-- where no position has a free row and none is full, none has a row that is dead
pub nothing-full : (rows : RowCounts) (k : ℕ) → 0 < slice_index rows.free k + slice_index rows.dead k → slice_index rows.free k ≡ 0 → ((x : ℕ) → IsFull rows x → ⊥) → ⊥
nothing-full rows k some free none = none k (omega (arith, some, free), free)

pub lowest-from-first : (P : ℕ → Type 0) (x : ℕ) → IsLowest (λ k. (0 ≤ k) × P k) x → IsLowest P x
lowest-from-first P x is = record { holds = is.holds.1; least = λ y has. is.least y (omega arith, has); lowest = λ y has same. is.lowest y (omega arith, has) same }

-- no position is below the first
pub best-none : (n : Notes) (rows : RowCounts) (class : Class) → IsBestBelow 0 n rows class None
best-none n rows class = λ x low. absurd (omega (arith, low))

-- whether a position is full, by what is read of it
pub full-read : (rows : RowCounts) (x dead free : ℕ) → dead ≡ slice_index rows.dead x → (dead ≡ 0 → ⊥) → free ≡ slice_index rows.free x → free ≤ 0 → IsFull rows x
full-read rows x dead free d some f none = (subst (λ k. 0 < k) d (positive dead some), subst (λ k. k ≡ 0) f (omega (arith, none))) where
  positive : (k : ℕ) → (k ≡ 0 → ⊥) → 0 < k
  positive zero some = absurd (some refl)
  positive (suc k) some = omega arith

pub no-dead : (rows : RowCounts) (x dead : ℕ) → dead ≡ slice_index rows.dead x → dead ≡ 0 → IsFull rows x → ⊥
no-dead rows x dead d none full = omega (arith, d, none, full.0)

pub one-free : (rows : RowCounts) (x free : ℕ) → free ≡ slice_index rows.free x → 0 < free → IsFull rows x → ⊥
one-free rows x free f some full = omega (arith, f, some, full.1)

-- the best of all positions is the victim
pub best-of-all : (n : Notes) (rows : RowCounts) (page end : ℕ) (class : Class) (best : Option Weighed) (found : Option ℕ) (Q : Weighed → ℕ → Type 0) → ((w : Weighed) (k : ℕ) → Q w k → k ≡ w.position) → IsCounted (length n.cleaned) rows → length n.cleaned ≤ end → class ≡ class_of n page → IsBestBelow end n rows class best
    → MatchOption best (found ≡ None) (λ w. IsSomeAnd found (Q w)) → MatchOption found ((k : ℕ) → IsFull rows k → ⊥) (IsVictim n rows page)
best-of-all n rows page end class None found Q reads counted all is_class best none = rw none (λ k full. best k (omega (arith, all, rows-below rows.dead (length n.cleaned) k counted.dead full.0)) full)
best-of-all n rows page end class (Some w) None Q reads counted all is_class best named = absurd named
best-of-all n rows page end class (Some w) (Some k) Q reads counted all is_class best named = rw (reads w k named) (subst (λ (of : Class). IsGreatest (IsFull rows) (worth n rows of) w.position) is_class (record {
  holds = best.1.holds.1;
  most = λ y full. best.1.most y (below y full, full);
  lowest = λ y full. best.1.lowest y (below y full, full);
})) where
  below : (y : ℕ) → IsFull rows y → y < end
  below y full = omega (arith, all, rows-below rows.dead (length n.cleaned) y counted.dead full.0)
