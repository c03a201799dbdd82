-- Some rule applies, one at most does, and what it chooses has rows.
use Rattle.std.proofs.Common.{◌≡◌, ◌⊎◌, inl, inr, ℕ, zero, suc, ◌+◌, ◌*◌, ◌<◌, ◌≤◌, Option, None, Some, length, slice_index, ap, ap₂, refl, subst, arith}
use Rattle.std.proofs.lemmas.Bool.{cases_lt, cases_eq}
use Rattle.envy_policy.specs.declared.choice.Choice.{Choice}
use Rattle.envy_policy.specs.declared.choice.Choice.TheVariants.{Free, Clean}
use Rattle.envy_policy.specs.declared.class.Class.{Class}
use Rattle.envy_policy.specs.declared.class.Class.TheVariants.{Brief, Short, Long, Lasting}
use Rattle.envy_policy.specs.declared.fraction.Fraction.{Fraction}
use Rattle.envy_policy.specs.declared.fraction.Weighed.{Weighed}
use Rattle.envy_policy.specs.Lifetime.{RowCounts, IsCounted, IsLowest, HasRowsFor, IsOwn, IsTaken, IsFresh, IsBeside, IsFull, IsGreatest, IsVictim, IsBestBelow, IsLifetimeChoice, worth}
use Rattle.envy_policy.specs.Notes.{Notes, class_of, open_for}
use Rattle.envy_policy.proofs.Choosing.{rows-below}
use Rattle.envy_policy.proofs.OneChoice.{least-one}
use Rattle.envy_policy.proofs.Weighing.{best-passed, best-first, best-stays, best-found}

-- it holds or doesn't
abbrev pub Decided : Type 0 → Type 0
Decided P = P ⊎ (P → ⊥)

is-some : (o : Option ℕ) (k : ℕ) → Decided (o ≡ Some k)
is-some None k = inr (λ e. cc)
is-some (Some j) k = elim (cases_eq j k) [ inl same ↦ inl (ap Some same) | inr other ↦ inr (λ e. other cc) ]

-- the lowest below a bound that P holds of, or none there
lowest-below : (P : ℕ → Type 0) → ((k : ℕ) → Decided (P k)) → (end : ℕ) → ((k : ℕ) × IsLowest P k) ⊎ ((k : ℕ) → k < end → P k → ⊥)
lowest-below P test zero = inr (λ k low has. absurd (omega arith))
lowest-below P test (suc end) = elim (lowest-below P test end) [
  | inl found ↦ inl found
  | inr none ↦ elim (test end) [
    | inl has ↦ inl (end, record { holds = has; least = λ y other. at_least none y other; lowest = λ y other e. at_least none y other })
    | inr not ↦ inr (λ k low has. elim (cases_lt k end) [ inl lower ↦ none k lower has | inr last ↦ let same : k ≡ end = omega arith in not (subst P same has) ])
  ]
] where
  at_least : ((k : ℕ) → k < end → P k → ⊥) → (y : ℕ) → P y → end ≤ y
  at_least none y other = elim (cases_lt y end) [ inl lower ↦ absurd (none y lower other) | inr above ↦ above ]

taken-decided : (n : Notes) (emptied : Option ℕ) (k : ℕ) → Decided (IsTaken n emptied k)
taken-decided n emptied k = elim (is-some emptied k) [
  | inl is ↦ inl (inl is)
  | inr others ↦ elim (is-some n.opened.brief k) [
    | inl is ↦ inl (inr (Brief, is))
    | inr brief ↦ elim (is-some n.opened.short k) [
      | inl is ↦ inl (inr (Short, is))
      | inr short ↦ elim (is-some n.opened.long k) [
        | inl is ↦ inl (inr (Long, is))
        | inr long ↦ elim (is-some n.opened.lasting k) [
          | inl is ↦ inl (inr (Lasting, is))
          | inr lasting ↦ inr (none others brief short long lasting)
        ]
      ]
    ]
  ]
] where
  none : (emptied ≡ Some k → ⊥) → (n.opened.brief ≡ Some k → ⊥) → (n.opened.short ≡ Some k → ⊥) → (n.opened.long ≡ Some k → ⊥) → (n.opened.lasting ≡ Some k → ⊥) → IsTaken n emptied k → ⊥
  none others brief short long lasting (inl is) = others is
  none others brief short long lasting (inr (Brief, is)) = brief is
  none others brief short long lasting (inr (Short, is)) = short is
  none others brief short long lasting (inr (Long, is)) = long is
  none others brief short long lasting (inr (Lasting, is)) = lasting is

fresh-decided : (n : Notes) (rows : RowCounts) (emptied : Option ℕ) (k : ℕ) → Decided (IsFresh n rows emptied k)
fresh-decided n rows emptied k = elim (cases_lt 0 (slice_index rows.free k)) [
  | inl some ↦ elim (taken-decided n emptied k) [ inl taken ↦ inr (λ is. is.1 taken) | inr not ↦ inl (some, not) ]
  | inr none ↦ inr (λ is. let has = is.0 in absurd (omega arith))
]

own-decided : (n : Notes) (rows : RowCounts) (emptied : Option ℕ) (page : ℕ) (o : Option ℕ) → open_for n.opened (class_of n page) ≡ o → ((k : ℕ) × IsOwn n rows emptied page k) ⊎ ((k : ℕ) → IsOwn n rows emptied page k → ⊥)
own-decided n rows emptied page None is = inr (λ k own. let other = own.0 in cc)
own-decided n rows emptied page (Some j) is = elim (cases_lt 0 (slice_index rows.free j)) [
  | inl some ↦ elim (is-some emptied j) [
    | inl emptying ↦ inr (λ k own. let here : j ≡ k = (let other = own.0 in cc) in own.1.1 (subst (λ (x : ℕ). emptied ≡ Some x) here emptying))
    | inr not ↦ inl (j, (is, (some, not)))
  ]
  | inr none ↦ inr (λ k own. let here : j ≡ k = (let other = own.0 in cc) in let has = own.1.0 in let no : slice_index rows.free k ≤ 0 = subst (λ (x : ℕ). slice_index rows.free x ≤ 0) here none in absurd (omega arith))
]

free-below : (n : Notes) (rows : RowCounts) (positions : ℕ) (emptied : Option ℕ) → IsCounted positions rows → ((k : ℕ) → k < positions → IsFresh n rows emptied k → ⊥) → (k : ℕ) → IsFresh n rows emptied k → ⊥
free-below n rows positions emptied counted none k fresh = none k (rows-below rows.free positions k counted.free fresh.0) fresh

some-beside : (n : Notes) (rows : RowCounts) (positions : ℕ) (emptied : Option ℕ) (page : ℕ) → IsCounted positions rows → (found : Option ℕ) × IsBeside n rows emptied page found
some-beside n rows positions emptied page counted = elim (own-decided n rows emptied page (open_for n.opened (class_of n page)) refl) [
  | inl own ↦ (Some own.0, inl own.1)
  | inr not ↦ elim (lowest-below (IsFresh n rows emptied) (fresh-decided n rows emptied) positions) [
    | inl fresh ↦ (Some fresh.0, inr (not, fresh.1))
    | inr none ↦ (None, (not, free-below n rows positions emptied counted none))
  ]
]

full-decided : (rows : RowCounts) (k : ℕ) → Decided (IsFull rows k)
full-decided rows k = elim (cases_lt 0 (slice_index rows.dead k)) [
  | inl some ↦ elim (cases_eq (slice_index rows.free k) 0) [ inl none ↦ inl (some, none) | inr free ↦ inr (λ is. free is.1) ]
  | inr none ↦ inr (λ is. let has = is.0 in absurd (omega arith))
]

better : (n : Notes) (rows : RowCounts) (class : Class) (end : ℕ) (best : Option Weighed) → IsFull rows end → IsBestBelow end n rows class best → (found : Option Weighed) × IsBestBelow (end + 1) n rows class found
better n rows class end None full is = (Some (record { position = end; worth = worth n rows class end }), best-first end n rows class (record { position = end; worth = worth n rows class end }) refl refl full is)
better n rows class end (Some best) full is = elim (cases_lt (best.worth.over * (worth n rows class end).under) ((worth n rows class end).over * best.worth.under)) [
  | inl more ↦ (Some (record { position = end; worth = worth n rows class end }), best-found end n rows class best (record { position = end; worth = worth n rows class end }) refl full more refl is)
  | inr less ↦ (Some best, best-stays end n rows class best less is)
]

best-next : (n : Notes) (rows : RowCounts) (class : Class) (end : ℕ) (best : Option Weighed) → IsBestBelow end n rows class best → (found : Option Weighed) × IsBestBelow (end + 1) n rows class found
best-next n rows class end best is = elim (full-decided rows end) [
  | inl full ↦ better n rows class end best full is
  | inr not ↦ (best, best-passed end n rows class best not is)
]

best-below : (n : Notes) (rows : RowCounts) (class : Class) (end : ℕ) → (best : Option Weighed) × IsBestBelow end n rows class best
best-below n rows class zero = (None, λ x low full. absurd (omega arith))
best-below n rows class (suc end) =
    let below = best-below n rows class end in
    let next : end + 1 ≡ suc end = omega arith in
    subst (λ (m : ℕ). (best : Option Weighed) × IsBestBelow m n rows class best) next (best-next n rows class end below.0 below.1)

victim-of : (n : Notes) (rows : RowCounts) (page positions : ℕ) (best : Weighed) → length rows.dead ≡ positions → IsBestBelow positions n rows (class_of n page) (Some best) → IsVictim n rows page best.position
victim-of n rows page positions best long is = record {
  holds = is.1.holds.1;
  most = λ y full. is.1.most y (rows-below rows.dead positions y long full.0, full);
  lowest = λ y full more. is.1.lowest y (rows-below rows.dead positions y long full.0, full) more;
}

-- the last rule applies where no other does
last-rule : (n : Notes) (rows : RowCounts) (page positions k : ℕ) → IsCounted positions rows → 0 < slice_index rows.free k + slice_index rows.dead k → IsBeside n rows None page None → ((x : ℕ) → IsFull rows x → ⊥) → (choice : Choice) × IsLifetimeChoice n rows page choice
last-rule n rows page positions k counted some none not = elim (lowest-below (λ x. 0 < slice_index rows.free x) test positions) [
  | inl found ↦ (Free found.0, inr (none, not, found.1))
  | inr empty ↦ absurd (not k (full empty))
] where
  -- what has no free row has a dead one
  full : ((x : ℕ) → x < positions → 0 < slice_index rows.free x → ⊥) → IsFull rows k
  full empty = elim (cases_lt 0 (slice_index rows.free k)) [
    | inl has ↦ absurd (empty k (rows-below rows.free positions k counted.free has) has)
    | inr none ↦ (omega arith, omega arith)
  ]

  test : (x : ℕ) → Decided (0 < slice_index rows.free x)
  test x = elim (cases_lt 0 (slice_index rows.free x)) [ inl has ↦ inl has | inr zero_x ↦ inr (λ has. omega arith) ]

-- where any position has a row some rule applies
pub some-choice : (n : Notes) (rows : RowCounts) (page k : ℕ) → IsCounted (length n.cleaned) rows → 0 < slice_index rows.free k + slice_index rows.dead k → (choice : Choice) × IsLifetimeChoice n rows page choice
some-choice n rows page k counted some = let beside = some-beside n rows (length n.cleaned) None page counted in at beside.0 beside.1
  where
    clean : (best : Option Weighed) → IsBestBelow (length n.cleaned) n rows (class_of n page) best → IsBeside n rows None page None → (choice : Choice) × IsLifetimeChoice n rows page choice
    clean (Some best) is none = (Clean best.position None, (none, victim-of n rows page (length n.cleaned) best counted.dead is, refl))
    clean None is none = last-rule n rows page (length n.cleaned) k counted some none (λ x full. is x (rows-below rows.dead (length n.cleaned) x counted.dead full.0) full)

    at : (found : Option ℕ) → IsBeside n rows None page found → (choice : Choice) × IsLifetimeChoice n rows page choice
    at (Some x) is = (Free x, inl is)
    at None none = let best = best-below n rows (class_of n page) (length n.cleaned) in clean best.0 best.1 none

-- a place beside a job is one, and isn't none
beside-none : (n : Notes) (rows : RowCounts) (emptied : Option ℕ) (page x : ℕ) → IsBeside n rows emptied page (Some x) → IsBeside n rows emptied page None → ⊥
beside-none n rows emptied page x (inl own) none = none.0 x own
beside-none n rows emptied page x (inr is) none = none.1 x is.1.holds

beside-one : (n : Notes) (rows : RowCounts) (emptied : Option ℕ) (page x y : ℕ) → IsBeside n rows emptied page (Some x) → IsBeside n rows emptied page (Some y) → x ≡ y
beside-one n rows emptied page x y (inl own) (inl other) = let a = own.0 in let b = other.0 in cc
beside-one n rows emptied page x y (inl own) (inr other) = absurd (other.0 x own)
beside-one n rows emptied page x y (inr is) (inl other) = absurd (is.0 y other)
beside-one n rows emptied page x y (inr is) (inr other) = least-one (IsFresh n rows emptied) (λ k. k) x y is.1 other.1

greatest-one : (P : ℕ → Type 0) (f : ℕ → Fraction) (x y : ℕ) → IsGreatest P f x → IsGreatest P f y → x ≡ y
greatest-one P f x y a b =
    let low = a.lowest y b.holds (b.most x a.holds) in
    let high = b.lowest x a.holds (a.most y b.holds) in
    omega arith

-- at most one choice meets the rules
pub one-choice : (n : Notes) (rows : RowCounts) (page : ℕ) (a b : Choice) → IsLifetimeChoice n rows page a → IsLifetimeChoice n rows page b → a ≡ b
one-choice n rows page (Free x) (Free y) (inl is) (inl other) = ap Free (beside-one n rows None page x y is other)
one-choice n rows page (Free x) (Free y) (inl is) (inr other) = absurd (beside-none n rows None page x is other.0)
one-choice n rows page (Free x) (Free y) (inr is) (inl other) = absurd (beside-none n rows None page y other is.0)
one-choice n rows page (Free x) (Free y) (inr is) (inr other) = ap Free (least-one (λ k. 0 < slice_index rows.free k) (λ k. k) x y is.2 other.2)
one-choice n rows page (Free x) (Clean y aside) (inl is) other = absurd (beside-none n rows None page x is other.0)
one-choice n rows page (Free x) (Clean y aside) (inr is) other = absurd (is.1 y other.1.holds)
one-choice n rows page (Clean x aside) (Free y) is (inl other) = absurd (beside-none n rows None page y other is.0)
one-choice n rows page (Clean x aside) (Free y) is (inr other) = absurd (other.1 x is.1.holds)
one-choice n rows page (Clean x aside) (Clean y beside) is other = ap₂ Clean (greatest-one (IsFull rows) (worth n rows (class_of n page)) x y is.1 other.1) (let a = is.2 in let b = other.2 in cc)

beside-free : (n : Notes) (rows : RowCounts) (emptied : Option ℕ) (page x : ℕ) → IsBeside n rows emptied page (Some x) → 0 < slice_index rows.free x
beside-free n rows emptied page x (inl own) = own.1.0
beside-free n rows emptied page x (inr is) = let fresh = is.1.holds in fresh.0

-- and it has rows
pub choice-rows : (n : Notes) (rows : RowCounts) (page : ℕ) (choice : Choice) → IsCounted (length n.cleaned) rows → IsLifetimeChoice n rows page choice → HasRowsFor rows choice
choice-rows n rows page (Free x) counted (inl is) = let has = beside-free n rows None page x is in (rows-below rows.free (length rows.free) x refl has, has)
choice-rows n rows page (Free x) counted (inr is) = let has = is.2.holds in (rows-below rows.free (length rows.free) x refl has, has)
choice-rows n rows page (Clean x aside) counted is = let full = is.1.holds in (rows-below rows.dead (length rows.dead) x refl full.0, full.0, is.2)
