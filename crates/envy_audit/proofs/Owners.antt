-- A table of owners: which page names a row, so far.
use Rattle.std.proofs.Common.{◌≡◌, ◌≢◌, ◌⊎◌, ◌↔◌, ℕ, suc, ◌+◌, ◌-◌, ◌<◌, true, false, List, length, set, refl, sym, ◌∙◌, ap, subst, inl, inr, arith}
use Rattle.std.proofs.lemmas.Bool.{false≢true, cases_eq}
use Rattle.std.proofs.lemmas.List.{get_or-set_same, get_or-set_other, length-set}
use Rattle.std.specs.Prelude.{slice_index}
use Rattle.envy_base.specs.declared.fields.Place.{Place}
use Rattle.envy_base.specs.declared.fields.Place.TheVariants.{Absent, Row, Frame}
use Rattle.envy_audit.specs.Tables.{Notes}

pub other-owner : (owner page : ℕ) → (owner ≡ 0 → ⊥) → (owner ≡ page + 1 → ⊥) → (r : ℕ) × (owner ≡ suc r) × (r ≢ page)
other-owner owner page some other = (owner - 1, omega (arith, some), λ is. other (omega (arith, some, is)))

-- the table says exactly which pairs of a page and a row were named
abbrev pub Says : (ℕ → ℕ → Type 0) → List ℕ → Type 0
Says T owners = (q p : ℕ) → q < length owners → (slice_index owners q ≡ suc p) ↔ T p q

-- one more pair: the page, and the row that it stands in where it stands in one
abbrev pub Joined : (ℕ → ℕ → Type 0) → ℕ → Place → ℕ → ℕ → Type 0
Joined T page place p q = T p q ⊎ ((p ≡ page) × (place ≡ Row q))

-- two ways to say who names a row
pub Says-as : (T U : ℕ → ℕ → Type 0) (owners : List ℕ) → ((p q : ℕ) → T p q → U p q) → ((p q : ℕ) → U p q → T p q) → Says T owners → Says U owners
Says-as T U owners to from says q p within = (λ is. to p q ((says q p within).0 is), λ named. (says q p within).1 (from p q named))

pub row-same : (q r : ℕ) → Row q ≡ Row r → q ≡ r
row-same q r is = ap number is
  where
    number : Place → ℕ
    number Absent = 0
    number (Row k) = k
    number (Frame k) = 0

pub absent-row : {P : Type 0} (q : ℕ) → Absent ≡ Row q → P
absent-row q is = absurd (none q is)
  where
    none : (k : ℕ) → Absent ≡ Row k → ⊥
    none k e = cc

frame-row : (k q : ℕ) → Frame k ≡ Row q → ⊥
frame-row k q is = cc

module _ (T : ℕ → ℕ → Type 0) (page : ℕ) (old new : List ℕ) (says : Says T old) where
  module _ (row : ℕ) (room : row < length old) (free : (slice_index old row ≡ 0) ⊎ (slice_index old row ≡ suc page)) (is : new ≡ set old row (suc page)) where
    there : slice_index new row ≡ suc page
    there = ap (λ (xs : List ℕ). slice_index xs row) is ∙ get_or-set_same old row (suc page) 0 room

    elsewhere : (q : ℕ) → q ≢ row → slice_index new q ≡ slice_index old q
    elsewhere q other = ap (λ (xs : List ℕ). slice_index xs q) is ∙ get_or-set_other old row q (suc page) 0 other

    long : length new ≡ length old
    long = ap length is ∙ length-set old row (suc page)

    -- who was noted for the row before is the page itself
    alone : (p : ℕ) → T p row → p ≡ page
    alone p named = by_free free
      where
        by_free : (slice_index old row ≡ 0) ⊎ (slice_index old row ≡ suc page) → p ≡ page
        by_free (inl none) = absurd (omega (arith, none, (says row p room).1 named))
        by_free (inr own) = omega (arith, own, (says row p room).1 named)

    joined : Says (Joined T page (Row row)) new
    joined q p within = by_row (cases_eq q row)
      where
        here : q ≡ row → (slice_index new q ≡ suc p) ↔ Joined T page (Row row) p q
        here same = (
          λ told. inr (omega (arith, told, there, ap (λ (r : ℕ). slice_index new r) same), ap Row (sym same)),
          λ named. ap (λ (r : ℕ). slice_index new r) same ∙ (there ∙ ap suc (sym (owner named))),
        )
          where
            owner : Joined T page (Row row) p q → p ≡ page
            owner (inl before) = alone p (subst (λ (r : ℕ). T p r) same before)
            owner (inr (own, now)) = own

        other : q ≢ row → (slice_index new q ≡ suc p) ↔ Joined T page (Row row) p q
        other apart = (
          λ told. inl ((says q p (omega (arith, within, long))).0 (sym (elsewhere q apart) ∙ told)),
          λ named. elsewhere q apart ∙ (says q p (omega (arith, within, long))).1 (before named),
        )
          where
            before : Joined T page (Row row) p q → T p q
            before (inl named) = named
            before (inr (own, now)) = absurd (apart (sym (row-same row q now)))

        by_row : (q ≡ row) ⊎ (q ≢ row) → (slice_index new q ≡ suc p) ↔ Joined T page (Row row) p q
        by_row (inl same) = here same
        by_row (inr apart) = other apart

  kept : (place : Place) → ((q : ℕ) → place ≡ Row q → ⊥) → new ≡ old → Says (Joined T page place) new
  kept place none is =
      Says-as T (Joined T page place) new (λ p q named. inl named) (λ p q named. before p q named) (subst (λ (xs : List ℕ). Says T xs) (sym is) says)
    where
      before : (p q : ℕ) → Joined T page place p q → T p q
      before p q (inl named) = named
      before p q (inr (own, now)) = absurd (none q now)

  -- a page's place is noted
  pub noted : (place : Place) → ((q : ℕ) → place ≡ Row q → q < length old) → Notes page place old true new → Says (Joined T page place) new
  noted Absent rows (sure, is) = kept Absent absent-row is
  noted (Row row) rows (free, is) = joined row (rows row refl) free is
  noted (Frame k) rows (sure, is) = kept (Frame k) (frame-row k) is

  -- or another page is noted for the row that it stands in
  pub conflict : (place : Place) → ((q : ℕ) → place ≡ Row q → q < length old) → Notes page place old false new → (q r : ℕ) × (place ≡ Row q) × T r q × (r ≢ page)
  conflict Absent rows (sure, is) = absurd (false≢true sure)
  conflict (Row row) rows (r, is, other) = (row, r, refl, (says row r (rows row refl)).0 is, other)
  conflict (Frame k) rows (sure, is) = absurd (false≢true sure)

pub Notes-long : (page : ℕ) (place : Place) (old new : List ℕ) → Notes page place old true new → length new ≡ length old
Notes-long page Absent old new (sure, is) = ap length is
Notes-long page (Row row) old new (free, is) = ap length is ∙ length-set old row (suc page)
Notes-long page (Frame k) old new (sure, is) = ap length is
