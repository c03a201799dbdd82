-- The rows that the first pages name.
use Rattle.std.proofs.Common.{◌≡◌, ◌≢◌, ◌⊎◌, ◌↔◌, ℕ, ◌+◌, ◌<◌, ◌≤◌, true, false, IsTrue, List, length, refl, sym, ◌∙◌, ap, subst, inl, inr, arith, Option, Some, None}
use Rattle.std.proofs.lemmas.Bool.{false≢true, cases_lt}
use Rattle.std.proofs.lemmas.Option.{same_Some}
use Rattle.envy_base.specs.declared.fields.Place.{Place}
use Rattle.envy_base.specs.declared.fields.Place.TheVariants.{Absent, Row}
use Rattle.envy_base.specs.declared.fields.Slot.{Slot}
use Rattle.envy_base.specs.declared.fields.Slot.TheVariants.{Vacant, Active, Committed}
use Rattle.envy_base.specs.declared.fields.Undo.{Undo}
use Rattle.envy_base.specs.declared.fields.Undo.TheVariants.{Clear, Blank, Shadow}
use Rattle.envy_base.specs.State.{State, IsBoard}
use Rattle.envy_map.specs.Fields.{Fields, chart, place, undo, slot}
use Rattle.envy_soundness.specs.Words.{kept, kept_by}
use Rattle.envy_soundness.specs.Sound.{Names, slots_of}
use Rattle.envy_audit.specs.Points.{Decodes, RowsDiffer, IsPlaceOf, IsUndoOf, rows_of}
use Rattle.envy_audit.specs.Tables.{NotesOwners, Notes}
use Rattle.envy_audit.proofs.Looking.{place-within, undo-within}
use Rattle.envy_audit.proofs.Owners.{Says, Joined, Says-as, noted, conflict, Notes-long, row-same, absent-row}

-- one of the first k pages names the row
abbrev pub FirstNames : Fields → ℕ → ℕ → ℕ → Type 0
FirstNames f k p q = (p < k) × Names f p q

module _ (f : Fields) (page : ℕ) (now back : Place) (now_is : place f page ≡ Some now) (back_is : kept f page ≡ Some back) where
  -- the names of one page more
  pub to-more : (p q : ℕ) → Joined (Joined (FirstNames f page) page now) page back p q → FirstNames f (page + 1) p q
  to-more p q (inl (inl (below, named))) = (omega (arith, below), named)
  to-more p q (inl (inr (own, is))) = (omega (arith, own), inl (ap (place f) own ∙ (now_is ∙ ap Some is)))
  to-more p q (inr (own, is)) = (omega (arith, own), inr (ap (kept f) own ∙ (back_is ∙ ap Some is)))

  from-more : (p q : ℕ) → FirstNames f (page + 1) p q → Joined (Joined (FirstNames f page) page now) page back p q
  from-more p q (below, named) = by_page (cases_lt p page)
    where
      own_row : p ≡ page → Names f p q → Joined (Joined (FirstNames f page) page now) page back p q
      own_row own (inl is) = inl (inr (own, same_Some _ _ (sym now_is ∙ (ap (place f) (sym own) ∙ is))))
      own_row own (inr is) = inr (own, same_Some _ _ (sym back_is ∙ (ap (kept f) (sym own) ∙ is)))

      by_page : (p < page) ⊎ (page ≤ p) → Joined (Joined (FirstNames f page) page now) page back p q
      by_page (inl less) = inl (inl (less, named))
      by_page (inr more) = own_row (omega (arith, below)) named

  module _ (old mid new : List ℕ) (says : Says (FirstNames f page) old) (now_rows : (q : ℕ) → now ≡ Row q → q < length old) (back_rows : (q : ℕ) → back ≡ Row q → q < length old) where
    -- are noted in the table
    pub Says-more : Notes page now old true mid → Notes page back mid true new → Says (FirstNames f (page + 1)) new
    Says-more first second =
        let one = noted (FirstNames f page) page old mid says now now_rows first in
        let two = noted (Joined (FirstNames f page) page now) page mid new one back (λ q is. omega (arith, back_rows q is, Notes-long page now old mid first)) second in
        Says-as _ (FirstNames f (page + 1)) new to-more from-more two

    -- a conflict shows two pages that name one row
    pub clash-now : Notes page now old false mid → (p r q : ℕ) × Names f p q × Names f r q × (r ≢ p)
    clash-now first =
        let (q, r, is, named, other) = conflict (FirstNames f page) page old mid says now now_rows first in
        (page, r, q, inl (now_is ∙ ap Some is), named.1, other)

    -- a row that can't be noted has two names
    pub clash-back : Notes page now old true mid → Notes page back mid false new → (p r q : ℕ) × Names f p q × Names f r q × (r ≢ p)
    clash-back first second =
        let one = noted (FirstNames f page) page old mid says now now_rows first in
        let (q, r, is, named, other) = conflict (Joined (FirstNames f page) page now) page mid new one back (λ q is. omega (arith, back_rows q is, Notes-long page now old mid first)) second in
        (page, r, q, inr (back_is ∙ ap Some is), earlier r q other named, other)
      where
        earlier : (r q : ℕ) → r ≢ page → Joined (FirstNames f page) page now r q → Names f r q
        earlier r q other (inl (below, named)) = named
        earlier r q other (inr (own, is)) = absurd (other own)

-- a row that is named is one of the board's
module _ (s : State) (board : IsBoard s) (d : Decodes (chart s)) where
  placed-row : (p q : ℕ) → place (chart s).fields p ≡ Some (Row q) → q < rows_of s.shape
  placed-row p q is = subst (λ (x : Option Place). IsPlaceOf s.shape x) is (d.places p (place-within s board p (Row q) is))

  undone-row : (p q : ℕ) (u : Option Undo) (now : Option Place) → undo (chart s).fields p ≡ u → now ≡ place (chart s).fields p → kept_by (chart s).fields.slots u now ≡ Some (Row q) → q < rows_of s.shape
  undone-row p q None now there is kept = placed-row p q (sym is ∙ kept)
  undone-row p q (Some Clear) now there is kept = placed-row p q (sym is ∙ kept)
  undone-row p q (Some (Blank t)) now there is kept = by_slot (slot (chart s).fields t) refl
    where
      by_slot : (x : Option Slot) → slot (chart s).fields t ≡ x → q < rows_of s.shape
      by_slot (Some Active) e = absent-row q (same_Some Absent (Row q) (rw e at kept))
      by_slot (Some Vacant) e = placed-row p q (sym is ∙ rw e at kept)
      by_slot (Some Committed) e = placed-row p q (sym is ∙ rw e at kept)
      by_slot None e = placed-row p q (sym is ∙ rw e at kept)
  undone-row p q (Some (Shadow t r)) now there is kept = by_slot (slot (chart s).fields t) refl
    where
      by_slot : (x : Option Slot) → slot (chart s).fields t ≡ x → q < rows_of s.shape
      by_slot (Some Active) e =
          let same : r ≡ q = row-same r q (same_Some (Row r) (Row q) (rw e at kept)) in
          let range = subst (λ (x : Option Undo). IsUndoOf s.shape (slots_of (chart s).fields.version) x) there (d.undos p (undo-within s board p (Shadow t r) there)) in
          subst (λ (k : ℕ). k < rows_of s.shape) same range.1
      by_slot (Some Vacant) e = placed-row p q (sym is ∙ rw e at kept)
      by_slot (Some Committed) e = placed-row p q (sym is ∙ rw e at kept)
      by_slot None e = placed-row p q (sym is ∙ rw e at kept)

  pub named-row : (p q : ℕ) → Names (chart s).fields p q → q < rows_of s.shape
  named-row p q (inl is) = placed-row p q is
  named-row p q (inr is) = undone-row p q (undo (chart s).fields p) (place (chart s).fields p) refl refl is

  named-page : (p q : ℕ) → Names (chart s).fields p q → p < s.shape.pages
  named-page p q (inl is) = place-within s board p (Row q) is
  named-page p q (inr is) = by_undo (undo (chart s).fields p) refl is
    where
      by_undo : (u : Option Undo) → undo (chart s).fields p ≡ u → kept_by (chart s).fields.slots u (place (chart s).fields p) ≡ Some (Row q) → p < s.shape.pages
      by_undo None e is = place-within s board p (Row q) is
      by_undo (Some u) e is = undo-within s board p u e

  module _ (owners : List ℕ) (long : length owners ≡ rows_of s.shape) (says : Says (FirstNames (chart s).fields s.shape.pages) owners) where
    -- behind the last page all rows' owners are noted
    pub NotesOwners-all : NotesOwners (chart s) owners
    NotesOwners-all = record {
      long = long;
      notes = λ q p within.
          let both = says q p (omega (arith, long, within)) in
          (λ told. (both.0 told).1, λ named. both.1 (named-page p q named, named));
    }

    -- and no row has two
    pub RowsDiffer-all : RowsDiffer (chart s)
    RowsDiffer-all p r q first second =
        let within : q < length owners = omega (arith, long, named-row p q first) in
        omega (arith, (says q p within).1 (named-page p q first, first), (says q r within).1 (named-page r q second, second))

  -- one turn of noting
  module _ (page : ℕ) (now back : Place) (now_is : place (chart s).fields page ≡ Some now) (back_is : kept (chart s).fields page ≡ Some back) (old mid new : List ℕ) (long : length old ≡ rows_of s.shape) (says : Says (FirstNames (chart s).fields page) old) where
    now_rows : (q : ℕ) → now ≡ Row q → q < length old
    now_rows q is = omega (arith, long, placed-row page q (now_is ∙ ap Some is))

    back_rows : (q : ℕ) → back ≡ Row q → q < length old
    back_rows q is = omega (arith, long, named-row page q (inr (back_is ∙ ap Some is)))

    pub turn-says : Notes page now old true mid → Notes page back mid true new → Says (FirstNames (chart s).fields (page + 1)) new
    turn-says = Says-more (chart s).fields page now back now_is back_is old mid new says now_rows back_rows

    pub turn-long : Notes page now old true mid → Notes page back mid true new → length new ≡ rows_of s.shape
    turn-long first second = Notes-long page back mid new second ∙ (Notes-long page now old mid first ∙ long)

    differ-not : (p r q : ℕ) × Names (chart s).fields p q × Names (chart s).fields r q × (r ≢ p) → IsTrue false ↔ RowsDiffer (chart s)
    differ-not (p, r, q, one, two, other) = (λ no. absurd (false≢true no), λ differ. absurd (other (differ r p q two one)))

    -- a page whose row is taken refutes that they differ,
    pub turn-now : Notes page now old false mid → IsTrue false ↔ RowsDiffer (chart s)
    turn-now first = differ-not (clash-now (chart s).fields page now back now_is back_is old mid new says now_rows back_rows first)

    -- and so does one whose old row is
    pub turn-back : Notes page now old true mid → Notes page back mid false new → IsTrue false ↔ RowsDiffer (chart s)
    turn-back first second = differ-not (clash-back (chart s).fields page now back now_is back_is old mid new says now_rows back_rows first second)
