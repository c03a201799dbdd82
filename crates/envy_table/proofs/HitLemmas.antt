-- Which pages the entries of a cache hold after a call.
use Rattle.std.proofs.Common.{◌≡◌, ◌⊎◌, inl, inr, Bool, true, false, ℕ, ◌%◌, ◌<◌, ◌≤◌, List, length, get_or, None, Some, refl, sym, ◌∙◌, ap, subst}
use Rattle.std.specs.Prelude.{if◌then◌else◌}
use Rattle.std.proofs.lemmas.Bool.{cases_eq, cases_lt, eqb-true}
use Rattle.std.proofs.lemmas.List.{get_or-set_same, get_or-set_other, set_past, length-set}
use Rattle.envy_base.specs.declared.fields.Place.{Place}
use Rattle.envy_table.specs.Entries.{Entry, Translations, entry, holds, is_hit, filled, retargeted}
use Rattle.envy_table.specs.Hits.{page_in, page_at, Accesses, Rests}

pub Rests-refl : (t : Translations) → Rests t t
Rests-refl t = record { size = refl; pages = λ i. refl; hits = refl; misses = refl }

pub Rests-trans : (a b c : Translations) → Rests a b → Rests b c → Rests a c
Rests-trans a b c x y = record { size = y.size ∙ x.size; pages = λ i. y.pages i ∙ x.pages i; hits = y.hits ∙ x.hits; misses = y.misses ∙ x.misses }

-- an entry that holds a page
held-page : (e : Entry) (p : ℕ) → holds e p ≡ true → page_in e ≡ Some p
held-page None p hit = cc
held-page (Some kept) p hit = ap (λ (n : ℕ). Some n) (eqb-true kept.0 p hit)

-- the same page with another place
retargeted-page : (entries : List Entry) (p i : ℕ) (x : Place) (b : Bool) → is_hit entries p ≡ b → page_at (if b then filled entries p x else entries) i ≡ page_at entries i
retargeted-page entries p i x false miss = refl
retargeted-page entries p i x true hit = at (cases_eq i (p % length entries)) (cases_lt (p % length entries) (length entries))
  where
    at : (i ≡ p % length entries) ⊎ (i ≡ p % length entries → ⊥) → (p % length entries < length entries) ⊎ (length entries ≤ p % length entries) → page_at (filled entries p x) i ≡ page_at entries i
    at (inl same) (inl lt) =
        ap page_in (ap (λ (n : ℕ). get_or (filled entries p x) n None) same ∙ get_or-set_same entries (p % length entries) (Some (p, x)) None lt)
        ∙ sym (held-page (entry entries (p % length entries)) p hit)
        ∙ ap (λ (n : ℕ). page_at entries n) (sym same)
    at (inl same) (inr past) = ap (λ (es : List Entry). page_at es i) (set_past entries (p % length entries) (Some (p, x)) past)
    at (inr other) room = ap page_in (get_or-set_other entries (p % length entries) i (Some (p, x)) None other)

length-retargeted : (entries : List Entry) (p : ℕ) (x : Place) (b : Bool) → length (if b then filled entries p x else entries) ≡ length entries
length-retargeted entries p x true = length-set entries (p % length entries) (Some (p, x))
length-retargeted entries p x false = refl

-- moving an entry's page counts nothing
pub Rests-retargeted : (t new : Translations) (p : ℕ) (x : Place) → new ≡ record t { entries = retargeted t.entries p x } → Rests t new
Rests-retargeted t new p x is = subst (Rests t) (sym is) (record {
  size = length-retargeted t.entries p x (is_hit t.entries p);
  pages = λ i. retargeted-page t.entries p i x (is_hit t.entries p) refl;
  hits = refl;
  misses = refl;
})

-- what doesn't change rests
pub Rests-same : (t new : Translations) → new ≡ t → Rests t new
Rests-same t new is = subst (Rests t) (sym is) (Rests-refl t)

-- accessed, and at rest since
pub Accesses-then : (p : ℕ) (a b c : Translations) → Accesses p a b → Rests b c → Accesses p a c
Accesses-then p a b c x y = record { size = y.size ∙ x.size; pages = λ i. y.pages i ∙ x.pages i; hits = y.hits ∙ x.hits; misses = y.misses ∙ x.misses }
