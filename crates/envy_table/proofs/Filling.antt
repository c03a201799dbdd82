-- A cache agrees with the page table after an entry was filled.
use Rattle.std.proofs.Common.{◌≡◌, ◌≢◌, ◌⊎◌, inl, inr, ℕ, ◌%◌, ◌<◌, length, List, sym, ap, ◌∙◌, arith}
use Rattle.std.specs.Prelude.{true, Option, None, Some, IfSome, is_some, slice_index_or, slice_set}
use Rattle.std.proofs.Math.Nat.{mod-lt}
use Rattle.std.proofs.lemmas.Bool.{cases_eq, cases_lt}
use Rattle.std.proofs.lemmas.List.{get_or-set_same, get_or-set_other, length-set, get_or_past}
use Rattle.envy_base.specs.declared.fields.Place.{Place}
use Rattle.envy_table.specs.Agreement.{AreCurrent}
use Rattle.envy_table.specs.Entries.{Entry, entry, entry_of, filled}

-- what an entry that holds a page was before, after the entry of page p was filled
Was : List Entry → ℕ → Place → ℕ → ℕ → Place → Type 0
Was entries p x i q y = ((i ≡ entry_of entries p) × (q ≡ p) × (y ≡ x)) ⊎ ((i ≢ entry_of entries p) × (entry entries i ≡ Some (q, y)))

was : (entries : List Entry) (p : ℕ) (x : Place) (i q : ℕ) (y : Place) → 0 < length entries → entry (filled entries p x) i ≡ Some (q, y) → Was entries p x i q y
unfolding Was
was entries p x i q y some e =
    let within : entry_of entries p < length entries = mod-lt p some in
    elim (cases_eq i (entry_of entries p)) [
      | inl here ↦
          let now : ◌≡◌ {A = Entry} (Some (p, x)) (Some (q, y)) = sym (get_or-set_same entries (entry_of entries p) (Some (p, x)) None within) ∙ (ap (entry (filled entries p x)) (sym here) ∙ e) in
          let pair : ◌≡◌ {A = ℕ × Place} (q, y) (p, x) = cc in
          inl (here, ap (λ (k : ℕ × Place). k.0) pair, ap (λ (k : ℕ × Place). k.1) pair)
      | inr other ↦ inr (other, sym (get_or-set_other entries (entry_of entries p) i (Some (p, x)) None other) ∙ e)
    ]

-- The page's entry is filled with its place. No other page has another place than before.
pub AreCurrent-filled : (pages : ℕ) (places now : List (Option Place)) (entries : List Entry) (p : ℕ) (x : Place)
    → AreCurrent pages places entries → 0 < length entries → p < pages → slice_index_or now p None ≡ Some x
    → ((q : ℕ) → q ≢ p → slice_index_or now q None ≡ slice_index_or places q None)
    → AreCurrent pages now (filled entries p x)
unfolding Was
AreCurrent-filled pages places now entries p x old some within here others = record {
  own = λ i q y e.
      let same : entry_of (filled entries p x) q ≡ entry_of entries q = ap (λ (n : ℕ). q % n) (length-set entries (entry_of entries p) (Some (p, x))) in
      same ∙ elim (was entries p x i q y some e) [
        | inl (at, is, kept) ↦ ap (entry_of entries) is ∙ sym at
        | inr (other, before) ↦ old.own i q y before
      ];
  below = λ i q y e. elim (was entries p x i q y some e) [
    | inl (at, is, kept) ↦ omega arith
    | inr (other, before) ↦ old.below i q y before
  ];
  current = λ i q y e. elim (was entries p x i q y some e) [
    | inl (at, is, kept) ↦ ap (λ (r : ℕ). slice_index_or now r None) is ∙ (here ∙ ap Some (sym kept))
    | inr (other, before) ↦
        let apart : q ≢ p = λ same. other (sym (old.own i q y before) ∙ ap (entry_of entries) same) in
        others q apart ∙ old.current i q y before
  ];
}

in_table : (places : List (Option Place)) (p : ℕ) (y : Place) → slice_index_or places p None ≡ Some y → p < length places
in_table places p y e = elim (cases_lt p (length places)) [
  | inl within ↦ within
  | inr past ↦ let none : slice_index_or places p None ≡ None = get_or_past places p None past in absurd (cc)
]

-- The page's entry held it, and the page has another place now.
pub AreCurrent-retargeted : (pages : ℕ) (places : List (Option Place)) (entries : List Entry) (p : ℕ) (kept : Option Place) (x : Place)
    → AreCurrent pages places entries → 0 < length entries → is_some kept ≡ true → IfSome kept (λ y. entry entries (entry_of entries p) ≡ Some (p, y))
    → AreCurrent pages (slice_set places p (Some x)) (filled entries p x)
AreCurrent-retargeted pages places entries p None x old some none held = absurd (cc)
AreCurrent-retargeted pages places entries p (Some y) x old some is held =
    let at : ℕ = entry_of entries p in
    let within : p < length places = in_table places p y (old.current at p y held) in
    AreCurrent-filled pages places (slice_set places p (Some x)) entries p x old some (old.below at p y held)
    (get_or-set_same places p (Some x) None within)
    (λ q apart. get_or-set_other places p q (Some x) None apart)
