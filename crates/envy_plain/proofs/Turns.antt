-- One turn of a loop over the saved words.
use Rattle.std.proofs.Common.{◌≡◌, ◌≢◌, ◌⊎◌, inl, inr, ℕ, suc, ◌+◌, ◌<◌, true, false, cond, List, [], ◌∷◌, ◌++◌, length, get_or, set, take, Option, None, Some, is_some, count_by, All, AllPairs, refl, sym, ◌∙◌, ap, subst, subst₂, length-take, arith}
use Rattle.std.specs.Prelude.{◌==◌}
use Rattle.std.proofs.lemmas.List.{get_or-set_same, get_or-set_other, get_or-take, take_more, get_or_default}
use Rattle.std.proofs.lemmas.List.Folds.{list_any-append}
use Rattle.std.proofs.lemmas.List.Sums.{sum_by-set}
use Rattle.std.proofs.lemmas.Bool.{cases_eq, or_from, or_left, eq-eqb, ne_eqb}
use Rattle.envy_array.specs.Array.{Saved, page_of, saves_in, put_back}
use Rattle.envy_array.proofs.Undoing.{saves, put_back-set}
use Rattle.envy_plain.specs.declared.saved_word.SavedWord.{SavedWord}
use Rattle.envy_plain.specs.Fields.{saved_by}
use Rattle.envy_plain.proofs.Parts.{part, part-other, saved_by-push}

-- one word more, put back before those that are older
pub saved_by-more : (t : ℕ) (xs : List SavedWord) (i : ℕ) (d : SavedWord) → i < length xs → saved_by t (take (i + 1) xs) ≡ part t (get_or xs i d) ++ saved_by t (take i xs)
saved_by-more t xs i d lt = ap (saved_by t) (take_more xs i d lt) ∙ saved_by-push t (take i xs) (get_or xs i d)

pub part-same : (t : ℕ) (e : SavedWord) → e.slot ≡ t → part t e ≡ (e.address, e.before) ∷ []
part-same t e same = rw (eq-eqb e.slot t same) refl

-- an address that no saved word has
abbrev pub IsUnsaved : ℕ → List SavedWord → Type 0
IsUnsaved a xs = All (λ e. e.address ≢ a) xs

-- a word of another address
pub saves-part : (t a : ℕ) (e : SavedWord) → e.address ≢ a → saves a (part t e) ≡ false
saves-part t a e other = at (cases_eq e.slot t)
  where
    at : (e.slot ≡ t) ⊎ (e.slot ≡ t → ⊥) → saves a (part t e) ≡ false
    at (inl same) = rw (part-same t e same, ne_eqb e.address a other) refl
    at (inr not_it) = rw (part-other t e not_it) refl

-- an address that no word has
pub saves-unsaved : (t a : ℕ) (xs : List SavedWord) → IsUnsaved a xs → saves a (saved_by t xs) ≡ false
saves-unsaved t a [] none = refl
saves-unsaved t a (x ∷ xs) none =
    list_any-append (λ (e : ℕ × ℕ). e.0 == a) (saved_by t xs) (part t x)
    ∙ or_from (saves a (saved_by t xs)) (saves a (part t x)) (saves-unsaved t a xs (λ k d lt. none (suc k) d (omega arith))) (saves-part t a x (none 0 x (omega arith)))

-- a word's address stands in none of the words before it
pub unsaved-before : (xs : List SavedWord) (i : ℕ) (d : SavedWord) → AllPairs (λ d e. d.address ≢ e.address) xs → i < length xs → IsUnsaved (get_or xs i d).address (take i xs)
unsaved-before xs i d once lt k e room =
    let long = length-take i xs in
    let before : k < i = omega arith in
    let all = once k i d before lt in
    let there : get_or (take i xs) k e ≡ get_or xs k d = get_or-take i xs k e before ∙ get_or_default xs k e d (omega arith) in
    subst (λ (x : SavedWord). x.address ≢ (get_or xs i d).address) (sym there) all

-- ---- the loop that puts words back

-- putting back a word of the slot
pub restore-own : (t : ℕ) (xs : List SavedWord) (i : ℕ) (d : SavedWord) (words : List ℕ) → AllPairs (λ d e. d.address ≢ e.address) xs → i < length xs → (get_or xs i d).slot ≡ t → set (put_back (saved_by t (take i xs)) words) (get_or xs i d).address (get_or xs i d).before ≡ put_back (saved_by t (take (i + 1) xs)) words
restore-own t xs i d words once lt same =
    sym (put_back-set (saved_by t (take i xs)) words (get_or xs i d).address (get_or xs i d).before (saves-unsaved t (get_or xs i d).address (take i xs) (unsaved-before xs i d once lt)))
    ∙ ap (λ (l : Saved). put_back (l ++ saved_by t (take i xs)) words) (sym (part-same t (get_or xs i d) same))
    ∙ ap (λ (l : Saved). put_back l words) (sym (saved_by-more t xs i d lt))

-- passing over one of another slot
pub saved_by-skip : (t : ℕ) (xs : List SavedWord) (i : ℕ) (d : SavedWord) → i < length xs → (get_or xs i d).slot ≢ t → saved_by t (take (i + 1) xs) ≡ saved_by t (take i xs)
saved_by-skip t xs i d lt other = saved_by-more t xs i d lt ∙ ap (λ (l : Saved). l ++ saved_by t (take i xs)) (part-other t (get_or xs i d) other)

-- ---- the loop that releases pages

-- the pages of these pairs have no owner any more, and so many were taken from theirs
pub record IsReleased (old now : List (Option ℕ)) (pairs : Saved) (pages : ℕ) : Type 0 where
  pub count : pages + count_by is_some now ≡ count_by is_some old
  pub each : (p : ℕ) → get_or now p None ≡ cond (saves_in p pairs) None (get_or old p None)

-- the first n words of the list
abbrev pub Releases : List (Option ℕ) → List (Option ℕ) → ℕ → List SavedWord → ℕ → ℕ → Type 0
Releases old now t xs n pages = IsReleased old now (saved_by t (take n xs)) pages

-- passing over a word of another slot,
pub Releases-skip : (old now : List (Option ℕ)) (t : ℕ) (xs : List SavedWord) (i pages : ℕ) (d : SavedWord) → i < length xs → (get_or xs i d).slot ≢ t → Releases old now t xs i pages → Releases old now t xs (i + 1) pages
Releases-skip old now t xs i pages d lt other r = subst (λ (l : Saved). IsReleased old now l pages) (sym (saved_by-skip t xs i d lt other)) r

-- the page of a pair joins those that have no owner
saves_in-more : (p : ℕ) (e : ℕ × ℕ) (pairs : Saved) → page_of e.0 ≢ p → saves_in p (e ∷ pairs) ≡ saves_in p pairs
saves_in-more p e pairs other = rw (ne_eqb (page_of e.0) p other) refl

saves_in-page : (e : ℕ × ℕ) (pairs : Saved) → saves_in (page_of e.0) (e ∷ pairs) ≡ true
saves_in-page e pairs = or_left (page_of e.0 == page_of e.0) (saves_in (page_of e.0) pairs) (eq-eqb (page_of e.0) (page_of e.0) refl)

IsReleased-none : (old now : List (Option ℕ)) (pairs : Saved) (pages : ℕ) (e : ℕ × ℕ) → get_or now (page_of e.0) None ≡ None → IsReleased old now pairs pages → IsReleased old now (e ∷ pairs) pages
IsReleased-none old now pairs pages e none r = record { count = r.count; each = λ p. at p (cases_eq (page_of e.0) p) }
  where
    at : (p : ℕ) → (page_of e.0 ≡ p) ⊎ (page_of e.0 ≡ p → ⊥) → get_or now p None ≡ cond (saves_in p (e ∷ pairs)) None (get_or old p None)
    at p (inl same) = subst (λ (x : ℕ). get_or now x None ≡ cond (saves_in x (e ∷ pairs)) None (get_or old x None)) same (rw (saves_in-page e pairs) none)
    at p (inr other) = rw (saves_in-more p e pairs other) (r.each p)

IsReleased-taken : (old now : List (Option ℕ)) (pairs : Saved) (pages : ℕ) (e : ℕ × ℕ) → page_of e.0 < length now → is_some (get_or now (page_of e.0) None) ≡ true → IsReleased old now pairs pages → IsReleased old (set now (page_of e.0) None) (e ∷ pairs) (pages + 1)
IsReleased-taken old now pairs pages e room taken r = record {
  count =
      let sums : count_by is_some (set now (page_of e.0) None) + cond (is_some (get_or now (page_of e.0) None)) 1 0 ≡ count_by is_some now + 0 = sum_by-set (λ (o : Option ℕ). cond (is_some o) 1 0) now (page_of e.0) None None room in
      let fewer : count_by is_some (set now (page_of e.0) None) + 1 ≡ count_by is_some now + 0 = rw taken at sums in
      let before = r.count in
      omega arith;
  each = λ p. at p (cases_eq (page_of e.0) p);
}
  where
    at : (p : ℕ) → (page_of e.0 ≡ p) ⊎ (page_of e.0 ≡ p → ⊥) → get_or (set now (page_of e.0) None) p None ≡ cond (saves_in p (e ∷ pairs)) None (get_or old p None)
    at p (inl same) = subst (λ (x : ℕ). get_or (set now (page_of e.0) None) x None ≡ cond (saves_in x (e ∷ pairs)) None (get_or old x None)) same (rw (saves_in-page e pairs) (get_or-set_same now (page_of e.0) None None room))
    at p (inr other) = rw (saves_in-more p e pairs other) (get_or-set_other now (page_of e.0) p None None (λ e. other (sym e)) ∙ r.each p)

releases-own : (t : ℕ) (xs : List SavedWord) (i : ℕ) (d : SavedWord) → i < length xs → (get_or xs i d).slot ≡ t → ((get_or xs i d).address, (get_or xs i d).before) ∷ saved_by t (take i xs) ≡ saved_by t (take (i + 1) xs)
releases-own t xs i d lt same = ap (λ (l : Saved). l ++ saved_by t (take i xs)) (sym (part-same t (get_or xs i d) same)) ∙ sym (saved_by-more t xs i d lt)

-- over one whose page is free already,
pub Releases-none : (old now : List (Option ℕ)) (t : ℕ) (xs : List SavedWord) (i pages : ℕ) (d : SavedWord) → i < length xs → (get_or xs i d).slot ≡ t → is_some (get_or now (page_of (get_or xs i d).address) None) ≡ false → Releases old now t xs i pages → Releases old now t xs (i + 1) pages
Releases-none old now t xs i pages d lt same free r =
    subst (λ (l : Saved). IsReleased old now l pages) (releases-own t xs i d lt same) (IsReleased-none old now (saved_by t (take i xs)) pages ((get_or xs i d).address, (get_or xs i d).before) (none (get_or now (page_of (get_or xs i d).address) None) free) r)
  where
    none : (o : Option ℕ) → is_some o ≡ false → o ≡ None
    none None e = refl
    none (Some x) e = cc

-- and giving back the page of one
pub Releases-taken : (old now : List (Option ℕ)) (t : ℕ) (xs : List SavedWord) (i pages : ℕ) (d : SavedWord) → i < length xs → (get_or xs i d).slot ≡ t → page_of (get_or xs i d).address < length now → is_some (get_or now (page_of (get_or xs i d).address) None) ≡ true → Releases old now t xs i pages → Releases old (set now (page_of (get_or xs i d).address) None) t xs (i + 1) (pages + 1)
Releases-taken old now t xs i pages d lt same room taken r =
    subst (λ (l : Saved). IsReleased old (set now (page_of (get_or xs i d).address) None) l (pages + 1)) (releases-own t xs i d lt same) (IsReleased-taken old now (saved_by t (take i xs)) pages ((get_or xs i d).address, (get_or xs i d).before) room taken r)

-- ---- the same, as the loops read the list

abbrev pub blank : SavedWord
blank = record { slot = 0; address = 0; before = 0 }

pub restore_own : (t : ℕ) (xs : List SavedWord) (i : ℕ) (words now next : List ℕ) → AllPairs (λ d e. d.address ≢ e.address) xs → i < length xs → (get_or xs i blank).slot ≡ t → now ≡ put_back (saved_by t (take i xs)) words → next ≡ set now (get_or xs i blank).address (get_or xs i blank).before → next ≡ put_back (saved_by t (take (i + 1) xs)) words
restore_own t xs i words now next once lt same was is = is ∙ ap (λ (ws : List ℕ). set ws (get_or xs i blank).address (get_or xs i blank).before) was ∙ restore-own t xs i blank words once lt same

pub restore_skip : (t : ℕ) (xs : List SavedWord) (i : ℕ) (words now next : List ℕ) → i < length xs → (get_or xs i blank).slot ≢ t → now ≡ put_back (saved_by t (take i xs)) words → next ≡ now → next ≡ put_back (saved_by t (take (i + 1) xs)) words
restore_skip t xs i words now next lt other was is = is ∙ was ∙ ap (λ (l : Saved). put_back l words) (sym (saved_by-skip t xs i blank lt other))

pub release_taken : (old now next : List (Option ℕ)) (t : ℕ) (xs : List SavedWord) (i pages more : ℕ) → i < length xs → (get_or xs i blank).slot ≡ t → page_of (get_or xs i blank).address < length now → is_some (get_or now (page_of (get_or xs i blank).address) None) ≡ true → Releases old now t xs i pages → next ≡ set now (page_of (get_or xs i blank).address) None → more ≡ pages + 1 → Releases old next t xs (i + 1) more
release_taken old now next t xs i pages more lt same room taken r is sum =
    subst₂ (λ (n : List (Option ℕ)) (k : ℕ). Releases old n t xs (i + 1) k) (sym is) (sym sum) (Releases-taken old now t xs i pages blank lt same room taken r)

pub release_none : (old now next : List (Option ℕ)) (t : ℕ) (xs : List SavedWord) (i pages more : ℕ) → i < length xs → (get_or xs i blank).slot ≡ t → is_some (get_or now (page_of (get_or xs i blank).address) None) ≡ false → Releases old now t xs i pages → next ≡ now → more ≡ pages → Releases old next t xs (i + 1) more
release_none old now next t xs i pages more lt same free r is sum =
    subst₂ (λ (n : List (Option ℕ)) (k : ℕ). Releases old n t xs (i + 1) k) (sym is) (sym sum) (Releases-none old now t xs i pages blank lt same free r)

pub release_skip : (old now next : List (Option ℕ)) (t : ℕ) (xs : List SavedWord) (i pages more : ℕ) → i < length xs → (get_or xs i blank).slot ≢ t → Releases old now t xs i pages → next ≡ now → more ≡ pages → Releases old next t xs (i + 1) more
release_skip old now next t xs i pages more lt other r is sum =
    subst₂ (λ (n : List (Option ℕ)) (k : ℕ). Releases old n t xs (i + 1) k) (sym is) (sym sum) (Releases-skip old now t xs i pages blank lt other r)
