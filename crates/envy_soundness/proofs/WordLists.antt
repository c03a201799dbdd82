-- Lists of all words, from what holds of each word.
use Rattle.std.proofs.Common.{◌≡◌, ◌⊎◌, inl, inr, ℕ, ◌+◌, ◌*◌, ◌/◌, ◌%◌, ◌<◌, ◌≤◌, cond, length, get_or, set, refl, sym, ◌∙◌, arith}
use Rattle.std.specs.Prelude.{◌==◌, ◌&&◌}
use Rattle.std.proofs.lemmas.List.{get_or-set_same, get_or-set_other, length-set, ext_get_or, get_or_past}
use Rattle.std.proofs.lemmas.List.FromFn.{length-map-range_with_len, get_or-map-range_with_len}
use Rattle.std.proofs.lemmas.Bool.{cases_eq, cases_lt, eq-eqb, ne_eqb}
use Rattle.envy_map.specs.Fields.{Chart}
use Rattle.envy_soundness.specs.Words.{words, live, durable, live_word, durable_word}

pub length-words : (n : ℕ) (f : ℕ → ℕ → ℕ) → length (words n f) ≡ 32 * n
unfolding words
length-words n f = length-map-range_with_len (λ a. f (a / 32) (a % 32)) 0 (32 * n)

pub length-live : (c : Chart) → length (live c) ≡ 32 * c.shape.pages
length-live c = length-words c.shape.pages (live_word c.fields c.flash)

pub length-durable : (c : Chart) → length (durable c) ≡ 32 * c.shape.pages
length-durable c = length-words c.shape.pages (durable_word c.fields c.flash)

pub get_or-words : (n : ℕ) (f : ℕ → ℕ → ℕ) (a : ℕ) → a < 32 * n → get_or (words n f) a 0 ≡ f (a / 32) (a % 32)
unfolding words
get_or-words n f a lt = get_or-map-range_with_len (λ a. f (a / 32) (a % 32)) 0 (32 * n) a a 0 lt (omega arith)

-- two lists of words have one word at an address, where the two pages have one there
pub words-at : (n : ℕ) (f g : ℕ → ℕ → ℕ) (a : ℕ) → (a / 32 < n → g (a / 32) (a % 32) ≡ f (a / 32) (a % 32)) → get_or (words n g) a 0 ≡ get_or (words n f) a 0
words-at n f g a same = at (cases_lt a (32 * n))
  where
    at : (a < 32 * n) ⊎ (32 * n ≤ a) → get_or (words n g) a 0 ≡ get_or (words n f) a 0
    at (inl lt) = get_or-words n g a lt ∙ same (omega arith) ∙ sym (get_or-words n f a lt)
    at (inr le) = get_or_past (words n g) a 0 (rw length-words le) ∙ sym (get_or_past (words n f) a 0 (rw length-words le))

pub words-within : (n : ℕ) (f g : ℕ → ℕ → ℕ) → ((p j : ℕ) → p < n → j < 32 → g p j ≡ f p j) → words n g ≡ words n f
words-within n f g same =
    ext_get_or 0 (words n g) (words n f) (length-words n g ∙ sym (length-words n f))
    (λ a lt. let inside : a < 32 * n = rw (← length-words n g) lt in get_or-words n g a inside ∙ same (a / 32) (a % 32) (omega arith) (omega arith) ∙ sym (get_or-words n f a inside))

pub words-same : (n : ℕ) (f g : ℕ → ℕ → ℕ) → ((p j : ℕ) → j < 32 → g p j ≡ f p j) → words n g ≡ words n f
words-same n f g same = words-within n f g (λ p j lt low. same p j low)

pub words-set : (n : ℕ) (f g : ℕ → ℕ → ℕ) (p i w : ℕ) → i < 32 → 32 * p + i < 32 * n → ((r j : ℕ) → j < 32 → g r j ≡ cond ((r == p) && (j == i)) w (f r j)) → words n g ≡ set (words n f) (32 * p + i) w
words-set n f g p i w low room one =
    ext_get_or 0 (words n g) (set (words n f) (32 * p + i) w) (length-words n g ∙ sym (length-words n f) ∙ sym (length-set (words n f) (32 * p + i) w))
    (λ a lt. let inside : a < 32 * n = rw (← length-words n g) lt in get_or-words n g a inside ∙ one (a / 32) (a % 32) (omega arith) ∙ at a inside (cases_eq a (32 * p + i)))
  where
    at : (a : ℕ) → a < 32 * n → (a ≡ 32 * p + i) ⊎ (a ≡ 32 * p + i → ⊥) → cond ((a / 32 == p) && (a % 32 == i)) w (f (a / 32) (a % 32)) ≡ get_or (set (words n f) (32 * p + i) w) a 0
    at a inside (inl same) =
        let page : a / 32 ≡ p = omega arith in
        let place : a % 32 ≡ i = omega arith in
        rw (page, place, eq-eqb p p refl, eq-eqb i i refl, same) (sym (get_or-set_same (words n f) (32 * p + i) w 0 (rw length-words room)))
    at a inside (inr other) = rw (get_or-set_other (words n f) (32 * p + i) a w 0 other, get_or-words n f a inside) (by_page (cases_eq (a / 32) p))
      where
        by_page : (a / 32 ≡ p) ⊎ (a / 32 ≡ p → ⊥) → cond ((a / 32 == p) && (a % 32 == i)) w (f (a / 32) (a % 32)) ≡ f (a / 32) (a % 32)
        by_page (inl same) = rw (ne_eqb (a % 32) i (λ e. other (omega arith)), eq-eqb (a / 32) p same) refl
        by_page (inr far) = rw (ne_eqb (a / 32) p far) refl
