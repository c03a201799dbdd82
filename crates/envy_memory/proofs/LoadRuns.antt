-- Runs of words that are loaded, page by page.
use Rattle.std.proofs.Common.{◌≡◌, ◌≢◌, ◌⊎◌, inl, inr, ℕ, zero, suc, ◌+◌, ◌-◌, ◌*◌, ◌/◌, ◌%◌, ◌<◌, ◌≤◌, List, length, get_or, Option, Some, Ok, refl, sym, ◌∙◌, ap, subst, arith}
use Rattle.std.proofs.lemmas.Bool.{cases_eq}
use Rattle.envy_array.specs.Array.{Array}
use Rattle.envy_array.specs.Words.{IsPlace, IsPlaceIn}
use Rattle.envy_base.specs.declared.fields.Place.{Place}
use Rattle.envy_map.specs.Fields.{Chart, place}
use Rattle.envy_meaning.specs.Stands.{Holds, Stands}
use Rattle.envy_soundness.specs.Words.{word_at, live, live_word}
use Rattle.envy_meaning.proofs.Standing.{length-stands}
use Rattle.envy_soundness.proofs.WordLists.{get_or-words}
use Rattle.envy_table.specs.Entries.{Translations}
use Rattle.envy_table.specs.Hits.{Accesses}
use Rattle.envy_memory.specs.Picture.{Picture}
use Rattle.envy_memory.specs.LoadRuns.{AreLive, Crosses, FillsPage, LoadsRun}
use Rattle.envy_memory.specs.Runs.{pages_met}

-- a word of the page that an address lies on
pub live-on : (c : Chart) (a i : ℕ) (x : Place) → a / 32 < c.shape.pages → a % 32 + i < 32 → place c.fields (a / 32) ≡ Some x
    → get_or (live c) (a + i) 0 ≡ word_at c.fields.frames c.flash (Some x) (a % 32 + i)
live-on c a i x lt few is =
    let page : (a + i) / 32 ≡ a / 32 = omega arith in
    let at : (a + i) % 32 ≡ a % 32 + i = omega arith in
    get_or-words c.shape.pages (live_word c.fields c.flash) (a + i) (omega arith)
    ∙ ap (λ (p : ℕ). word_at c.fields.frames c.flash (place c.fields p) ((a + i) % 32)) page
    ∙ ap (λ (y : Option Place). word_at c.fields.frames c.flash y ((a + i) % 32)) is
    ∙ ap (λ (j : ℕ). word_at c.fields.frames c.flash (Some x) j) at

-- the pages that a run of some words meets
pub pages-met : (a n : ℕ) → 0 < n → pages_met a n ≡ (a + (n - 1)) / 32 + 1 - a / 32
pages-met a zero some = absurd (omega (arith, some))
pages-met a (suc k) some = omega arith

-- one page more
pub crosses-more : (page a : ℕ) (x y z : Translations) → a / 32 ≤ page → Crosses (page - a / 32) (a / 32) x y → Accesses page y z → Crosses (page + 1 - a / 32) (a / 32) x z
crosses-more page a x y z le crossed more =
    let count : page + 1 - a / 32 ≡ suc (page - a / 32) = omega arith in
    let here : a / 32 + (page - a / 32) ≡ page = omega arith in
    subst (λ (n : ℕ). Crosses n (a / 32) x z) (sym count) (y, crossed, subst (λ (p : ℕ). Accesses p y z) (sym here) more)

-- what a run says of the array
pub loads-run : (c new : Chart) (m : Array) (a : ℕ) (words : List ℕ) → new ≡ c → Stands c m → (0 < length words → a + length words ≤ 32 * c.shape.pages) → AreLive c a words → LoadsRun m a words (Ok tt) new
loads-run c new m a words same stands fits are i lt =
    let long = length-stands c m stands in
    let within = fits (omega arith) in
    (m, (omega arith, are i lt ∙ ap (λ (ws : List ℕ). get_or ws (a + i) 0) (Holds.live (Stands.holds stands)), refl), subst (λ (x : Chart). Stands x m) (sym same) stands)

-- the words of one page more
pub fills-more : (page a : ℕ) (c d : Chart) (old new : List ℕ) → d ≡ c → ((i : ℕ) → i < length old → (a + i) / 32 < page → get_or old i 0 ≡ get_or (live c) (a + i) 0)
    → FillsPage page d a old new → (i : ℕ) → i < length new → (a + i) / 32 < page + 1 → get_or new i 0 ≡ get_or (live c) (a + i) 0
fills-more page a c d old new same read fills i lt below = at (cases_eq ((a + i) / 32) page)
  where
    there : i < length old
    there = subst (λ (n : ℕ). i < n) fills.long lt

    at : ((a + i) / 32 ≡ page) ⊎ ((a + i) / 32 ≢ page) → get_or new i 0 ≡ get_or (live c) (a + i) 0
    at (inl is) = fills.on i there is ∙ ap (λ (x : Chart). get_or (live x) (a + i) 0) same
    at (inr not) = fills.off i not ∙ read i there (omega arith)

abbrev IsKept : Picture → Picture → Type 0
IsKept p q = q ≡ record p { parts = record p.parts { cache = q.parts.cache } }

-- what two loads keep both keep
pub kept-both : (p r q : Picture) → IsKept p r → IsKept r q → IsKept p q
kept-both p r q e f = f ∙ ap (λ (m : Picture). record m { parts = record m.parts { cache = q.parts.cache } }) e

-- a run past the last page
pub past-run : (c : Chart) (m : Array) (a n : ℕ) → Stands c m → 32 * c.shape.pages < a + n → length m.words ≤ a + n - 1
past-run c m a n stands past = let long = length-stands c m stands in omega arith

-- the place of a key among words of a page is that among the words that loads read
pub place-on : (c : Chart) (a n key low top index new_low new_top : ℕ) (x : Place) → a / 32 < c.shape.pages → a % 32 + n ≤ 32 → place c.fields (a / 32) ≡ Some x
    → IsPlaceIn (λ i. word_at c.fields.frames c.flash (Some x) (a % 32 + i)) n key low top index new_low new_top → IsPlace (live c) a n key low top index new_low new_top
place-on c a n key low top index new_low new_top x lt few is p = record {
  within = p.within;
  above = p.above;
  below = p.below;
  first = p.first;
  bottom = λ i e. p.bottom i e ∙ sym (live-on c a i x lt (omega (arith, few, e, p.within)) is);
  last = p.last;
  ceiling = λ less. live-on c a index x lt (omega (arith, few, less)) is ∙ p.ceiling less;
}

-- a run of some words within one page meets that page
pub crosses-one : (a n : ℕ) (x y : Translations) → 0 < n → a % 32 + n ≤ 32 → Accesses (a / 32) x y → Crosses (pages_met a n) (a / 32) x y
crosses-one a n x y some few one =
    let count : pages_met a n ≡ 1 = let met = pages-met a n some in omega arith in
    let here : a / 32 + 0 ≡ a / 32 = omega arith in
    subst (λ (k : ℕ). Crosses k (a / 32) x y) (sym count) (x, refl, subst (λ (p : ℕ). Accesses p x y) (sym here) one)
