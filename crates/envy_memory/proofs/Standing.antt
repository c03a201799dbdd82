-- What a board that stands for an array says of its words.
use Rattle.std.proofs.Common.{◌≡◌, ℕ, ◌/◌, ◌%◌, ◌<◌, ◌≤◌, List, length, get_or, Option, Some, sym, ◌∙◌, ap, arith}
use Rattle.envy_array.specs.Array.{Array, undone}
use Rattle.envy_base.specs.declared.fields.Place.{Place}
use Rattle.envy_map.specs.Fields.{Chart, place}
use Rattle.envy_meaning.specs.Stands.{Holds, Stands}
use Rattle.envy_soundness.specs.Words.{word_at, live_word, durable_word, kept, durable}
use Rattle.envy_meaning.proofs.Standing.{length-stands}
use Rattle.envy_soundness.proofs.WordLists.{get_or-words}

pub beyond : (c : Chart) (m : Array) (a : ℕ) → Stands c m → c.shape.pages ≤ a / 32 → length m.words ≤ a
beyond c m a s le = let long = length-stands c m s in omega arith

pub inside : (c : Chart) (m : Array) (a : ℕ) → Stands c m → a / 32 < c.shape.pages → a < length m.words
inside c m a s lt = let long = length-stands c m s in omega arith

-- a load's, in the place of the page
pub word-stands : (c : Chart) (m : Array) (a : ℕ) (x : Place) → Stands c m → a / 32 < c.shape.pages → place c.fields (a / 32) ≡ Some x → get_or m.words a 0 ≡ word_at c.fields.frames c.flash (Some x) (a % 32)
word-stands c m a x s lt is =
    ap (λ (ws : List ℕ). get_or ws a 0) (sym (Holds.live s.holds)) ∙ get_or-words c.shape.pages (live_word c.fields c.flash) a (omega arith) ∙ ap (λ (y : Option Place). word_at c.fields.frames c.flash y (a % 32)) is

-- a look's, where a restart would read the page
pub word-durable : (c : Chart) (a : ℕ) (x : Place) → a / 32 < c.shape.pages → kept c.fields (a / 32) ≡ Some x → get_or (durable c) a 0 ≡ word_at c.fields.frames c.flash (Some x) (a % 32)
word-durable c a x lt is =
    get_or-words c.shape.pages (durable_word c.fields c.flash) a (omega arith)
    ∙ ap (λ (y : Option Place). word_at c.fields.frames c.flash y (a % 32)) is

pub word-committed : (c : Chart) (m : Array) (a : ℕ) (x : Place) → Stands c m → a / 32 < c.shape.pages → kept c.fields (a / 32) ≡ Some x → get_or (undone m) a 0 ≡ word_at c.fields.frames c.flash (Some x) (a % 32)
word-committed c m a x s lt is = ap (λ (ws : List ℕ). get_or ws a 0) (sym (Holds.durable s.holds)) ∙ word-durable c a x lt is
