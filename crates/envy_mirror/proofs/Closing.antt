-- A side that is Behind while words are copied to it.
use Rattle.std.proofs.Common.{◌≡◌, ◌≢◌, ◌⊎◌, inl, inr, ℕ, ◌+◌, ◌*◌, ◌/◌, ◌<◌, List, length, get_or, set, replicate, Option, None, Some, sym, ◌∙◌, ap, subst, arith}
use Rattle.std.proofs.lemmas.Bool.{cases_eq}
use Rattle.std.proofs.lemmas.List.{ext_get_or, get_or-set_same, get_or-set_other, length-replicate}
use Rattle.envy_array.specs.Array.{Array, Saved, IsArray, owner, owns, slot_of, undone}
use Rattle.envy_array.specs.Step.{Store, Done, Held}
use Rattle.envy_base.specs.declared.shape.Shape.{Shape}
use Rattle.envy_array.proofs.Owning.{owner-nobody}
use Rattle.envy_array.proofs.Undoing.{undo_all-closed}
use Rattle.envy_map.specs.Fields.{Chart}
use Rattle.envy_meaning.specs.Stands.{Stands, Holds, Steps, Fails}
use Rattle.envy_soundness.specs.Words.{live, durable}
use Rattle.envy_soundness.proofs.WordLists.{length-live}
use Rattle.envy_memory.proofs.Facts.{none-open}
use Rattle.envy_memory.specs.Calls.{fresh}
use Rattle.envy_mirror.specs.Pair.{IsClosed}

-- nobody owns a page where no slot is open
pub owner-fresh : (shadows : ℕ) (words : List ℕ) (p : ℕ) → owner (fresh shadows words) p ≡ None
owner-fresh shadows words p = owner-nobody (fresh shadows words) p (λ t. ap (owns p) (none-open 64 t))

pub undone-fresh : (shadows : ℕ) (words : List ℕ) → undone (fresh shadows words) ≡ words
undone-fresh shadows words = undo_all-closed 64 words

-- a board that stands for words with no slot open has them
pub IsClosed-stands : (c : Chart) (shadows : ℕ) (words : List ℕ) → shadows ≡ c.shape.shadows → Stands c (fresh shadows words) → IsClosed c
IsClosed-stands c shadows words same s =
    let long : live c ≡ words = Holds.live (Stands.holds s) in
    subst (λ (ws : List ℕ). Stands c (fresh c.shape.shadows ws)) (sym long) (subst (λ (k : ℕ). Stands c (fresh k words)) same s)

-- a word was stored
pub closed-stored : (old new : Chart) (a w : ℕ) → new.shape ≡ old.shape → Steps (fresh old.shape.shadows (live old)) (Store a w) Done new → IsClosed new × (live new ≡ set (live old) a w)
closed-stored old new a w shape (n, (lt, free, is), stands) =
    let s : Stands new (fresh old.shape.shadows (set (live old) a w)) = subst (λ (k : Array). Stands new k) is stands in
    (IsClosed-stands new old.shape.shadows (set (live old) a w) (ap (λ (sh : Shape). sh.shadows) (sym shape)) s, Holds.live (Stands.holds s))

-- a store failed
pub closed-failed : (old new : Chart) (a w : ℕ) → new.shape ≡ old.shape → Fails (fresh old.shape.shadows (live old)) (Store a w) new → IsClosed new × (live new ≡ live old)
closed-failed old new a w shape (n, accepts, s) =
    (IsClosed-stands new old.shape.shadows (live old) (ap (λ (sh : Shape). sh.shadows) (sym shape)) s, Holds.live (Stands.holds s))

-- with no transaction open no store is refused for another's page
pub never-held : (old new : Chart) (a w u : ℕ) → Steps (fresh old.shape.shadows (live old)) (Store a w) (Held u) new → ⊥
never-held old new a w u (n, (lt, is, same), stands) = let none = owner-fresh old.shape.shadows (live old) (a / 32) in let clash : None ≡ Some u = sym none ∙ is in cc

-- an array of which no slot is open is its words
pub fresh-is : (m : Array) → IsArray m → ((t : ℕ) → t < 64 → slot_of m t ≡ None) → m ≡ fresh m.shadows m.words
fresh-is m i closed = ap (λ (slots : List (Option Saved)). record m { slots = slots }) slots
  where
    slots : m.slots ≡ replicate 64 None
    slots = ext_get_or None m.slots (replicate 64 None) (i.slots ∙ sym (length-replicate {A = Option Saved} 64 None)) (λ t lt. let within : t < 64 = rw (← i.slots) lt in closed t within ∙ sym (none-open 64 t))

-- ---- one word more of a page

abbrev pub PageCopied : ℕ → ℕ → Chart → Chart → Type 0
PageCopied page i from to = (a : ℕ) → a / 32 ≡ page → a < 32 * page + i → get_or (live to) a 0 ≡ get_or (durable from) a 0

abbrev pub OthersStay : ℕ → Chart → Chart → Type 0
OthersStay page old to = (a : ℕ) → a / 32 ≢ page → get_or (live to) a 0 ≡ get_or (live old) a 0

-- one word more of a page is copied
pub copied-more : (from mid new : Chart) (page i : ℕ) → page < mid.shape.pages → i < 32 → live new ≡ set (live mid) (32 * page + i) (get_or (durable from) (32 * page + i) 0) → PageCopied page i from mid → PageCopied page (i + 1) from new
copied-more from mid new page i inside low is before a in_page lt = ap (λ (ws : List ℕ). get_or ws a 0) is ∙ at (cases_eq a (32 * page + i))
  where
    at : (a ≡ 32 * page + i) ⊎ (a ≡ 32 * page + i → ⊥) → get_or (set (live mid) (32 * page + i) (get_or (durable from) (32 * page + i) 0)) a 0 ≡ get_or (durable from) a 0
    at (inl same) =
        let room : 32 * page + i < length (live mid) = let long = length-live mid in omega arith in
        rw same (get_or-set_same (live mid) (32 * page + i) (get_or (durable from) (32 * page + i) 0) 0 room)
    at (inr other) = get_or-set_other (live mid) (32 * page + i) a (get_or (durable from) (32 * page + i) 0) 0 other ∙ before a in_page (omega arith)

-- and the other pages stay
pub others-more : (from mid new old : Chart) (page i : ℕ) → i < 32 → live new ≡ set (live mid) (32 * page + i) (get_or (durable from) (32 * page + i) 0) → OthersStay page old mid → OthersStay page old new
others-more from mid new old page i low is before a elsewhere =
    ap (λ (ws : List ℕ). get_or ws a 0) is ∙ get_or-set_other (live mid) (32 * page + i) a (get_or (durable from) (32 * page + i) 0) 0 (λ e. elsewhere (omega arith)) ∙ before a elsewhere
