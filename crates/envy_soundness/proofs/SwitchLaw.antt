-- A reference goes from a row of the segment that is being switched to its copy in the spare.
use Rattle.std.proofs.Common.{◌≡◌, ◌≢◌, ◌⊎◌, inl, inr, ℕ, ◌+◌, ◌*◌, ◌/◌, ◌<◌, Bool, true, false, List, [], length, get_or, set, Option, Some, refl, sym, ◌∙◌, ap, subst, arith}
use Rattle.std.specs.Prelude.{IsTrue, Result}
use Rattle.std.proofs.lemmas.Nat.{mul-add-lt}
use Rattle.envy_base.specs.declared.board.Off.{Off}
use Rattle.envy_base.specs.declared.shape.Shape.{Shape}
use Rattle.envy_base.specs.declared.fields.Job.TheVariants.{Switch}
use Rattle.envy_base.specs.declared.fields.Place.{Place}
use Rattle.envy_base.specs.declared.fields.Place.TheVariants.{Row}
use Rattle.envy_base.specs.declared.fields.Slot.TheVariants.{Active}
use Rattle.envy_base.specs.declared.fields.Undo.{Undo}
use Rattle.envy_base.specs.declared.fields.Undo.TheVariants.{Shadow}
use Rattle.envy_map.specs.Fields.{Fields, Chart, place, undo, slot}
use Rattle.envy_map.specs.Writes.{Writes, with_place, with_undo}
use Rattle.envy_soundness.specs.Words.{kept, kept_by, word_at}
use Rattle.envy_soundness.specs.Sound.{Sound, Rows, Jobs, Copies, Slots, IsSound, Names, IsPlaced, IsSpare, owned_by, slot_named}
use Rattle.envy_soundness.specs.May.{IsCopied, HasPage, HasKept}
use Rattle.envy_soundness.specs.Same.{Same}
use Rattle.envy_soundness.proofs.KeptLemmas.{kept_by-free, kept_by-shadow, kept_by-active}
use Rattle.envy_soundness.proofs.References.{Added, References-switched, apart-spare, copy-low, copy-segment}
use Rattle.envy_soundness.proofs.PlaceLaw.{PlaceCases, place-cases, Names-placed, Sound-placed, room-page, Keeps-copied}
use Rattle.envy_soundness.proofs.UndoLaw.{KeptCases, kept-cases, Sound-undone, IsOwned, open-owned, few-owned, room-undo, Keeps-shadowed}
use Rattle.envy_soundness.proofs.Composition.{Keeps, Same-put}

-- the row that row i of the spare was copied from
abbrev pub origin_of : Fields → ℕ → ℕ
origin_of f i = get_or f.origins i 0

copy-range : (sh : Shape) (f : Fields) (flash : List (List ℕ)) (e i : ℕ) → Sound sh f flash → IsCopied sh f e i → e * sh.rows + i < sh.segments * sh.rows
copy-range sh f flash e i s can = let low = copy-low sh f flash e i s can.row in let below = mul-add-lt e sh.rows i sh.segments (IsSpare.segment can.spare) low in omega (arith, below)

-- a copy lies in another segment than its row
copy-apart : (sh : Shape) (f : Fields) (flash : List (List ℕ)) (e i : ℕ) → Sound sh f flash → IsCopied sh f e i → e * sh.rows + i ≢ origin_of f i
copy-apart sh f flash e i s can same = from can.switching
  where
    from : (v : ℕ) × (f.job ≡ Some (Switch v)) × IsPlaced sh f.positions v → ⊥
    from (v, switch, placed) =
        let c : Copies sh f.slots f.undos f.places f.fills f.backs f.origins flash v e = Jobs.copies s.job v e switch placed can.spare in
        let one : e ≡ v = sym (copy-segment sh f flash e i s can.row) ∙ ap (λ (q : ℕ). q / sh.rows) same ∙ c.rows i can.row in
        apart-spare sh f.positions v placed (subst (λ (x : ℕ). IsSpare sh f.positions x) one can.spare)

-- and holds what it does
copy-same : (sh : Shape) (f : Fields) (flash : List (List ℕ)) (e i p : ℕ) → Sound sh f flash → IsCopied sh f e i → Names f p (origin_of f i) → get_or flash (e * sh.rows + i) [] ≡ get_or flash (origin_of f i) []
copy-same sh f flash e i p s can named = from can.switching
  where
    from : (v : ℕ) × (f.job ≡ Some (Switch v)) × IsPlaced sh f.positions v → get_or flash (e * sh.rows + i) [] ≡ get_or flash (origin_of f i) []
    from (v, switch, placed) = Copies.same (Jobs.copies s.job v e switch placed can.spare) p i can.row named

-- the place of the page names the row, and no active undo of it does
pub record IsBehind (sh : Shape) (f : Fields) (e i p : ℕ) : Type 0 where
  pub page : p < sh.pages
  pub copied : IsCopied sh f e i
  pub here : place f p ≡ Some (Row (origin_of f i))
  pub alone : (t : ℕ) → undo f p ≡ Some (Shadow t (origin_of f i)) → slot f t ≢ Some Active

-- the rows that are named then
Names-switched : (sh : Shape) (f : Fields) (flash : List (List ℕ)) (e i p r q : ℕ) → Sound sh f flash → IsBehind sh f e i p → Names (with_place p (Some (Row (e * sh.rows + i))) f) r q → (q ≢ origin_of f i) × Added f p (e * sh.rows + i) r q
Names-switched sh f flash e i p r q s b names = (λ old. gone old (place-cases f p r _ room) names, added (Names-placed f p _ r q room names))
  where
    room : p < length f.places
    room = room-page sh f flash p s b.page

    added : Names f r q ⊎ ((r ≡ p) × (Some (Row (e * sh.rows + i)) ≡ Some (Row q))) → Added f p (e * sh.rows + i) r q
    added (inl n) = inl n
    added (inr (same, is)) = inr (same, let at : e * sh.rows + i ≡ q = cc in sym at)

    to_copy : Some (Row (e * sh.rows + i)) ≡ Some (Row q) → q ≡ origin_of f i → ⊥
    to_copy is old = let at : e * sh.rows + i ≡ q = cc in copy-apart sh f flash e i s b.copied (at ∙ old)

    by_owner : (o : Bool) → owned_by f.slots (undo f r) ≡ o → r ≡ p → q ≡ origin_of f i → kept_by f.slots (undo f r) (Some (Row (e * sh.rows + i))) ≡ Some (Row q) → ⊥
    by_owner true owned same old is =
        let named = kept_by-shadow f.slots (undo f r) (Some (Row (e * sh.rows + i))) q owned is in
        b.alone named.0 (ap (λ (x : ℕ). undo f x) (sym same) ∙ named.1 ∙ ap (λ (x : ℕ). Some (Shadow named.0 x)) old) named.2
    by_owner false free same old is = to_copy (sym (kept_by-free f.slots (undo f r) (Some (Row (e * sh.rows + i))) free) ∙ is) old

    gone : q ≡ origin_of f i → PlaceCases f p (Some (Row (e * sh.rows + i))) r → Names (with_place p (Some (Row (e * sh.rows + i))) f) r q → ⊥
    gone old (inl (same, is)) (inl at) = to_copy (sym is ∙ at) old
    gone old (inl (same, is)) (inr at) = by_owner (owned_by f.slots (undo f r)) refl same old (ap (λ (y : Option Place). kept_by f.slots (undo f r) y) (sym is) ∙ at)
    gone old (inr (other, is)) (inl at) = other (Rows.apart s.rows r p (origin_of f i) (inl (sym is ∙ at ∙ ap (λ (n : ℕ). Some (Row n)) old)) (inl b.here))
    gone old (inr (other, is)) (inr at) = other (Rows.apart s.rows r p (origin_of f i) (inr (ap (λ (y : Option Place). kept_by f.slots (undo f r) y) (sym is) ∙ at ∙ ap (λ (n : ℕ). Some (Row n)) old)) (inl b.here))

pub Keeps-switched : (c : Chart) (e i p : ℕ) → IsSound c → IsBehind c.shape c.fields e i p → Keeps c (with_place p (Some (Row (e * c.shape.rows + i))) c.fields)
Keeps-switched c e i p sound b =
    Keeps-copied c p (Row (e * c.shape.rows + i)) sound b.page
    (Sound-placed c.shape c.fields c.flash p (Row (e * c.shape.rows + i)) b.page
    (record { row = λ q is. let same : e * c.shape.rows + i ≡ q = cc in rw (← same) (copy-range c.shape c.fields c.flash e i sound b.copied); frame = λ k is. cc })
    (References-switched c.shape c.fields c.flash c.fields.slots c.fields.undos (set c.fields.places p (Some (Row (e * c.shape.rows + i)))) e i p sound b.copied (inl b.here) (λ r q n. Names-switched c.shape c.fields c.flash e i p r q sound b n))
    sound)
    same
  where
    same : HasPage c.fields c.flash p (Row (e * c.shape.rows + i))
    same j lt = ap (λ (row : List ℕ). get_or row j 0) (copy-same c.shape c.fields c.flash e i p sound b.copied (inl b.here)) ∙ ap (λ (x : Option Place). word_at c.fields.frames c.flash x j) (sym b.here)

pub Same-switched : (c new : Chart) (e i p q : ℕ) (r : Result Unit Off) → q ≡ e * c.shape.rows + i → IsSound c → p < c.shape.pages → (IsTrue c.on → IsCopied c.shape c.fields e i) → (IsTrue c.on → place c.fields p ≡ Some (Row (origin_of c.fields i))) → (IsTrue c.on → (t : ℕ) → undo c.fields p ≡ Some (Shadow t (origin_of c.fields i)) → slot c.fields t ≢ Some Active) → Writes (with_place p (Some (Row q))) c r new → Same 0 0 c new
Same-switched c new e i p q r is sound page copied here alone writes = Same-put c new (with_place p (Some (Row q))) r sound (λ on. subst (λ (x : ℕ). Keeps c (with_place p (Some (Row x)) c.fields)) (sym is) (Keeps-switched c e i p sound (record { page = page; copied = copied on; here = here on; alone = alone on }))) refl writes

-- an active undo of the page names the row, and its place doesn't
pub record IsUndoBehind (sh : Shape) (f : Fields) (e i p t : ℕ) : Type 0 where
  pub page : p < sh.pages
  pub copied : IsCopied sh f e i
  pub here : undo f p ≡ Some (Shadow t (origin_of f i))
  pub active : slot f t ≡ Some Active
  pub alone : place f p ≢ Some (Row (origin_of f i))

named-behind : (sh : Shape) (f : Fields) (e i p t : ℕ) → IsUndoBehind sh f e i p t → kept f p ≡ Some (Row (origin_of f i))
named-behind sh f e i p t b = ap (λ (u : Option Undo). kept_by f.slots u (place f p)) b.here ∙ kept_by-active f.slots (Shadow t (origin_of f i)) t (place f p) refl b.active

owned-behind : (sh : Shape) (f : Fields) (e i p t : ℕ) → IsUndoBehind sh f e i p t → IsOwned f p t
owned-behind sh f e i p t b = record { slot = ap slot_named b.here; active = b.active }

Names-undo_switched : (sh : Shape) (f : Fields) (flash : List (List ℕ)) (e i p t r q : ℕ) → Sound sh f flash → IsUndoBehind sh f e i p t → Names (with_undo p (Some (Shadow t (e * sh.rows + i))) f) r q → (q ≢ origin_of f i) × Added f p (e * sh.rows + i) r q
Names-undo_switched sh f flash e i p t r q s b names = at names (kept-cases f p r (Shadow t (e * sh.rows + i)) (room-undo sh f flash p s b.page))
  where
    -- other pages don't name the row
    others : (r ≡ p → ⊥) → Names f r q → q ≢ origin_of f i
    others other n old = other (Rows.apart s.rows r p (origin_of f i) (subst (λ (x : ℕ). Names f r x) old n) (inr (named-behind sh f e i p t b)))

    at : Names (with_undo p (Some (Shadow t (e * sh.rows + i))) f) r q → KeptCases f p (Shadow t (e * sh.rows + i)) r → (q ≢ origin_of f i) × Added f p (e * sh.rows + i) r q
    at (inl by_place) (inl (same, is)) = (λ old. b.alone (ap (λ (x : ℕ). place f x) (sym same) ∙ by_place ∙ ap (λ (x : ℕ). Some (Row x)) old), inl (inl by_place))
    at (inl by_place) (inr (other, is)) = (others other (inl by_place), inl (inl by_place))
    at (inr by_undo) (inr (other, is)) = (others other (inr (sym is ∙ by_undo)), inl (inr (sym is ∙ by_undo)))
    at (inr by_undo) (inl (same, is)) =
        let row : Some (Row (e * sh.rows + i)) ≡ Some (Row q) = sym (kept_by-active f.slots (Shadow t (e * sh.rows + i)) t (place f p) refl b.active) ∙ sym is ∙ by_undo in
        let one : e * sh.rows + i ≡ q = cc in
        (λ old. copy-apart sh f flash e i s b.copied (one ∙ old), inr (same, sym one))

pub Keeps-undo_switched : (c : Chart) (e i p t : ℕ) → IsSound c → IsUndoBehind c.shape c.fields e i p t → Keeps c (with_undo p (Some (Shadow t (e * c.shape.rows + i))) c.fields)
Keeps-undo_switched c e i p t sound b =
    let own = owned-behind c.shape c.fields e i p t b in
    Keeps-shadowed c p t (e * c.shape.rows + i) sound b.page own
    (Sound-undone c.shape c.fields c.flash p (Shadow t (e * c.shape.rows + i)) b.page
    (record {
      slot = λ u is. let same : t ≡ u = cc in rw (← same) ((open-owned c.shape c.fields c.flash p t sound own).0, Slots.in_use (Sound.slots sound) p t (IsOwned.slot own));
      row = λ u q is. let same : e * c.shape.rows + i ≡ q = cc in rw (← same) (copy-range c.shape c.fields c.flash e i sound b.copied);
      few = few-owned c.shape c.fields c.flash p t (Some (Shadow t (e * c.shape.rows + i))) sound b.page own;
    })
    (References-switched c.shape c.fields c.flash c.fields.slots (set c.fields.undos p (Some (Shadow t (e * c.shape.rows + i)))) c.fields.places e i p sound b.copied (inr (named-behind c.shape c.fields e i p t b)) (λ r q n. Names-undo_switched c.shape c.fields c.flash e i p t r q sound b n))
    sound)
    same
  where
    same : HasKept c.fields c.flash p (Some (Row (e * c.shape.rows + i)))
    same j lt = ap (λ (row : List ℕ). get_or row j 0) (copy-same c.shape c.fields c.flash e i p sound b.copied (inr (named-behind c.shape c.fields e i p t b))) ∙ ap (λ (x : Option Place). word_at c.fields.frames c.flash x j) (sym (named-behind c.shape c.fields e i p t b))

pub Same-undo_switched : (c new : Chart) (e i p t q : ℕ) (r : Result Unit Off) → q ≡ e * c.shape.rows + i → IsSound c → p < c.shape.pages → (IsTrue c.on → IsCopied c.shape c.fields e i) → (IsTrue c.on → undo c.fields p ≡ Some (Shadow t (origin_of c.fields i))) → (IsTrue c.on → slot c.fields t ≡ Some Active) → (IsTrue c.on → place c.fields p ≢ Some (Row (origin_of c.fields i))) → Writes (with_undo p (Some (Shadow t q))) c r new → Same 0 0 c new
Same-undo_switched c new e i p t q r is sound page copied here active alone writes = Same-put c new (with_undo p (Some (Shadow t q))) r sound (λ on. subst (λ (x : ℕ). Keeps c (with_undo p (Some (Shadow t x)) c.fields)) (sym is) (Keeps-undo_switched c e i p t sound (record { page = page; copied = copied on; here = here on; active = active on; alone = alone on }))) refl writes
