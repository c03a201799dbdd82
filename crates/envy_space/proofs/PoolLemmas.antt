-- Pools that are a map's, when a row is claimed or a position changes.
use Rattle.std.proofs.Common.{◌≡◌, ◌⊎◌, inl, inr, ℕ, ◌+◌, ◌*◌, ◌/◌, ◌%◌, ◌<◌, ◌≤◌, List, [], get_or, set, Some, sym, ◌∙◌, ap, subst, arith, length}
use Rattle.std.proofs.lemmas.Bool.{cases_eq}
use Rattle.std.proofs.lemmas.List.{get_or-set_same, get_or-set_other, length-set, ext_get_or}
use Rattle.std.proofs.lemmas.Nat.{div-mul-add, mod-mul-add, mul-add-lt}
use Rattle.envy_base.specs.declared.shape.Shape.{Shape}
use Rattle.envy_base.specs.declared.fields.Job.TheVariants.{Copy, Erase}
use Rattle.envy_base.specs.State.{ones}
use Rattle.envy_map.specs.Fields.{Fields, Chart, with_fields}
use Rattle.envy_map.specs.Writes.{with_back, with_fill, with_position}
use Rattle.envy_soundness.specs.Claims.{IsUsable}
use Rattle.envy_soundness.specs.Sound.{Sound, Rows, Numbers, Blanks, IsSound, IsSpare}
use Rattle.envy_soundness.proofs.References.{apart-spare}
use Rattle.envy_space.specs.Pool.{Pool, IsPool, PoolAgrees, Claimed, StandsAt, with_filled, with_segment_at}
use Rattle.envy_base.specs.Shape.{all_positions_of}

-- the fill of a segment is another
pub PoolAgrees-claimed : (c new : Chart) (old pool : Pool) (s q p n : ℕ) → PoolAgrees c.shape c.fields old → new ≡ with_fields c (with_fill s n (with_back q p c.fields)) → pool ≡ with_filled s n old → PoolAgrees new.shape new.fields pool
PoolAgrees-claimed c new old pool s q p n agrees new_is pool_is =
    let made : PoolAgrees c.shape (with_fill s n (with_back q p c.fields)) (with_filled s n old) =
    record { shape = agrees.shape; fills = ap (λ (xs : List ℕ). set xs s n) agrees.fills; positions = agrees.positions; long = agrees.long; kept = agrees.kept } in
    subst (λ (x : Chart). PoolAgrees x.shape x.fields pool) (sym new_is)
    (subst (λ (y : Pool). PoolAgrees c.shape (with_fill s n (with_back q p c.fields)) y) (sym pool_is) made)

-- a free row of a usable segment is erased
erased-usable : (sh : Shape) (f : Fields) (flash : List (List ℕ)) (s q : ℕ) → Sound sh f flash → IsUsable sh f s → q < sh.segments * sh.rows → q / sh.rows ≡ s → get_or f.fills (q / sh.rows) 0 ≤ q % sh.rows → get_or flash q [] ≡ ones
erased-usable sh f flash s q sound usable range here above = at (Blanks.above sound.blanks q range above) usable
  where
    at : (get_or flash q [] ≡ ones) ⊎ ((f.job ≡ Some Erase) × IsSpare sh f.positions (q / sh.rows)) → IsUsable sh f s → get_or flash q [] ≡ ones
    at (inl is) usable = is
    at (inr (erase, spare)) (inl placed) = absurd (apart-spare sh f.positions s placed (subst (λ (x : ℕ). IsSpare sh f.positions x) here spare))
    at (inr (erase, spare)) (inr ((v, copy), own)) = let clash : Some Erase ≡ Some (Copy v) = sym erase ∙ copy in cc

-- the row at the fill, once it is claimed
pub Claimed-made : (c new : Chart) (s p n q : ℕ) → IsSound c → s < c.shape.segments → n < c.shape.rows → get_or c.fields.fills s 0 ≡ n → q ≡ s * c.shape.rows + n → IsUsable c.shape c.fields s → new ≡ with_fields c (with_fill s (n + 1) (with_back q p c.fields)) → Claimed new s p q
Claimed-made c new s p n q sound lt room is row usable new_is =
    let less = mul-add-lt s c.shape.rows n c.shape.segments lt room in
    let range : q < c.shape.segments * c.shape.rows = omega arith in
    let segment : q / c.shape.rows ≡ s = rw row (div-mul-add s c.shape.rows n room) in
    let place : q % c.shape.rows ≡ n = rw row (mod-mul-add s c.shape.rows n room) in
    let level : get_or c.fields.fills (q / c.shape.rows) 0 ≡ n = ap (λ (t : ℕ). get_or c.fields.fills t 0) segment ∙ is in
    let raised : get_or (set c.fields.fills s (n + 1)) (q / c.shape.rows) 0 ≡ n + 1 =
    ap (λ (t : ℕ). get_or (set c.fields.fills s (n + 1)) t 0) segment ∙ get_or-set_same c.fields.fills s (n + 1) 0 (rw (Numbers.fills_long (Sound.numbers sound)) lt) in
    subst (λ (x : Chart). Claimed x s p q) (sym new_is) (record {
      range = range;
      segment = segment;
      filled = omega arith;
      claimed = get_or-set_same c.fields.backs q p 0 (rw (Numbers.backs_long (Sound.numbers sound)) range);
      unnamed = λ r names. let low = Rows.filled (Sound.rows sound) r q names in omega arith;
      erased = erased-usable c.shape c.fields c.flash s q sound usable range segment (omega arith);
    })

-- the spare stands at a position
pub StandsAt-spare : (k e : ℕ) (old new : Pool) → k < all_positions_of old.shape → length old.positions ≡ all_positions_of old.shape → IsSpare old.shape old.positions e → StandsAt k e old new → new ≡ with_segment_at k e old
StandsAt-spare k e old new lt long spare stands =
    let count = ap (λ (sh : Shape). sh.segments) stands.shape in
    let new_long = IsPool.positions_long stands.is_pool in
    let set_long = length-set old.positions k e in
    let positions : new.positions ≡ set old.positions k e = ext_get_or 0 _ _ (omega arith) (λ j low. at j (omega arith) (cases_eq j k)) in
    ap (λ (x : Shape). record new { shape = x }) stands.shape
    ∙ ap (λ (x : List ℕ). record new { shape = old.shape; fills = x }) stands.fills
    ∙ ap (λ (x : List ℕ). record new { shape = old.shape; fills = old.fills; kept = x }) stands.kept
    ∙ ap (λ (x : List ℕ). record old { positions = x }) positions
  where
    at : (j : ℕ) → j < all_positions_of old.shape → (j ≡ k) ⊎ (j ≡ k → ⊥) → get_or new.positions j 0 ≡ get_or (set old.positions k e) j 0
    at j low (inl same) = ap (λ (i : ℕ). get_or new.positions i 0) same ∙ stands.here ∙ sym (ap (λ (i : ℕ). get_or (set old.positions k e) i 0) same ∙ get_or-set_same old.positions k e 0 (rw long lt))
    at j low (inr other) = stands.others j low other (spare.nowhere j low) ∙ sym (get_or-set_other old.positions k j e 0 other)

pub PoolAgrees-replaced : (c new : Chart) (old pool : Pool) (k e : ℕ) → PoolAgrees c.shape c.fields old → new ≡ with_fields c (with_position k e c.fields) → pool ≡ with_segment_at k e old → PoolAgrees new.shape new.fields pool
PoolAgrees-replaced c new old pool k e agrees new_is pool_is =
    let made : PoolAgrees c.shape (with_position k e c.fields) (with_segment_at k e old) =
    record { shape = agrees.shape; fills = agrees.fills; positions = ap (λ (xs : List ℕ). set xs k e) agrees.positions; long = agrees.long; kept = agrees.kept } in
    subst (λ (x : Chart). PoolAgrees x.shape x.fields pool) (sym new_is)
    (subst (λ (y : Pool). PoolAgrees c.shape (with_position k e c.fields) y) (sym pool_is) made)
