-- The pool and the map after the spare was retired.
use Rattle.std.proofs.Common.{◌≡◌, ℕ, ◌<◌, List, get_or, set, sym, ◌∙◌, ap, subst}
use Rattle.envy_base.specs.Shape.{all_positions_of}
use Rattle.envy_base.specs.declared.shape.Shape.{Shape}
use Rattle.envy_map.specs.Fields.{Chart, with_fields}
use Rattle.envy_map.specs.Writes.{with_fill, with_position}
use Rattle.envy_soundness.specs.Sound.{IsSpare}
use Rattle.envy_space.specs.Pool.{Pool, IsPool, IsPoolOf, PoolAgrees, StandsAt, with_filled, with_segment_at}
use Rattle.envy_space.specs.Retiring.{RetiresTo}
use Rattle.envy_space.proofs.PoolLemmas.{StandsAt-spare}

pub retired-fields : (k e : ℕ) (c a b : Chart) → a ≡ with_fields c (with_fill e c.shape.rows c.fields) → b ≡ with_fields a (with_position k e a.fields) → b ≡ with_fields c (with_position k e (with_fill e c.shape.rows c.fields))
retired-fields k e c a b first second = second ∙ ap (λ (x : Chart). with_fields x (with_position k e x.fields)) first

pub retired-pool : (k e n rows : ℕ) (old mid new : Pool) → IsPool old → n ≡ rows → IsSpare old.shape old.positions e → k < all_positions_of old.shape → mid ≡ with_filled e n old → StandsAt k e mid new → new ≡ with_segment_at k e (with_filled e rows old)
retired-pool k e n rows old mid new pool same spare lt closed stands =
    StandsAt-spare k e (with_filled e rows old) new lt (IsPool.positions_long pool) spare
    (subst (λ (p : Pool). StandsAt k e p new) (closed ∙ ap (λ (m : ℕ). with_filled e m old) same) stands)

pub PoolAgrees-retired : (k e : ℕ) (c b : Chart) (old new : Pool) → PoolAgrees c.shape c.fields old → b ≡ with_fields c (with_position k e (with_fill e c.shape.rows c.fields)) → new ≡ with_segment_at k e (with_filled e c.shape.rows old) → PoolAgrees b.shape b.fields new
PoolAgrees-retired k e c b old new agrees is pool =
    let made : PoolAgrees c.shape (with_position k e (with_fill e c.shape.rows c.fields)) (with_segment_at k e (with_filled e c.shape.rows old)) =
    record {
      shape = IsPoolOf.shape agrees;
      fills = ap (λ (xs : List ℕ). set xs e c.shape.rows) (IsPoolOf.fills agrees);
      positions = ap (λ (xs : List ℕ). set xs k e) (IsPoolOf.positions agrees);
      long = IsPoolOf.long agrees;
      kept = IsPoolOf.kept agrees;
    } in
    subst (λ (x : Chart). PoolAgrees x.shape x.fields new) (sym is)
    (subst (λ (p : Pool). PoolAgrees c.shape (with_position k e (with_fill e c.shape.rows c.fields)) p) (sym pool) made)

pub RetiresTo-made : (k e : ℕ) (c a b : Chart) (old new : Pool) → PoolAgrees c.shape c.fields old → IsSpare old.shape old.positions e → a ≡ with_fields c (with_fill e c.shape.rows c.fields) → b ≡ with_fields a (with_position k e a.fields) → new ≡ with_segment_at k e (with_filled e c.shape.rows old) → IsSpare b.shape b.fields.positions (get_or a.fields.positions k 0) → RetiresTo c old k e b new
RetiresTo-made k e c a b old new agrees spare first second pool freed = record {
  spare = subst (λ (sh : Shape). IsSpare sh c.fields.positions e) (IsPoolOf.shape agrees) (subst (λ (xs : List ℕ). IsSpare old.shape xs e) (IsPoolOf.positions agrees) spare);
  fields = retired-fields k e c a b first second;
  pool = pool;
  freed = subst (λ (x : Chart). IsSpare b.shape b.fields.positions (get_or x.fields.positions k 0)) first freed;
}
