-- The pool of a map in which a page names a row in place of another.
use Rattle.std.specs.Prelude.{ℕ, ◌*◌, ◌/◌, ◌<◌, slice_index}
use Rattle.envy_base.specs.declared.shape.Shape.{Shape}
use Rattle.envy_map.specs.Fields.{Fields}
use Rattle.envy_space.specs.Pool.{Pool, PoolAgrees, noted_kept, noted_dead}

-- A page of map g names row r in place of row q. The notes that q is dead and that r is kept may be made, and
-- the pool agrees with g then.
pub record Followed (sh : Shape) (g : Fields) (q r : ℕ) (pool : Pool) : Type 0 where
  pub row : q < pool.shape.segments * pool.shape.rows
  pub copy : r < pool.shape.segments * pool.shape.rows
  pub some : 0 < slice_index pool.kept (q / pool.shape.rows)
  pub room : slice_index (noted_dead q pool).kept (r / pool.shape.rows) < slice_index pool.fills (r / pool.shape.rows)
  pub agrees : PoolAgrees sh g (noted_kept r (noted_dead q pool))
