-- What the claim of a row needs, and what it leaves.
use Rattle.std.specs.Prelude.{◌≡◌, ℕ, ◌+◌, slice_index}
use Rattle.envy_map.specs.Fields.{Chart}
use Rattle.envy_soundness.specs.Claims.{IsUsable}
use Rattle.envy_soundness.specs.Sound.{IsSound}
use Rattle.envy_space.specs.Pool.{Pool, PoolAgrees, Claims, Claimed, with_filled}

-- the map is sound, the pool's numbers are the map's, and rows of segment s may be claimed
pub record MayClaim (c : Chart) (pool : Pool) (s : ℕ) : Type 0 where
  pub sound : IsSound c
  pub agrees : PoolAgrees c.shape c.fields pool
  pub usable : IsUsable c.shape c.fields s

-- row q of segment s was claimed for page p, and the pool has noted it
pub record ClaimsRow (old : Chart) (x : Pool) (s p q : ℕ) (new : Chart) (y : Pool) : Type 0 where
  pub claims : Claims old s p q new
  pub claimed : Claimed new s p q
  pub pool : y ≡ with_filled s (slice_index x.fills s + 1) x
