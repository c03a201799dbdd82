-- When the segments of two positions are to change places, so that segments wear alike.
use Rattle.std.specs.Prelude.{ℕ, ◌+◌, ◌-◌, ◌^◌, ◌<◌, ◌≤◌, List, [], ◌∷◌, drop, slice_index}
use Rattle.envy_base.specs.declared.shape.Shape.{Shape}
use Rattle.envy_map.specs.Fields.{Fields}
use Rattle.envy_wear.specs.declared.swap.Swap.{Swap}
use Rattle.envy_base.specs.Shape.{positions_of}

-- the wear of the segment at a position
abbrev pub wear_at : Fields → ℕ → ℕ
wear_at f k = slice_index f.wears (slice_index f.positions k)

-- of the positions below n, k has the most wear, and is the lowest of those with as much
pub record IsMostWorn (n : ℕ) (wear : ℕ → ℕ) (k : ℕ) : Type 0 where
  pub below : k < n
  pub most : (j : ℕ) → j < n → wear j ≤ wear k
  pub lowest : (j : ℕ) → j < k → wear j < wear k

-- and the least wear
pub record IsLeastWorn (n : ℕ) (wear : ℕ → ℕ) (k : ℕ) : Type 0 where
  pub below : k < n
  pub least : (j : ℕ) → j < n → wear k ≤ wear j
  pub lowest : (j : ℕ) → j < k → wear k < wear j

-- The most worn and the least worn position are further apart than the limit, and as many erases as the
-- limit says, or more, have begun since the last swap.
pub record IsDue (sh : Shape) (f : Fields) (limit since : ℕ) (s : Swap) : Type 0 where
  pub worn : IsMostWorn (positions_of sh) (wear_at f) s.worn
  pub young : IsLeastWorn (positions_of sh) (wear_at f) s.young
  pub apart : limit < wear_at f s.worn - wear_at f s.young
  pub enough : limit ≤ since

-- Before so many erases have begun since the last swap none can be due: what each wear word, of the spare too, lacks to
-- be further above another than the limit is at least what the erases lack to be so many. Each raises one word by one.
pub record IsQuiet (sh : Shape) (f : Fields) (limit since quiet : ℕ) : Type 0 where
  pub few : quiet < 2 ^ 64
  pub near : since < quiet → (a b : ℕ) → a < sh.segments → b < sh.segments → slice_index f.wears a + quiet ≤ slice_index f.wears b + limit + 1 + since

-- the positions whose relocations make a swap, in turn
abbrev pub stages_of : Swap → List ℕ
stages_of s = s.worn ∷ s.young ∷ s.worn ∷ []

-- those that are left, where so many are
abbrev pub last_stages : Swap → ℕ → List ℕ
last_stages s n = drop (3 - n) (stages_of s)
