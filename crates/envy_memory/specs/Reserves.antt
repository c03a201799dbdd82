-- How many positions in reserve have a fresh segment, and how many one that was retired.
use Rattle.std.specs.Prelude.{◌≡◌, ◌↔◌, ◌==◌, ℕ, Bool, not, List, count_by, None, slice_index}
use Rattle.std.specs.List.{range_with_len}
use Rattle.envy_base.specs.Shape.{positions_of}
use Rattle.envy_base.specs.declared.shape.Shape.{Shape}
use Rattle.envy_map.specs.Fields.{Chart}
use Rattle.envy_space.specs.Retiring.{LowestFresh}

-- no row of the segment at position k has been claimed
abbrev pub is_fresh : List ℕ → List ℕ → ℕ → Bool
is_fresh fills positions k = slice_index fills (slice_index positions k) == 0

abbrev pub fresh_in : Shape → List ℕ → List ℕ → ℕ
fresh_in sh fills positions = count_by (is_fresh fills positions) (range_with_len (positions_of sh) sh.reserves)

abbrev pub retired_in : Shape → List ℕ → List ℕ → ℕ
retired_in sh fills positions = count_by (λ k. not (is_fresh fills positions k)) (range_with_len (positions_of sh) sh.reserves)

abbrev pub left : Chart → ℕ
left c = fresh_in c.shape c.fields.fills c.fields.positions

abbrev pub retired : Chart → ℕ
retired c = retired_in c.shape c.fields.fills c.fields.positions

-- none is left exactly where a bad erase of the spare is told, since no position in reserve is fresh
abbrev pub TellsErases : Chart → ℕ → Type 0
TellsErases c count = (count ≡ 0) ↔ LowestFresh c.shape c.fields.fills c.fields.positions None
