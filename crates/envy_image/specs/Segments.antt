-- The segments of a board as lines of comma-separated values.
use Rattle.std.specs.Prelude.{◌≡◌, ℕ, ◌-◌, ◌==◌, nat_lt, if◌then◌else◌, List, [], ◌∷◌, ◌++◌, map, slice_index, codes, decimal}
use Rattle.std.specs.List.{range_with_len}
use Rattle.envy_io.specs.Lines.{spelled}
use Rattle.envy_soundness.specs.Sound.{IsSpare}
use Rattle.envy_map.specs.Fields.{Chart}
use Rattle.envy_space.specs.Pool.{Pool, PoolAgrees, free_rows, dead_rows}
use Rattle.envy_base.specs.Shape.{all_positions_of, positions_of}
use Rattle.envy_image.specs.declared.line.Standing.{Standing}
use Rattle.envy_image.specs.declared.line.Standing.TheVariants.{Position, Reserve, Retired, Spare}

-- a number behind a comma
abbrev pub further : ℕ → List ℕ
further n = codes "," ++ decimal n

abbrev pub heading : List ℕ
heading = codes "segment,position,wear,fill,kept,free,dead"

-- the line of a segment: its number, where it stands, how often it was erased, and its rows of each kind
abbrev pub segment_line : Pool → List ℕ → List ℕ → ℕ → List ℕ
segment_line pool wears place s =
    decimal s ++ (codes "," ++ (place ++ (further (slice_index wears s) ++ (further (slice_index pool.fills s)
    ++ (further (slice_index pool.kept s) ++ (further (free_rows pool s) ++ further (dead_rows pool s)))))))

-- where a segment is, as it is told
abbrev pub text_of : Standing → List ℕ
text_of (Position k) = decimal k
text_of Reserve = codes "reserve"
text_of Retired = codes "retired"
text_of Spare = codes "spare"

-- at a position in use its number is told; at one in reserve, whether the segment there is fresh or retired
abbrev pub standing_at : Pool → ℕ → Standing
standing_at pool k =
    if nat_lt k (positions_of pool.shape) then Position k
    else (if slice_index pool.fills (slice_index pool.positions k) == 0 then Reserve else Retired)

-- the line of the segment at a position
abbrev pub line_at : Pool → List ℕ → ℕ → List ℕ
line_at pool wears k = segment_line pool wears (text_of (standing_at pool k)) (slice_index pool.positions k)

-- the heading, a line for each position, those in reserve last, and one for the spare
abbrev pub segments_text : Pool → List ℕ → ℕ → List ℕ
segments_text pool wears spare = spelled (heading ∷ (map (line_at pool wears) (range_with_len 0 (all_positions_of pool.shape))
    ++ segment_line pool wears (text_of Spare) spare ∷ []))

-- the text tells the segments of the board, whose rows the pool counts
pub record TellsSegments (c : Chart) (text : List ℕ) : Type 0 where
  pub pool : Pool
  pub counted : PoolAgrees c.shape c.fields pool
  pub spare : ℕ
  pub is_spare : IsSpare c.shape c.fields.positions spare
  pub is : text ≡ segments_text pool c.fields.wears spare
