-- The sizes of a board.
use Rattle.std.specs.Prelude.{ℕ, ◌≡◌, ◌⊎◌, ◌+◌, ◌-◌, ◌*◌, ◌≤◌, ◌==◌, ◌&&◌, ◌||◌, not, nat_lt, Result, Ok, Err, if◌then◌else◌}
use Rattle.envy_base.specs.declared.shape.Shape.{Shape}
use Rattle.envy_base.specs.declared.shape.ShapeFault.{ShapeFault}
use Rattle.envy_base.specs.declared.shape.ShapeFault.TheVariants.{Segments, Reserves, Sums, Rows, Pages, Frames, Entries, Share, Total}
use Rattle.envy_base.specs.declared.shape.TheConstants.{MOST_ROWS}

-- how many positions a board has: one for each segment but the spare
abbrev pub all_positions_of : Shape → ℕ
all_positions_of sh = sh.segments - 1

-- how many of them are in use: all but the last ones, which are in reserve
abbrev pub positions_of : Shape → ℕ
positions_of sh = all_positions_of sh - sh.reserves

-- the version of the map that formatting gives such a board: without reserves and sums it is 2, else 3
unfoldable pub version_of : Shape → ℕ
version_of sh = if (sh.reserves == 0) && (sh.sums == 0) then 2 else 3

-- a version that a board of this shape may have: that one, or 1 in place of 2
abbrev pub IsVersionOf : Shape → ℕ → Type 0
IsVersionOf sh version = (version ≡ version_of sh) ⊎ ((version ≡ 1) × (version_of sh ≡ 2))

-- the first rule that fails, of a board of so many rows at most
unfoldable pub checked_within : ℕ → Shape → Result Unit ShapeFault
checked_within most sh =
    if nat_lt sh.segments 4 || nat_lt 4096 sh.segments then Err Segments
    else (if nat_lt (sh.segments - 4) sh.reserves then Err Reserves
    else (if not (sh.sums == 0) then Err Sums
    else (if nat_lt sh.rows 2 || nat_lt 65536 sh.rows then Err Rows
    else (if sh.pages == 0 then Err Pages
    else (if nat_lt sh.frames 2 || nat_lt 65536 sh.frames then Err Frames
    else (if sh.entries == 0 || nat_lt 65536 sh.entries then Err Entries
    else (if nat_lt ((sh.segments - 2 - sh.reserves) * sh.rows) (sh.pages + sh.shadows) then Err Share
    else (if nat_lt most (sh.segments * sh.rows) then Err Total
    else Ok tt))))))))

abbrev pub checked : Shape → Result Unit ShapeFault
checked sh = checked_within MOST_ROWS sh

-- the sizes of a shape that checks
pub record IsShape (sh : Shape) : Type 0 where
  pub segments : 4 ≤ sh.segments
  pub few_segments : sh.segments ≤ 4096
  pub reserves : sh.reserves + 4 ≤ sh.segments
  -- no board keeps sums yet
  pub unsummed : sh.sums ≡ 0
  pub rows : 2 ≤ sh.rows
  pub few_rows : sh.rows ≤ 65536
  pub pages : 1 ≤ sh.pages
  pub frames : 2 ≤ sh.frames
  pub few_frames : sh.frames ≤ 65536
  pub entries : 1 ≤ sh.entries
  pub few_entries : sh.entries ≤ 65536
  pub share : sh.pages + sh.shadows ≤ (sh.segments - 2 - sh.reserves) * sh.rows
  pub few : sh.segments * sh.rows ≤ MOST_ROWS
  pub few_pages : sh.pages + sh.shadows ≤ MOST_ROWS
