-- 256 chips side by side: the byte of each at one address is a lane, and 256 lanes make a row of 32 words.
use Rattle.std.specs.Prelude.{◌≡◌, ℕ, ◌*◌, ◌/◌, ◌%◌, ◌<◌, ◌≤◌, false, List, [], map, length, take, drop, slice_index, slice_index_or, slice_set, bit_and}
use Rattle.std.specs.List.{range_with_len, All}
use Rattle.std.specs.Int.{w64, to_le_bytes, from_le_bytes}
use Rattle.envy_bank.specs.declared.chip.TheConstants.{MOST_BYTES}
use Rattle.envy_bank.specs.declared.chip.Mode.TheVariants.{Array}
use Rattle.envy_bank.specs.Commands.{ChipState, with_erased_block}
use Rattle.envy_base.specs.declared.page.TheConstants.{PAGE_WORDS}

-- lane j of a row is byte j mod 8 of word j div 8, the least significant byte first
unfoldable pub lane_of : List ℕ → ℕ → ℕ
lane_of row j = slice_index (to_le_bytes w64 (slice_index row (j / 8))) (j % 8)

-- so a row is made of the words of eight lanes each
unfoldable pub row_from : List ℕ → List ℕ
row_from lanes = map (λ i. from_le_bytes w64 (take 8 (drop (8 * i) lanes))) (range_with_len 0 PAGE_WORDS)

-- the byte of each chip at the address q
abbrev pub lanes_at : List ChipState → ℕ → List ℕ
lanes_at chips q = map (λ c. slice_index c.bytes q) chips

-- the rows that the chips make, of which there are so many
abbrev pub rows_from : List ChipState → ℕ → List (List ℕ)
rows_from chips size = map (λ q. row_from (lanes_at chips q)) (range_with_len 0 size)

-- the chip gives its bytes when it is read, and has no error to tell
pub record IsReady (c : ChipState) : Type 0 where
  pub bytes : (q : ℕ) → slice_index c.bytes q < 256
  pub mode : c.mode ≡ Array
  pub erase_error : c.erase_error ≡ false
  pub program_error : c.program_error ≡ false

-- 256 such chips of one size, in blocks of one size
pub record AreLanes (size rows : ℕ) (chips : List ChipState) : Type 0 where
  pub count : length chips ≡ 256
  pub sizes : All (λ c. length c.bytes ≡ size) chips
  pub blocks : All (λ c. c.rows ≡ rows) chips
  pub ready : All IsReady chips

-- the chip after a program from array mode back to array mode
abbrev pub anded : ℕ → ℕ → ChipState → ChipState
anded q byte c = record c { bytes = slice_set c.bytes q (bit_and (slice_index c.bytes q) byte) }

-- the chip after an erase from array mode back to array mode
abbrev pub blanked : ℕ → ChipState → ChipState
blanked q c = record c { bytes = with_erased_block c.rows (q / c.rows) c.bytes }

-- each chip has become what f makes of its lane and of it
pub record EachLane (f : ℕ → ChipState → ChipState) (old new : List ChipState) : Type 0 where
  pub long : length new ≡ length old
  pub each : (j : ℕ) (d : ChipState) → j < length old → slice_index_or new j d ≡ f j (slice_index_or old j d)

-- each chip has at the address its lane of the row
abbrev pub LanesHold : ℕ → List ℕ → List ChipState → Type 0
LanesHold q row chips = (j : ℕ) (d : ChipState) → j < length chips → slice_index (ChipState.bytes (slice_index_or chips j d)) q ≡ lane_of row j

-- the chips of a bank of so many blocks of so many rows, of which each has its lane of each row
pub record AreChips (blocks rows : ℕ) (chips : List ChipState) : Type 0 where
  pub some_rows : 1 ≤ rows
  pub few : blocks * rows ≤ MOST_BYTES
  pub wired : AreLanes (blocks * rows) rows chips
  pub lanes : (q : ℕ) → q < blocks * rows → LanesHold q (slice_index_or (rows_from chips (blocks * rows)) q []) chips
