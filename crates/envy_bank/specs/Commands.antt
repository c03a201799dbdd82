-- A flash chip by its command table: what it holds, and what each byte that is written to it does.
use Rattle.std.specs.Prelude.{◌≡◌, ℕ, ◌+◌, ◌*◌, ◌/◌, ◌≤◌, ◌==◌, Bool, true, false, if◌then◌else◌, List, ◌++◌, take, drop, replicate, slice_index, slice_set, bit_and, length}
use Rattle.envy_bank.specs.declared.chip.TheConstants.{MOST_BYTES}
use Rattle.envy_bank.specs.declared.chip.Mode.{Mode}
use Rattle.envy_bank.specs.declared.chip.Mode.TheVariants.{Array, Status, ProgramSetup, EraseSetup}

-- the bytes in the order of their addresses, the number of rows (bytes) of a block, and the error bits of the status byte
pub record ChipState : Type 0 where
  pub bytes : List ℕ
  pub rows : ℕ
  pub mode : Mode
  pub erase_error : Bool
  pub program_error : Bool

-- a chip of erased blocks, in array mode, with no error
abbrev pub erased_chip : ℕ → ℕ → ChipState
erased_chip blocks rows = record { bytes = replicate (blocks * rows) 0xFF; rows = rows; mode = Array; erase_error = false; program_error = false }

-- every byte of the block is 0xFF
abbrev pub with_erased_block : ℕ → ℕ → List ℕ → List ℕ
with_erased_block rows block bytes = take (block * rows) bytes ++ (replicate rows 0xFF ++ drop (block * rows + rows) bytes)

-- a byte in array or status mode is a command
abbrev pub commanded : ChipState → ℕ → ChipState
commanded s byte =
    if byte == 0x40 then record s { mode = ProgramSetup }
    else (if byte == 0x20 then record s { mode = EraseSetup }
    else (if byte == 0x70 then record s { mode = Status }
    else (if byte == 0x50 then record s { erase_error = false; program_error = false }
    else (if byte == 0xFF then record s { mode = Array }
    else s))))

-- a byte in program setup clears bits of the byte at the address, and sets none; an error where that does not give it
abbrev pub programmed : ChipState → ℕ → ℕ → ChipState
programmed s addr byte =
    let cleared = bit_and (slice_index s.bytes addr) byte in
    record s { bytes = slice_set s.bytes addr cleared; program_error = if cleared == byte then s.program_error else true; mode = Status }

-- a byte in erase setup is 0xD0, which erases the address's block, or an error
abbrev pub confirmed : ChipState → ℕ → ℕ → ChipState
confirmed s addr byte =
    if byte == 0xD0 then record s { bytes = with_erased_block s.rows (addr / s.rows) s.bytes; mode = Status }
    else record s { erase_error = true; mode = Status }

-- the command table, by the mode in which the byte comes
abbrev written_in : Mode → ChipState → ℕ → ℕ → ChipState
written_in Array s addr byte = commanded s byte
written_in Status s addr byte = commanded s byte
written_in ProgramSetup s addr byte = programmed s addr byte
written_in EraseSetup s addr byte = confirmed s addr byte

-- the chip after a write of the byte at the address
abbrev pub written : ChipState → ℕ → ℕ → ChipState
written s addr byte = written_in s.mode s addr byte

-- the status byte: bit 7 is ready, bit 5 the erase error, bit 4 the program error
abbrev pub status_of : ChipState → ℕ
status_of s = 0x80 + (if s.erase_error then 0x20 else 0) + (if s.program_error then 0x10 else 0)

-- a read, by the mode in which it comes
abbrev read_in : Mode → ChipState → ℕ → ℕ
read_in Array s addr = slice_index s.bytes addr
read_in Status s addr = status_of s
read_in ProgramSetup s addr = status_of s
read_in EraseSetup s addr = status_of s

-- what a read at the address gives: the byte there in array mode, else the status byte
abbrev pub read_of : ChipState → ℕ → ℕ
read_of s addr = read_in s.mode s addr

-- the chip with any byte at the address, as a disturbed operation may leave it
abbrev pub upset_at : ChipState → ℕ → ℕ → ChipState
upset_at s addr byte = record s { bytes = slice_set s.bytes addr byte }

-- whole blocks of at least one row, and at most 1,048,576 bytes
pub record IsChip (bytes : List ℕ) (rows : ℕ) : Type 0 where
  pub blocks : ℕ
  pub whole : length bytes ≡ blocks * rows
  pub some_rows : 1 ≤ rows
  pub few : length bytes ≤ MOST_BYTES
