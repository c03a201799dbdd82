-- The 256 chips that the rows of a bank mean, and the bytes by which a processor drives a chip.
use Rattle.std.specs.Prelude.{◌≡◌, ℕ, ◌<◌, false, List, map}
use Rattle.std.specs.List.{range_with_len}
use Rattle.envy_bank.specs.declared.chip.Mode.TheVariants.{Array}
use Rattle.envy_bank.specs.Commands.{ChipState, written, read_of}
use Rattle.envy_bank.specs.Lanes.{lane_of, row_from}
use Rattle.envy_bank.specs.Rows.{BankState}

-- Chip j holds lane j of each row, at the row's address. It is in array mode and has no error to tell.
abbrev pub chip_of : BankState → ℕ → ChipState
chip_of s j = record { bytes = map (λ row. lane_of row j) s.flash; rows = s.rows; mode = Array; erase_error = false; program_error = false }

-- the chip that was given 40, the byte, 50 and FF at the address: a program, the error cleared, array mode again
abbrev pub programmed_by_bytes : ℕ → ℕ → ChipState → ChipState
programmed_by_bytes q byte c = written (written (written (written c q 0x40) q byte) q 0x50) q 0xFF

-- the chip that was given 0x20, 0xD0, 0x50 and 0xFF at the address: an erase, the error cleared, array mode again
abbrev pub erased_by_bytes : ℕ → ChipState → ChipState
erased_by_bytes q c = written (written (written (written c q 0x20) q 0xD0) q 0x50) q 0xFF

-- each of the 256 chips has become what f makes of its lane and of it
abbrev pub EachChip : (ℕ → ChipState → ChipState) → BankState → BankState → Type 0
EachChip f old new = (j : ℕ) → j < 256 → chip_of new j ≡ f j (chip_of old j)

-- what reads of the 256 chips at the address give, as a row of 32 words
abbrev pub row_read : BankState → ℕ → List ℕ
row_read s q = row_from (map (λ j. read_of (chip_of s j) q) (range_with_len 0 256))
