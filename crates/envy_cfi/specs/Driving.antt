-- What a bus says of the chip behind it, and what the driver makes of that chip. Of a chip that isn't known nothing is
-- said.
use Rattle.std.specs.Prelude.{◌≡◌, ◌≢◌, ◌⊎◌, ⊤, ℕ, ◌+◌, ◌<◌, ◌≤◌, ◌/◌, true, false, List, Option, None, Some, Result, Ok, Err, length, slice_index, slice_set, bit_and}
use Rattle.envy_bank.specs.Commands.{ChipState, written, read_of, with_erased_block}
use Rattle.envy_bank.specs.declared.chip.Mode.TheVariants.{Array, Status}
use Rattle.envy_cfi.specs.declared.driver.DriverFault.{DriverFault}
use Rattle.envy_cfi.specs.declared.driver.DriverFault.TheVariants.{Failed, Late}

-- a write reaches the chip
abbrev pub Writes : Option ChipState → ℕ → ℕ → Option ChipState → Type 0
Writes None addr byte new = ⊤
Writes (Some c) addr byte new = addr < length c.bytes → new ≡ Some (written c addr byte)

abbrev pub Reads : Option ChipState → ℕ → ℕ → Type 0
Reads None addr byte = ⊤
Reads (Some c) addr byte = addr < length c.bytes → byte ≡ read_of c addr

-- bit 7 of a status tells that the part is ready, and bits 5, 4, 3 and 1 of an error
abbrev pub Tells : ℕ → Result Unit DriverFault → Type 0
Tells status (Ok done) = (bit_and status 0x80 ≢ 0) × (bit_and status 0x3A ≡ 0)
Tells status (Err Failed) = (bit_and status 0x80 ≢ 0) × (bit_and status 0x3A ≢ 0)
Tells status (Err Late) = bit_and status 0x80 ≡ 0

-- no error is told
pub record IsCalm (c : ChipState) : Type 0 where
  pub erase : c.erase_error ≡ false
  pub program : c.program_error ≡ false

-- the chip waits for a command
abbrev pub IsIdle : ChipState → Type 0
IsIdle c = (c.mode ≡ Array) ⊎ (c.mode ≡ Status)

-- an operation ends well where the chip tells of no error, and it always ends
abbrev pub EndsAs : ChipState → Result Unit DriverFault → Type 0
EndsAs c (Ok done) = IsCalm c
EndsAs c (Err Failed) = (c.erase_error ≡ true) ⊎ (c.program_error ≡ true)
EndsAs c (Err Late) = ⊥

abbrev pub Ends : Option ChipState → ℕ → Result Unit DriverFault → Type 0
Ends None addr answer = ⊤
Ends (Some c) addr answer = addr < length c.bytes → c.mode ≡ Status → EndsAs c answer

-- the chip of these bytes in array mode, with no error told
abbrev pub at_rest : ℕ → List ℕ → ChipState
at_rest rows bytes = record { bytes = bytes; rows = rows; mode = Array; erase_error = false; program_error = false }

-- to rest from wherever a command is waited for
abbrev pub Settles : Option ChipState → ℕ → Option ChipState → Type 0
Settles None addr new = ⊤
Settles (Some c) addr new = addr < length c.bytes → IsIdle c → new ≡ Some (at_rest c.rows c.bytes)

-- a byte is programmed where it sets no bit; else the AND stands there, and that is told
abbrev pub ByteAs : ℕ → ℕ → List ℕ → Result Unit DriverFault → List ℕ → Type 0
ByteAs addr byte old (Ok done) new = (bit_and (slice_index old addr) byte ≡ byte) × (new ≡ slice_set old addr byte)
ByteAs addr byte old (Err Failed) new = (bit_and (slice_index old addr) byte ≢ byte) × (new ≡ slice_set old addr (bit_and (slice_index old addr) byte))
ByteAs addr byte old (Err Late) new = ⊥

-- the first k bytes from an address on are those of the row, and nothing else changed
pub record Holds (addr k : ℕ) (row old new : List ℕ) : Type 0 where
  pub long : length new ≡ length old
  pub inside : (j : ℕ) → j < k → slice_index new (addr + j) ≡ slice_index row j
  pub below : (q : ℕ) → q < addr → slice_index new q ≡ slice_index old q
  pub above : (q : ℕ) → addr + k ≤ q → slice_index new q ≡ slice_index old q

-- a byte of the row sets a bit: the bytes before it are the row's, its own is the AND, and nothing else changed
pub record Fails (addr : ℕ) (row old new : List ℕ) : Type 0 where
  pub k : ℕ
  pub low : k < 256
  pub sets : bit_and (slice_index old (addr + k)) (slice_index row k) ≢ slice_index row k
  pub held : List ℕ
  pub before : Holds addr k row old held
  pub there : new ≡ slice_set held (addr + k) (bit_and (slice_index old (addr + k)) (slice_index row k))

-- the whole row stands there, unless one of its bytes sets a bit
abbrev pub RowAs : ℕ → List ℕ → List ℕ → Result Unit DriverFault → List ℕ → Type 0
RowAs addr row old (Ok done) new = Holds addr 256 row old new
RowAs addr row old (Err Failed) new = Fails addr row old new
RowAs addr row old (Err Late) new = ⊥

-- the block is all ones; an erase that was confirmed doesn't fail
abbrev pub EraseAs : ℕ → ℕ → List ℕ → Result Unit DriverFault → List ℕ → Type 0
EraseAs rows addr old (Ok done) new = new ≡ with_erased_block rows (addr / rows) old
EraseAs rows addr old (Err fault) new = ⊥

-- the chip that an order leaves, which waits for a command and tells what the answer says
pub record Leaves (c : ChipState) (answer : Result Unit DriverFault) (new : Option ChipState) (Made : List ℕ → Type 0) : Type 0 where
  pub left : ChipState
  pub is : new ≡ Some left
  pub rows : left.rows ≡ c.rows
  pub long : length left.bytes ≡ length c.bytes
  pub idle : IsIdle left
  pub told : EndsAs left answer
  pub made : Made left.bytes

-- from a chip that waits for a command, with no error told
abbrev pub OrdersByte : Option ChipState → ℕ → ℕ → Result Unit DriverFault → Option ChipState → Type 0
OrdersByte None addr byte answer new = ⊤
OrdersByte (Some c) addr byte answer new = addr < length c.bytes → IsIdle c → IsCalm c → Leaves c answer new (ByteAs addr byte c.bytes answer)

abbrev pub OrdersRow : Option ChipState → ℕ → List ℕ → Result Unit DriverFault → Option ChipState → Type 0
OrdersRow None addr row answer new = ⊤
OrdersRow (Some c) addr row answer new = addr + 256 ≤ length c.bytes → IsIdle c → IsCalm c → Leaves c answer new (RowAs addr row c.bytes answer)

-- the chip is at rest, with bytes that were made
pub record Rests (c : ChipState) (new : Option ChipState) (Made : List ℕ → Type 0) : Type 0 where
  pub bytes : List ℕ
  pub is : new ≡ Some (at_rest c.rows bytes)
  pub made : Made bytes

-- from array mode
abbrev pub ProgramsByte : Option ChipState → ℕ → ℕ → Result Unit DriverFault → Option ChipState → Type 0
ProgramsByte None addr byte answer new = ⊤
ProgramsByte (Some c) addr byte answer new = addr < length c.bytes → c.mode ≡ Array → Rests c new (ByteAs addr byte c.bytes answer)

abbrev pub ProgramsRow : Option ChipState → ℕ → List ℕ → Result Unit DriverFault → Option ChipState → Type 0
ProgramsRow None addr row answer new = ⊤
ProgramsRow (Some c) addr row answer new = addr + 256 ≤ length c.bytes → c.mode ≡ Array → Rests c new (RowAs addr row c.bytes answer)

abbrev pub Erases : Option ChipState → ℕ → Result Unit DriverFault → Option ChipState → Type 0
Erases None addr answer new = ⊤
Erases (Some c) addr answer new = addr < length c.bytes → c.mode ≡ Array → Rests c new (EraseAs c.rows addr c.bytes answer)
