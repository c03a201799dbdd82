-- CRC-32C by its shift register of 32 bits, which takes in one bit after another.
use Rattle.std.specs.Prelude.{ℕ, zero, suc, ◌-◌, ◌*◌, ◌/◌, ◌%◌, ◌^◌, ◌==◌, if◌then◌else◌, List, length, slice_index, bit_xor}
use Rattle.std.specs.Int.{bit_at}

-- the polynomial 1EDC6F41, its 32 bits in reverse order
abbrev pub polynomial : ℕ
polynomial = 0x82F63B78

abbrev pub all_ones : ℕ
all_ones = 2 ^ 32 - 1

-- The register shifts right. If the bit that it loses isn't the bit that it takes in, the polynomial is xored in.
unfoldable pub taken_in : ℕ → ℕ → ℕ
taken_in register bit = if register % 2 == bit then register / 2 else bit_xor (register / 2) polynomial

-- the register after the first n of these bits
unfoldable pub register_after : ℕ → (ℕ → ℕ) → ℕ → ℕ
register_after start bits zero = start
register_after start bits (suc n) = taken_in (register_after start bits n) (bits n)

-- The sum of n bits: the register starts as all ones, and at the end each of its bits is turned.
unfoldable pub sum_of_bits : (ℕ → ℕ) → ℕ → ℕ
sum_of_bits bits n = bit_xor (register_after all_ones bits n) all_ones

-- bit i of bytes: bit i mod 8 of byte i div 8, where bit 0 is the lowest
abbrev pub bit_of_bytes : List ℕ → ℕ → ℕ
bit_of_bytes bytes i = bit_at (slice_index bytes (i / 8)) (i % 8)

abbrev pub bytes_sum : List ℕ → ℕ
bytes_sum bytes = sum_of_bits (bit_of_bytes bytes) (8 * length bytes)
